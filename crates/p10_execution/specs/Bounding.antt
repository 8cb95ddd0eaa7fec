-- What it is that a loop enters its body at most as often as is claimed.
use Rattle.std.specs.Prelude.{◌≡◌, ℕ, Bool, true, false, List, [], ◌∷◌, ◌++◌, Contains, Option}
use Rattle.p10_core.specs.declared.statements.LoopHead.{LoopHead}
use Rattle.p10_core.specs.declared.statements.LoopKeyword.{LoopKeyword}
use Rattle.p10_core.specs.Typed.{PlainValue, PlainStatement, statement, PlainStatementForm, block, if_then, if_else, loop, switch, PlainStatements, no_statements, more_statements, PlainFunction, PlainProgram}
use Rattle.p10_core.specs.WholePrograms.{declared_in, IsWholeStatementForm}
use Rattle.p10_cert.specs.declared.claims.Rank.{Rank}
use Rattle.p10_cert.specs.declared.claims.Rank.TheVariants.{Task}
use Rattle.p10_cert.specs.Claims.{Loop}
use Rattle.p10_meaning.specs.States.{State, Progress}
use Rattle.p10_meaning.specs.Values.{Setting, Held}
use Rattle.p10_meaning.specs.Statements.{Frame, Done, test, round}
use Rattle.p10_meaning.specs.Calling.{Depth, setting_of, call_at}
use Rattle.p10_meaning.specs.Sound.{region_at}
use Rattle.p10_sums.specs.Keeping.{LoopKeeps}
use Rattle.p10_absx.specs.Environments.{Environment}
use Rattle.p10_absx.specs.Describing.{Describes}
use Rattle.p10_pass.specs.Claiming.{loop_claimed}
use Rattle.p10_pass.specs.Passing.{Weakness}
use Rattle.p10_execution.specs.Scoping.{IsBefore}
use Rattle.p10_execution.specs.Standing.{StandsSoundly}

-- ## The loops of a function

-- the parts of a loop
pub record LoopTree : Type 0 where
  pub head : LoopHead
  pub first : PlainStatements
  pub tested : Option PlainValue
  pub third : PlainStatements
  pub body : PlainStatement

-- the loop as a form of statement
abbrev pub form_of : LoopTree → PlainStatementForm
form_of t = loop t.head t.first t.tested t.third t.body

abbrev mutual
  -- the loops in a statement, in text order of their keywords
  pub loop_trees : PlainStatement → List LoopTree
  loop_trees (statement at form) = trees_of_form form

  -- the same for a form of statement
  pub trees_of_form : PlainStatementForm → List LoopTree
  trees_of_form (block xs) = trees_among xs
  trees_of_form (if_then v x) = loop_trees x
  trees_of_form (if_else v x z) = loop_trees x ++ loop_trees z
  trees_of_form (loop head first tested third body) = record { head = head; first = first; tested = tested; third = third; body = body } ∷ loop_trees body
  trees_of_form (switch keyword v labels body) = loop_trees body
  trees_of_form form = []

  -- the same for statements, one after the other
  pub trees_among : PlainStatements → List LoopTree
  trees_among no_statements = []
  trees_among (more_statements x rest) = loop_trees x ++ trees_among rest

-- ## Bounds

-- a loop by its keyword enters its body at most n times from here on
abbrev pub EntersAtMost : LoopKeyword → ℕ → (Frame → State → Progress Bool) → (Frame → State → Progress Done) → Frame → State → Type 0
EntersAtMost keyword n test round frame w = LoopKeeps keyword n test round (λ frame w. Unit {0}) (λ frame w. Unit {0}) frame w

-- the loop with a number in a function enters its body at most as often as is claimed, after its first clause and wherever an environment
-- describes the frame
pub record IsBounded (p : PlainProgram) (n : ℕ) (depth : Depth) (number : ℕ) (f : PlainFunction) (loops : List Loop) (at : ℕ) (entry : Environment) : Type 0 where
  pub bounded : (t : LoopTree) → Contains (trees_among f.body) t → t.head.number ≡ at → (scope : List ℕ) (in_loop in_switch : Bool) → IsWholeStatementForm (region_at p number f scope in_loop in_switch) (form_of t) →
      IsBefore f.variables (declared_in t.body) entry → (outer : List Held) (frame : Frame) (w : State) → StandsSoundly p f.variables n frame w → Describes f.variables entry outer frame.held →
      let s : Setting = setting_of p n (call_at n p) depth f in EntersAtMost t.head.keyword (loop_claimed loops at).turns (test s t.tested) (round s t.third t.body) frame w

-- whether a claim is that of the task loop
abbrev pub is_task : Rank → Bool
is_task Task = true
is_task rank = false

-- the loops of a statement are loops of the function, and none is its task loop
pub record AreCounted (f : PlainFunction) (loops : List Loop) (trees : List LoopTree) : Type 0 where
  pub among : (t : LoopTree) → Contains trees t → Contains (trees_among f.body) t
  pub no_task : (t : LoopTree) → Contains trees t → is_task (loop_claimed loops t.head.number).rank ≡ false

-- each loop of which the pass says that its rank doesn't stand is bounded all the same
abbrev pub AreMadeUp : PlainProgram → ℕ → Depth → ℕ → PlainFunction → List Loop → List Weakness → Type 0
AreMadeUp p n depth number f loops weak = (k : Weakness) → Contains weak k → IsBounded p n depth number f loops k.at k.entry
