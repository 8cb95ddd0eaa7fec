-- Passes in which no condition fails and all ranks stand: what that says of their parts.
use Rattle.std.proofs.Common.{◌≡◌, Bool, true, false, List, [], ◌++◌, refl, subst, Option, Some, None}
use Rattle.std.proofs.lemmas.Option.{same_Some, none-some}
use Rattle.p10_base.specs.declared.span.Span.{Span}
use Rattle.p10_base.specs.declared.at.At.{At}
use Rattle.p10_core.specs.declared.statements.LoopHead.{LoopHead}
use Rattle.p10_core.specs.declared.statements.LoopKeyword.{LoopKeyword}
use Rattle.p10_core.specs.declared.statements.LoopKeyword.TheVariants.{While, Do, For}
use Rattle.p10_core.specs.Typed.{PlainValue, PlainStatement, statement, loop, no_statements}
use Rattle.p10_cert.specs.Claims.{Value, Func, Loop, Claims}
use Rattle.p10_absx.specs.Environments.{Environment}
use Rattle.p10_pass.specs.Claiming.{head_of, ranges_hold, ranges_hold_reached, loop_claimed}
use Rattle.p10_pass.specs.Passing.{Left, Weakness, Manner, manner_in, where_going, followed, place_unless, rank_fails, weakness_of, Round, round_of, pass_statement, pass_statements, claimed_manner}
use Rattle.p10_core.specs.Typed.{PlainVariable, PlainFunction}
use Rattle.p10_sums.specs.Counting.{loops_claimed}
use Rattle.p10_execution.specs.Leaving.{NoneFails}
use Rattle.p10_execution.proofs.Ends.{nothing_left, nothing_right, followed_none_left, followed_none_right}

-- ## How calls and loops count

-- what is claimed of a result
abbrev pub result_claimed : Option Func → Option Value
result_claimed None = None
result_claimed (Some claim) = Some claim.result

-- the manner of a function under claims is one in which loops are claimed
pub manner_is : (c : Claims) (f : PlainFunction) (claim : Option Func) → claimed_manner c claim f.variables ≡ manner_in f (Some c) (Some (loops_claimed claim)) (result_claimed claim)
manner_is c f None = refl
manner_is c f (Some claim) = refl

-- ## Parts

-- what stands for the ranks of loops: it stands for those of each part
pub record Stands (Stood : List Weakness → Type 0) : Type 0 where
  pub nothing : Stood []
  pub left : (xs ys : List Weakness) → Stood (xs ++ ys) → Stood xs
  pub right : (xs ys : List Weakness) → Stood (xs ++ ys) → Stood ys

-- no condition fails in a pass, and all ranks stand
pub record IsFine (Stood : List Weakness → Type 0) (a : Left) : Type 0 where
  pub none : NoneFails a
  pub stood : Stood a.weak

module _ (Stood : List Weakness → Type 0) (stands : Stands Stood) where
  pub fine_left : (a b : Left) → IsFine Stood (followed a b) → IsFine Stood a
  fine_left a b h = record { none = followed_none_left a b h.none; stood = stands.left a.weak b.weak h.stood }

  pub fine_right : (a b : Left) → IsFine Stood (followed a b) → IsFine Stood b
  fine_right a b h = record { none = followed_none_right a b h.none; stood = stands.right a.weak b.weak h.stood }

  pub fine_going : (o : Option Environment) (go : Environment → Left) (e : Environment) → o ≡ Some e → IsFine Stood (where_going o go) → IsFine Stood (go e)
  fine_going None go e q h = absurd (none-some _ q)
  fine_going (Some k) go e q h = subst (λ e. IsFine Stood (go e)) (same_Some _ _ q) h

-- ## The turn of a loop

-- a keyword of a loop that begins with its test
abbrev pub BeginsWithTest : LoopKeyword → Type 0
BeginsWithTest While = Unit {0}
BeginsWithTest For = Unit {0}
BeginsWithTest Do = ⊥

-- the turn of such a loop
pub turn_is : (m : Manner) (keyword : LoopKeyword) (tested : Option PlainValue) (third body : Environment → Left) (head : Environment) → BeginsWithTest keyword → round_of m keyword tested third body head ≡ round_of m While tested third body head
turn_is m While tested third body head b = refl
turn_is m For tested third body head b = refl
turn_is m Do tested third body head b = absurd b

-- nothing fails in a turn, which goes back as is claimed
pub record IsFineTurn (Stood : List Weakness → Type 0) (claim : Loop) (variables : List PlainVariable) (r : Round) : Type 0 where
  pub names : r.names ≡ []
  pub results : r.body.results ≡ []
  pub entries : r.body.entries ≡ []
  pub backs : r.body.backs ≡ []
  pub back_holds : ranges_hold_reached claim variables r.back ≡ true
  pub stood : Stood r.body.weak

holds_unless : (b : Bool) (at : Span) → place_unless b at ≡ [] → b ≡ true
holds_unless true at e = refl
holds_unless false at e = absurd cc

module _ (f : PlainFunction) (c : Claims) (loops : List Loop) (result : Option Value) (Stood : List Weakness → Type 0) (stands : Stands Stood) where
  abbrev m : Manner
  m = manner_in f (Some c) (Some loops) result

  abbrev pub third_pass : Environment → Left
  third_pass env = pass_statements m no_statements env

  abbrev pub turn_of : LoopKeyword → Option PlainValue → PlainStatement → Environment → Round
  turn_of keyword tested body head = round_of m keyword tested third_pass (λ env. pass_statement m body env) head

  -- what a pass over a loop without clauses in which nothing fails says of its entry and of its turns
  pub record IsFineLoop (claim : Loop) (entry : Environment) (r : Round) : Type 0 where
    pub enters : ranges_hold claim 0 f.variables entry ≡ true
    pub turn : IsFineTurn Stood claim f.variables r

  module _ (head : LoopHead) (tested : Option PlainValue) (body : PlainStatement) (entry : Environment) where
    abbrev pub claim : Loop
    claim = loop_claimed loops head.number

    abbrev pub at_head : Environment
    at_head = head_of claim f.variables entry

    loop_fine : (r : Round) → r.names ≡ [] → r.body.results ≡ [] → place_unless (ranges_hold claim 0 f.variables entry) head.span ++ r.body.entries ≡ [] →
        place_unless (ranges_hold_reached claim f.variables r.back) head.span ++ r.body.backs ≡ [] → Stood (weakness_of head.number entry (rank_fails claim head.span entry r) ++ r.body.weak) → IsFineLoop claim entry r
    loop_fine r names results entries backs weak = record {
      enters = holds_unless (ranges_hold claim 0 f.variables entry) head.span (nothing_left _ r.body.entries entries);
      turn = record {
        names = names;
        results = results;
        entries = nothing_right (place_unless (ranges_hold claim 0 f.variables entry) head.span) r.body.entries entries;
        backs = nothing_right (place_unless (ranges_hold_reached claim f.variables r.back) head.span) r.body.backs backs;
        back_holds = holds_unless (ranges_hold_reached claim f.variables r.back) head.span (nothing_left _ r.body.backs backs);
        stood = stands.right (weakness_of head.number entry (rank_fails claim head.span entry r)) r.body.weak weak;
      };
    }

    pub task_fine : (at : At) → BeginsWithTest head.keyword → IsFine Stood (pass_statement m (statement at (loop head no_statements tested no_statements body)) entry) → IsFineLoop claim entry (turn_of While tested body at_head)
    task_fine at begins h =
        subst (λ r. IsFineLoop claim entry r) (turn_is m head.keyword tested third_pass (λ env. pass_statement m body env) at_head begins)
        (loop_fine (turn_of head.keyword tested body at_head) h.none.arguments h.none.results h.none.entries h.none.backs h.stood)
