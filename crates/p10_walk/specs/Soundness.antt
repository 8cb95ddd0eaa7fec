-- When a domain is sound: what is known after each operation describes every frame that comes of it.
use Rattle.std.specs.Prelude.{◌≡◌, ℕ, Bool, true, false, List, slice_get, Option, Some, None}
use Rattle.p10_base.specs.declared.at.At.{At}
use Rattle.p10_core.specs.Typed.{PlainValue, statement, PlainStatementForm, PlainStatements, PlainFunction, PlainProgram}
use Rattle.p10_core.specs.WholePrograms.{around, IsWholeStatement}
use Rattle.p10_core.specs.Whole.{IsWholeValue}
use Rattle.p10_meaning.specs.States.{State}
use Rattle.p10_meaning.specs.Scalars.{is_true}
use Rattle.p10_meaning.specs.Values.{Held, evaluate}
use Rattle.p10_meaning.specs.Statements.{Frame, Flow, normal, broken, continued, returned, Done, execute}
use Rattle.p10_meaning.specs.Calling.{Depth, setting_of, call_at}
use Rattle.p10_meaning.specs.Sound.{region_at}
use Rattle.p10_sums.specs.Keeping.{HoldsOf}
use Rattle.p10_execution.specs.Standing.{StandsSoundly}
use Rattle.p10_walk.specs.Operations.{Operations, is_simple}
use Rattle.p10_walk.specs.Walking.{Ends}

-- what is known describes what the variables of a frame hold, where the innermost loop's head had others
abbrev pub Meaning : Type 0 → Type 1
Meaning K = K → List Held → List Held → Type 0

-- the same where perhaps nothing is known since no state comes: then there is no such frame
abbrev pub Maybe : {K : Type 0} → (K → List Held → List Held → Type 0) → Option K → List Held → List Held → Type 0
Maybe D None head held = ⊥
Maybe D (Some e) head held = D e head held

-- the frame after a statement, by how execution goes on: what is known at that end describes it; of a `return` nothing is said
abbrev pub LeavesAs : {K : Type 0} → (K → List Held → List Held → Type 0) → Ends K → List Held → Flow → List Held → Type 0
LeavesAs D a head normal held = Maybe D a.normal head held
LeavesAs D a head broken held = Maybe D a.breaks head held
LeavesAs D a head continued held = Maybe D a.continues head held
LeavesAs D a head (returned x) held = Unit {0}

-- the laws of a domain in a function of a program, in frames of calls to some depth with at most n steps left
pub record IsSound (p : PlainProgram) (n : ℕ) (depth : Depth) (number : ℕ) (f : PlainFunction) (K : Type 0) (o : Operations K) (D : K → List Held → List Held → Type 0) : Type 0 where
  -- a statement without parts
  pub executed : (scope : List ℕ) (l b : Bool) (at : At) (form : PlainStatementForm) → IsWholeStatement (region_at p number f scope l b) (statement at form) → is_simple form ≡ true → (e : K) (head : List Held) (frame : Frame) (w : State) → StandsSoundly p f.variables n frame w → D e head frame.held →
      HoldsOf (λ (done : Done) w. Maybe D (o.after form e) head done.frame.held) (execute (setting_of p n (call_at n p) depth f) (statement at form) frame w)
  -- a value that is true or false, and one that has a number
  pub assumed : (scope : List ℕ) (v : PlainValue) → IsWholeValue (around (region_at p number f scope false false)) v → (e : K) (head : List Held) (frame : Frame) (w : State) → StandsSoundly p f.variables n frame w → D e head frame.held →
      HoldsOf (λ x w. Maybe D (o.assume (is_true x) v e) head frame.held) (evaluate (setting_of p n (call_at n p) depth f) frame.held v w)
  pub valued : (scope : List ℕ) (v : PlainValue) → IsWholeValue (around (region_at p number f scope false false)) v → (e : K) (head : List Held) (frame : Frame) (w : State) → StandsSoundly p f.variables n frame w → D e head frame.held →
      HoldsOf (λ x w. o.has_value v e ≡ true) (evaluate (setting_of p n (call_at n p) depth f) frame.held v w)
  -- either of two
  pub hull_left : (a b : K) (head held : List Held) → D a head held → D (o.hull a b) head held
  pub hull_right : (a b : K) (head held : List Held) → D b head held → D (o.hull a b) head held
  -- the end of a block
  pub left : (ss : PlainStatements) (e : K) (head held : List Held) → D e head held → D (o.left_scope ss e) head held
  -- a frame in which all variables without a mark hold what they held
  pub forgot : (marks : ℕ → Bool) (e : K) (head held : List Held) (frame : Frame) (w : State) → StandsSoundly p f.variables n frame w → D e head held →
      ((k : ℕ) → marks k ≡ false → slice_get frame.held k ≡ slice_get held k) → D (o.forget marks e) head frame.held
