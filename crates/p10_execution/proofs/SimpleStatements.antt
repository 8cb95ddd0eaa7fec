-- What is left by statements without parts: assignments, expressions, assertions and returns.
use Rattle.std.proofs.Common.{◌≡◌, ℕ, zero, suc, Bool, true, false, List, [], ◌++◌, refl, ◌∙◌, ap, sym, subst, Option, Some, None, slice_get, ℤ, Ok, Result, Err}
use Rattle.std.specs.Prelude.{if◌then◌else◌}
use Rattle.p10_base.specs.declared.span.Span.{Span}
use Rattle.p10_base.specs.declared.at.At.{At}
use Rattle.p10_int.specs.declared.operators.Stop.{Stop}
use Rattle.p10_core.specs.Types.{PlainType, void, integer, pointer, array, structure, unqualified}
use Rattle.p10_core.specs.Rows.{is_integer, fits}
use Rattle.p10_core.specs.Typed.{PlainValue, type_of, PlainPlace, place_at, place_type, statement, set, copy, evaluate as expression, asserts, PlainVariable, PlainFunction, PlainProgram}
use Rattle.p10_core.specs.Whole.{IsWholeValue, IsWholePlace}
use Rattle.p10_core.specs.WholePrograms.{around, Sets, IsTest, IsWholeProgram}
use Rattle.p10_cert.specs.Claims.{Value, Loop, Claims}
use Rattle.p10_meaning.specs.declared.pointers.Ptr.{Ptr}
use Rattle.p10_meaning.specs.declared.pointers.Scalar.{Scalar}
use Rattle.p10_meaning.specs.declared.pointers.Scalar.TheVariants.{Int}
use Rattle.p10_meaning.specs.Pointers.{holding}
use Rattle.p10_meaning.specs.States.{State, AssertionFailed, Progress, gives, ends, and_then}
use Rattle.p10_meaning.specs.Scalars.{is_true}
use Rattle.p10_meaning.specs.Values.{Setting, Held, Target, Variable, width, pointer_to, asserted, evaluate, discard, locate}
use Rattle.p10_meaning.specs.Statements.{Frame, Done, goes, part_of, write_part, write_target, copy_scalars, execute}
use Rattle.p10_meaning.specs.Calling.{Depth, setting_of, call_at}
use Rattle.p10_meaning.specs.Sound.{Kind, region_at}
use Rattle.p10_meaning.proofs.Moves.{OnOk}
use Rattle.p10_meaning.proofs.SoundParts.{HasType, TargetFits}
use Rattle.p10_sums.specs.Keeping.{HoldsOf}
use Rattle.p10_absx.specs.Abstract.{Abstract}
use Rattle.p10_absx.specs.Environments.{Environment}
use Rattle.p10_absx.specs.Assessing.{assess, known_where, abstract_value}
use Rattle.p10_absx.specs.Describing.{Describes, MaybeDescribes, MaybeHolds}
use Rattle.p10_pass.specs.Arguments.{has_value, failing_in, failing_at}
use Rattle.p10_pass.specs.Passing.{Left, Manner, manner_in, reached, with_calls, stored, set_value, pass_statement}
use Rattle.p10_evaluation.specs.Claimed.{ResultsLie}
use Rattle.p10_evaluation.specs.Laws.{IsHeldBy}
use Rattle.p10_execution.specs.Scoping.{KnowsNumbers}
use Rattle.p10_execution.specs.Standing.{StandsSoundly}
use Rattle.p10_execution.specs.Leaving.{NoneFails, LeavesAs}
use Rattle.p10_execution.proofs.Giving.{holds_step, holds_then, holds_after, holds_or, holds_both, holds_weaker}
use Rattle.p10_execution.proofs.Frames.{number_fits}
use Rattle.p10_execution.proofs.Ends.{calls_none, nothing_right, with_calls_as, reached_as}
use Rattle.p10_execution.proofs.Storing.{Points, locate_points, Goes, store_number, store_other}
use Rattle.p10_execution.proofs.Parts.{Given, ready_step, place_given, Valued, valued, discarded}

-- ## Types

pub integer_unqualified : (t : PlainType) → is_integer (unqualified t) ≡ is_integer t
integer_unqualified (void c) = refl
integer_unqualified (integer c i) = refl
integer_unqualified (pointer c t) = refl
integer_unqualified (array c t n) = refl
integer_unqualified (structure c n) = refl

set_is : (q : PlainPlace) (t : PlainType) (a : Abstract) (env : Environment) → is_integer t ≡ true → set_value q t (Some a) env ≡ Some (stored q a env)
set_is q t a env e = ap (λ b. if b then Some (stored q a env) else Some env) e

set_other : (q : PlainPlace) (t : PlainType) (a : Option Abstract) (env : Environment) → is_integer t ≡ false → set_value q t a env ≡ Some env
set_other q t None env e = ap (λ b. if b then None else Some env) e
set_other q t (Some a) env e = ap (λ b. if b then Some (stored q a env) else Some env) e

pub variable_typed : (p : PlainProgram) (variables : List PlainVariable) (t : PlainType) (ks : List Kind) (target : Target) → TargetFits p variables t ks target → (k : ℕ) → target ≡ Variable k → HasType p variables k t
variable_typed p variables t ks target fits k e = subst (λ x. TargetFits p variables t ks x) e fits

pub on_ok_of : {A : Type 0} (P : A → Type 0) (r : Result A Stop) (a : A) → OnOk P r → r ≡ Ok a → P a
on_ok_of P (Ok b) a h e = let same : b ≡ a = cc in subst P same h
on_ok_of P (Err stop) a h e = absurd cc

pub copy_same : (variables : List PlainVariable) (head : List Held) (env : Environment) (m i : ℕ) (to_span : Span) (to : Ptr) (from_span : Span) (from : Ptr) (frame : Frame) (w : State) → Describes variables env head frame.held →
    HoldsOf (Goes variables head (Some env)) (copy_scalars m i to_span to from_span from frame w)
copy_same variables head env zero i to_span to from_span from frame w d = d
copy_same variables head env (suc m) i to_span to from_span from frame w d =
    holds_step (Goes variables head (Some env)) w _ (λ left _. holds_or (Goes variables head (Some env)) (part_of w.objects from i) from_span (record w { left = left }) _ (λ cell _. holds_or (Goes variables head (Some env)) (write_part w.objects to i cell) to_span (record w { left = left }) _ (λ objects _.
    copy_same variables head env m (suc i) to_span to from_span from frame (record w { left = left; objects = objects }) d)))

module _ (p : PlainProgram) (whole : IsWholeProgram p) (n : ℕ) (depth : Depth) (number : ℕ) (f : PlainFunction) (there : slice_get p.functions number ≡ Some f)
    (calls : Option Claims) (loops : Option (List Loop)) (result : Option Value) (lie : ResultsLie p calls n (call_at n p depth)) where
  abbrev s : Setting
  s = setting_of p n (call_at n p) depth f

  abbrev m : Manner
  m = manner_in f calls loops result

  abbrev Stand : Frame → State → Type 0
  Stand frame w = StandsSoundly p f.variables n frame w

  -- what a pass says of what is left
  abbrev pub Says : Left → List Held → Done → State → Type 0
  Says a head d w = LeavesAs f.variables m a head d.flow d.frame.held

  abbrev pub ValueOf : Environment → List Held → PlainValue → Frame → Scalar → State → Type 0
  ValueOf env head v frame x w = Valued p whole n depth number f there calls lie env head v frame x w

  pub value_of : (scope : List ℕ) (v : PlainValue) → IsWholeValue (around (region_at p number f scope false false)) v → (env : Environment) (head : List Held) (frame : Frame) (w : State) → failing_in calls v env ≡ [] → Stand frame w → Describes f.variables env head frame.held →
      HoldsOf (ValueOf env head v frame) (evaluate s frame.held v w)
  value_of scope v i env head frame w none r d = valued p whole n depth number f there calls lie scope v i env head frame w none r d

  pub step_of : (frame : Frame) (w : State) (left : ℕ) → suc left ≡ w.left → Stand frame w → Stand frame (record w { left = left })
  step_of frame w left e r = ready_step p whole n depth number f there frame w left e r

  -- ends of statements that go on
  pub goes_says : (names : List Span) (o : Option Environment) (head : List Held) (run : Progress Done) → HoldsOf (Goes f.variables head o) run → HoldsOf (Says (with_calls names (reached o)) head) run
  goes_says names o head run h = holds_weaker (Goes f.variables head o) (Says (with_calls names (reached o)) head) run h
      (λ d w k. with_calls_as f.variables m head d.frame.held names (reached o) d.flow (reached_as f.variables m head d.frame.held o d.flow k))

  abbrev pub Located : PlainPlace → Frame → Target → State → Type 0
  Located q frame target w = Given p whole n depth number f there (TargetFits p f.variables (place_type q)) frame target w × Points frame.held q target

  pub located : (scope : List ℕ) (q : PlainPlace) → IsWholePlace (around (region_at p number f scope false false)) q → (frame : Frame) (w : State) → Stand frame w → HoldsOf (Located q frame) (locate s frame.held q w)
  located scope q i frame w r = holds_both (Given p whole n depth number f there (TargetFits p f.variables (place_type q)) frame) (λ target w. Points frame.held q target) (locate s frame.held q w)
      (place_given p whole n depth number f there scope q i frame w r) (locate_points s frame.held q w)

  -- ## `P = e;`

  set_written : (q : PlainPlace) (v : PlainValue) (ks : List Kind) (target : Target) (x : Scalar) (env : Environment) (head : List Held) (frame : Frame) (w : State) → type_of v ≡ unqualified (place_type q) → KnowsNumbers f.variables env → TargetFits p f.variables (place_type q) ks target → Points frame.held q target →
      ValueOf env head v frame x w → Describes f.variables env head frame.held → HoldsOf (Goes f.variables head (set_value q (type_of v) (abstract_value calls env v) env)) (write_target (place_at q).span target (holding x) frame w)
  set_written q v ks target x env head frame w t knows fits points h d = by_case (is_integer (type_of v)) refl
    where
      held_in : (z : ℤ) → x ≡ Int z → (a : Option Abstract) → abstract_value calls env v ≡ a → is_integer (type_of v) ≡ true → MaybeHolds head a z → HoldsOf (Goes f.variables head (set_value q (type_of v) a env)) (write_target (place_at q).span target (holding x) frame w)
      held_in z e None s i k = absurd k
      held_in z e (Some a) s i k =
          subst (λ o. HoldsOf (Goes f.variables head o) (write_target (place_at q).span target (holding x) frame w)) (sym (set_is q (type_of v) a env i))
          (subst (λ y. HoldsOf (Goes f.variables head (Some (stored q a env))) (write_target (place_at q).span target (holding y) frame w)) (sym e)
          (store_number p h.ready.kinds f.variables head env knows (place_at q).span frame h.ready.in_frame h.ready.fits d q target z a w points k))

      by_case : (b : Bool) → is_integer (type_of v) ≡ b → HoldsOf (Goes f.variables head (set_value q (type_of v) (abstract_value calls env v) env)) (write_target (place_at q).span target (holding x) frame w)
      by_case true i =
          let y = number_fits p h.ready.kinds (type_of v) x i h.typed in
          held_in y.0 y.1 (abstract_value calls env v) refl i (subst (λ x. IsHeldBy head (abstract_value calls env v) x) y.1 h.found.held_by)
      by_case false i = subst (λ o. HoldsOf (Goes f.variables head o) (write_target (place_at q).span target (holding x) frame w)) (sym (set_other q (type_of v) (abstract_value calls env v) env i))
          (store_other p h.ready.kinds f.variables head env knows (place_at q).span frame h.ready.in_frame h.ready.fits d q target (holding x) w (sym (integer_unqualified (place_type q)) ∙ (ap is_integer (sym t) ∙ i))
          (variable_typed p f.variables (place_type q) ks target fits))

  pub set_says : (scope : List ℕ) (at : At) (q : PlainPlace) (v : PlainValue) → Sets (around (region_at p number f scope false false)) q v → (env : Environment) → KnowsNumbers f.variables env → NoneFails (pass_statement m (statement at (set q v)) env) → (head : List Held) (frame : Frame) (w : State) → Stand frame w → Describes f.variables env head frame.held →
      HoldsOf (Says (pass_statement m (statement at (set q v)) env) head) (execute s (statement at (set q v)) frame w)
  set_says scope at q v i env knows none head frame w r d =
      let names : List Span = failing_at calls q env ++ failing_in calls v env in
      let o : Option Environment = set_value q (type_of v) (abstract_value calls env v) env in
      let none_in : failing_in calls v env ≡ [] = nothing_right (failing_at calls q env) (failing_in calls v env) (calls_none names (reached o) none) in
      goes_says names o head (execute s (statement at (set q v)) frame w)
      (holds_step (Goes f.variables head o) w _ (λ left e.
      holds_then (Located q frame) (Goes f.variables head o) (locate s frame.held q (record w { left = left })) _ (located scope q i.place frame (record w { left = left }) (step_of frame w left e r)) (λ target w g.
      holds_then (ValueOf env head v frame) (Goes f.variables head o) (evaluate s frame.held v w) _ (value_of scope v i.value env head frame w none_in g.0.ready d) (λ x w h.
      set_written q v g.0.ready.kinds target x env head frame w i.type_is knows g.0.typed g.1 h d))))

  -- ## Other statements

  pub copy_says : (scope : List ℕ) (at : At) (q r : PlainPlace) → (env : Environment) (head : List Held) (frame : Frame) (w : State) → Describes f.variables env head frame.held →
      HoldsOf (Says (pass_statement m (statement at (copy q r)) env) head) (execute s (statement at (copy q r)) frame w)
  copy_says scope at q r env head frame w d = goes_says (failing_at calls q env ++ failing_at calls r env) (Some env) head (execute s (statement at (copy q r)) frame w)
      (holds_step (Goes f.variables head (Some env)) w _ (λ left e.
      holds_after (Goes f.variables head (Some env)) (locate s frame.held q (record w { left = left })) _ (λ target w.
      holds_after (Goes f.variables head (Some env)) (locate s frame.held r w) _ (λ source w.
      copy_same f.variables head env (width p (place_type q)) 0 (place_at q).span (pointer_to target) (place_at r).span (pointer_to source) frame w d))))

  pub expression_says : (scope : List ℕ) (at : At) (v : PlainValue) → IsWholeValue (around (region_at p number f scope false false)) v → (env : Environment) → NoneFails (pass_statement m (statement at (expression v)) env) → (head : List Held) (frame : Frame) (w : State) → Stand frame w → Describes f.variables env head frame.held →
      HoldsOf (Says (pass_statement m (statement at (expression v)) env) head) (execute s (statement at (expression v)) frame w)
  expression_says scope at v i env none head frame w r d =
      let o : Option Environment = if has_value calls v env then Some env else None in
      goes_says (failing_in calls v env) o head (execute s (statement at (expression v)) frame w)
      (holds_step (Goes f.variables head o) w _ (λ left e.
      holds_then (λ x w. has_value calls v env ≡ true) (Goes f.variables head o) (discard s frame.held v (record w { left = left })) _
      (discarded p whole n depth number f there calls lie scope v i env head frame (record w { left = left }) (calls_none (failing_in calls v env) (reached o) none) (step_of frame w left e r) d)
      (λ x w h. subst (λ b. MaybeDescribes f.variables (if b then Some env else None) head frame.held) (sym h) d)))

  asserted_goes : (o : Option Environment) (head : List Held) (span : Span) (x : Scalar) (frame : Frame) (w : State) → (is_true x ≡ true → MaybeDescribes f.variables o head frame.held) →
      HoldsOf (Goes f.variables head o) (and_then (asserted span x w) (λ none w. goes frame w))
  asserted_goes o head span x frame w h = by_case (is_true x) refl
    where
      by_case : (b : Bool) → is_true x ≡ b → HoldsOf (Goes f.variables head o) (and_then (if b then gives None w else ends (AssertionFailed span) w) (λ (none : Option Scalar) w. goes frame w))
      by_case true e = h e
      by_case false e = tt

  pub asserts_says : (scope : List ℕ) (at call : At) (v : PlainValue) → IsTest (around (region_at p number f scope false false)) v → (env : Environment) → NoneFails (pass_statement m (statement at (asserts call v)) env) → (head : List Held) (frame : Frame) (w : State) → Stand frame w → Describes f.variables env head frame.held →
      HoldsOf (Says (pass_statement m (statement at (asserts call v)) env) head) (execute s (statement at (asserts call v)) frame w)
  asserts_says scope at call v i env none head frame w r d =
      let o : Option Environment = known_where true env (assess calls v env) in
      goes_says (failing_in calls v env) o head (execute s (statement at (asserts call v)) frame w)
      (holds_step (Goes f.variables head o) w _ (λ left e.
      holds_then (ValueOf env head v frame) (Goes f.variables head o) (evaluate s frame.held v (record w { left = left })) _ (value_of scope v i.whole env head frame (record w { left = left }) (calls_none (failing_in calls v env) (reached o) none) (step_of frame w left e r) d) (λ x w h.
      asserted_goes o head call.span x frame w (λ q. subst (λ t. MaybeDescribes f.variables (known_where t env (assess calls v env)) head frame.held) q h.found.known))))
