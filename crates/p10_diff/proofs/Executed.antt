-- Ranges with differences are a sound domain.
use Rattle.std.proofs.Common.{◌≡◌, ℕ, eqb, Bool, true, false, List, refl, ◌∙◌, ap, sym, subst, Option, Some, None, slice_get, ℤ, arith}
use Rattle.std.specs.Prelude.{nat_eq, if◌then◌else◌}
use Rattle.std.specs.Option.{option_map}
use Rattle.std.proofs.lemmas.Bool.{eqb-true, eqb-false}
use Rattle.std.proofs.lemmas.Bool.Decides.{nat_tests}
use Rattle.p10_base.specs.declared.at.At.{At}
use Rattle.p10_core.specs.Typed.{PlainValue, PlainPlace, place, variable, global, literal, index, member, dereference, PlainInitializer, not_initialized, single, copied, listed, PlainStatement, statement, PlainStatementForm, set, update, copy, evaluate as expression, asserts, declare, declare_static, empty, mark, PlainFunction, PlainProgram}
use Rattle.p10_core.specs.Whole.{IsWholeValue}
use Rattle.p10_core.specs.WholePrograms.{around, Declares, IsWholeStatement, IsWholeProgram}
use Rattle.p10_meaning.specs.declared.pointers.Scalar.{Scalar}
use Rattle.p10_meaning.specs.States.{State, Progress, AssertionFailed, gives, ends, and_then}
use Rattle.p10_meaning.specs.Scalars.{is_true}
use Rattle.p10_meaning.specs.Values.{Setting, Held, evaluate}
use Rattle.p10_meaning.specs.Statements.{Frame, Done, goes, execute}
use Rattle.p10_meaning.specs.Variables.{form_may_change}
use Rattle.p10_meaning.specs.Calling.{Depth, setting_of, call_at}
use Rattle.p10_meaning.specs.Sound.{region_at}
use Rattle.p10_sums.specs.Keeping.{HoldsOf}
use Rattle.p10_absx.specs.Environments.{Environment}
use Rattle.p10_pass.specs.Scopes.{left_scope, assigned_forgotten}
use Rattle.p10_execution.specs.Standing.{StandsSoundly}
use Rattle.p10_execution.proofs.Giving.{holds_step, holds_then, holds_both, holds_weaker}
use Rattle.p10_execution.proofs.Unchanged.{statement_stays}
use Rattle.p10_execution.proofs.Parts.{ready_step}
use Rattle.p10_walk.specs.Operations.{is_simple}
use Rattle.p10_walk.specs.Soundness.{Maybe, IsSound}
use Rattle.p10_walk.specs.Ranges.{ranges_of, DescribesNumbers}
use Rattle.p10_walk.proofs.Sound.{unmarked_stay}
use Rattle.p10_walk.proofs.Ranges.{ranges_sound}
use Rattle.p10_diff.specs.Differences.{Name, now, worth, Pair, has_name, Differences, unmarked_bounds, unmarked_fall}
use Rattle.p10_diff.specs.Expressions.{up, low}
use Rattle.p10_diff.specs.Domain.{only, assigned, assigned_to, declared, declared_as, seen, updated_up, updated_low, assume, after, differences, DescribesDifferences}
use Rattle.p10_diff.specs.Laws.{DifferencesAreSound}
use Rattle.p10_diff.proofs.Changed.{Unmarked, forgotten, unchanged, differs, differs_declared, assigned_so, hull_first, hull_second}
use Rattle.p10_diff.proofs.Assigned.{named_number, Rows, NumberSo, set_so, update_so}
use Rattle.p10_diff.proofs.Declared.{unset_at, unset_same, seen_describes, declare_so}
use Rattle.p10_diff.proofs.Assumed.{assumed}

-- a number that isn't the variable's
other_number : (k m : ℕ) → only m k ≡ false → eqb m k ≡ false
other_number k m e = by (eqb m k) refl
  where
    by : (b : Bool) → eqb m k ≡ b → eqb m k ≡ false
    by true q =
        let p : k ≡ m = sym (eqb-true m k q) in
        let t : nat_eq k m ≡ true = grind (arith, nat_tests, p) in
        absurd cc
    by false q = q

module _ (p : PlainProgram) (whole : IsWholeProgram p) (n : ℕ) (depth : Depth) (number_at : ℕ) (f : PlainFunction) (there : slice_get p.functions number_at ≡ Some f)
    (below above : ℕ) (base : Environment) where
  abbrev pair : Pair
  pair = record { variables = f.variables; below = below; above = above; head = base }

  abbrev s : Setting
  s = setting_of p n (call_at n p) depth f

  abbrev Stand : Frame → State → Type 0
  Stand frame w = StandsSoundly p f.variables n frame w

  abbrev D : Differences → List Held → List Held → Type 0
  D = DescribesDifferences pair

  abbrev Ranges : Option Environment → List Held → List Held → Type 0
  Ranges o head held = Maybe (DescribesNumbers f.variables) o head held

  mapped : (o : Option Environment) (g : Environment → Differences) (head held : List Held) → Ranges o head held → ((ranges : Environment) → DescribesNumbers f.variables ranges head held → D (g ranges) head held) → Maybe D (option_map g o) head held
  mapped None g head held d k = absurd d
  mapped (Some ranges) g head held d k = k ranges d

  -- ## What stays

  -- a statement without parts leaves all variables that it may not change
  stays : (at : At) (form : PlainStatementForm) (marks : ℕ → Bool) → ((k : ℕ) → marks k ≡ false → form_may_change k form ≡ false) → (frame : Frame) (w : State) → HoldsOf (λ (done : Done) w. Unmarked marks frame.held done.frame.held) (execute s (statement at form) frame w)
  stays at form marks h frame w = unmarked_stay marks frame (execute s (statement at form) frame w) (λ k q. statement_stays s (statement at form) k (h k q) frame w)

  module _ (scope : List ℕ) (l b : Bool) (at : At) (form : PlainStatementForm) (i : IsWholeStatement (region_at p number_at f scope l b) (statement at form)) (simple : is_simple form ≡ true)
      (e : Differences) (head : List Held) (frame : Frame) (w : State) (r : Stand frame w) (d : D e head frame.held) where
    abbrev known_after : Option Environment
    known_after = (ranges_of f.variables).after form e.ranges

    -- its ranges, with what else holds of it
    with_ranges : (P : Done → State → Type 0) (g : Environment → Differences) → HoldsOf P (execute s (statement at form) frame w) →
        ((done : Done) (w : State) → P done w → (ranges : Environment) → DescribesNumbers f.variables ranges head done.frame.held → D (g ranges) head done.frame.held) →
        HoldsOf (λ (done : Done) w. Maybe D (option_map g known_after) head done.frame.held) (execute s (statement at form) frame w)
    with_ranges P g h k = holds_weaker (λ (done : Done) w. Ranges known_after head done.frame.held × P done w) (λ (done : Done) w. Maybe D (option_map g known_after) head done.frame.held) (execute s (statement at form) frame w)
        (holds_both (λ (done : Done) w. Ranges known_after head done.frame.held) P (execute s (statement at form) frame w) ((ranges_sound p whole n depth number_at f there).executed scope l b at form i simple e.ranges head frame w r d.ranges) h)
        (λ done w j. mapped known_after g head done.frame.held j.0 (λ ranges q. k done w j.1 ranges q))

    -- no variable may change
    plain : ((k : ℕ) → form_may_change k form ≡ false) → HoldsOf (λ (done : Done) w. Maybe D (option_map (λ ranges. record e { ranges = ranges }) known_after) head done.frame.held) (execute s (statement at form) frame w)
    plain none = with_ranges (λ (done : Done) w. Unmarked (λ k. false) frame.held done.frame.held) (λ ranges. record e { ranges = ranges }) (stays at form (λ k. false) (λ k q. none k) frame w)
        (λ done w h ranges q. unchanged pair head frame.held done.frame.held (λ k. h k refl) e d ranges q)

    -- a variable may, and if it has a name its number is known
    one : (m : ℕ) (ups lows : Name → Option ℤ) → ((k : ℕ) → only m k ≡ false → form_may_change k form ≡ false) → HoldsOf (NumberSo p whole n depth number_at f there below above base head frame.held m ups lows) (execute s (statement at form) frame w) →
        HoldsOf (λ (done : Done) w. Maybe D (option_map (assigned pair m ups lows e) known_after) head done.frame.held) (execute s (statement at form) frame w)
    one m ups lows others h = with_ranges (λ (done : Done) w. Unmarked (only m) frame.held done.frame.held × NumberSo p whole n depth number_at f there below above base head frame.held m ups lows done w) (assigned pair m ups lows e)
        (holds_both (λ (done : Done) w. Unmarked (only m) frame.held done.frame.held) (NumberSo p whole n depth number_at f there below above base head frame.held m ups lows) (execute s (statement at form) frame w) (stays at form (only m) others frame w) h)
        (λ done w h ranges q. assigned_so pair m head frame.held done.frame.held h.0 e (differs pair e head frame.held d) ranges q ups lows (λ t. (h.1 t).above) (λ t. (h.1 t).below))

    -- one is declared
    declared_one : (m : ℕ) → ((k : ℕ) → only m k ≡ false → form_may_change k form ≡ false) → HoldsOf (λ (done : Done) w. Maybe D (option_map (declared pair m e) known_after) head done.frame.held) (execute s (statement at form) frame w)
    declared_one m others = with_ranges (λ (done : Done) w. Unmarked (only m) frame.held done.frame.held) (declared pair m e) (stays at form (only m) others frame w)
        (λ done w h ranges q. forgotten pair (only m) head frame.held done.frame.held h e d ranges q)

  -- ## Declarations with a value

  -- where the variable has a name
  named_single : (scope : List ℕ) (l b : Bool) (at : At) (m : ℕ) (v : PlainValue) (i : Declares (region_at p number_at f scope l b) m (single v)) → has_name pair m ≡ true → (e : Differences) (head : List Held) (frame : Frame) (w : State) → Stand frame w → D e head frame.held →
      HoldsOf (λ (done : Done) w. Maybe D (after pair (declare m (single v)) e) head done.frame.held) (execute s (statement at (declare m (single v))) frame w)
  named_single scope l b at m v i named e head frame w r d =
      let number = named_number pair m named in
      let ups : Name → Option ℤ = up pair v (seen pair m e) in
      let lows : Name → Option ℤ = low pair v (seen pair m e) in
      let unset_held : List Held = (unset_at p whole n depth number_at f there below above base m frame).held in
      with_ranges scope l b at (declare m (single v)) i refl e head frame w r d
      (λ (done : Done) w. Unmarked (only m) frame.held done.frame.held × Rows head unset_held ups lows (worth head done.frame.held (now m))) (declared_as pair m (single v) e)
      (holds_both (λ (done : Done) w. Unmarked (only m) frame.held done.frame.held) (λ (done : Done) w. Rows head unset_held ups lows (worth head done.frame.held (now m))) (execute s (statement at (declare m (single v))) frame w)
      (stays at (declare m (single v)) (only m) (λ k q. other_number k m q) frame w) (declare_so p whole n depth number_at f there below above base scope l b at m v i number e head frame d w r))
      (λ done w2 h ranges q. assigned_so pair m head unset_held done.frame.held (λ k t. h.0 k t ∙ sym (unset_same p whole n depth number_at f there below above base m frame.held k t)) (seen pair m e)
      (differs pair (seen pair m e) head unset_held (seen_describes p whole n depth number_at f there below above base scope l b at m v i number e head frame d w r)) ranges q ups lows (λ t. h.1.above) (λ t. h.1.below))

  single_so : (scope : List ℕ) (l b : Bool) (at : At) (m : ℕ) (v : PlainValue) (i : Declares (region_at p number_at f scope l b) m (single v)) (e : Differences) (head : List Held) (frame : Frame) (w : State) → Stand frame w → D e head frame.held →
      HoldsOf (λ (done : Done) w. Maybe D (after pair (declare m (single v)) e) head done.frame.held) (execute s (statement at (declare m (single v))) frame w)
  single_so scope l b at m v i e head frame w r d = by (has_name pair m) refl
    where
      by : (t : Bool) → has_name pair m ≡ t → HoldsOf (λ (done : Done) w. Maybe D (after pair (declare m (single v)) e) head done.frame.held) (execute s (statement at (declare m (single v))) frame w)
      by true named = named_single scope l b at m v i named e head frame w r d
      by false named = with_ranges scope l b at (declare m (single v)) i refl e head frame w r d (λ (done : Done) w. Unmarked (only m) frame.held done.frame.held) (declared_as pair m (single v) e)
          (stays at (declare m (single v)) (only m) (λ k q. other_number k m q) frame w)
          (λ done w2 h ranges q. assigned_so pair m head frame.held done.frame.held h (seen pair m e) (differs_declared pair m e (seen pair m e).ranges head frame.held d) ranges q (up pair v (seen pair m e)) (low pair v (seen pair m e)) (λ t. absurd (unnamed t)) (λ t. absurd (unnamed t)))
        where
          unnamed : has_name pair m ≡ true → ⊥
          unnamed t = cc

  -- ## Assertions

  asserted_so : (at call : At) (v : PlainValue) (scope : List ℕ) → IsWholeValue (around (region_at p number_at f scope false false)) v → (e : Differences) (head : List Held) (frame : Frame) (w : State) → Stand frame w → D e head frame.held →
      HoldsOf (λ (done : Done) w. Maybe D (assume pair v true e) head done.frame.held) (execute s (statement at (asserts call v)) frame w)
  asserted_so at call v scope i e head frame w r d =
      holds_step P w _ (λ left q.
      holds_then (λ x w. Maybe D (assume pair v (is_true x) e) head frame.held) P (evaluate s frame.held v (record w { left = left })) _
      (assumed p whole n depth number_at f there below above base head frame scope v i e (record w { left = left }) (ready_step p whole n depth number_at f there frame w left q r) d) (λ x u k. by (is_true x) u k))
    where
      P : Done → State → Type 0
      P done w = Maybe D (assume pair v true e) head done.frame.held

      by : (t : Bool) (u : State) → Maybe D (assume pair v t e) head frame.held → HoldsOf P (and_then (if t then gives None u else ends (AssertionFailed call.span) u) (λ (none : Option Scalar) w. goes frame w))
      by true u k = k
      by false u k = tt

  -- ## All statements without parts

  executed : (scope : List ℕ) (l b : Bool) (at : At) (form : PlainStatementForm) → IsWholeStatement (region_at p number_at f scope l b) (statement at form) → is_simple form ≡ true → (e : Differences) (head : List Held) (frame : Frame) (w : State) → Stand frame w → D e head frame.held →
      HoldsOf (λ (done : Done) w. Maybe D (after pair form e) head done.frame.held) (execute s (statement at form) frame w)
  executed scope l b at (set (place at2 t (variable m)) v) i simple e head frame w r d =
      one scope l b at (set (place at2 t (variable m)) v) i simple e head frame w r d m (up pair v e) (low pair v e) (λ k q. other_number k m q) (set_so p whole n depth number_at f there below above base scope at at2 t m v i e head frame w r d)
  executed scope l b at (set (place at2 t form) v) i simple e head frame w r d = plain scope l b at (set (place at2 t form) v) i simple e head frame w r d (λ k. refl)
  executed scope l b at (update kind op t (place at2 t2 (variable m)) v) i simple e head frame w r d =
      one scope l b at (update kind op t (place at2 t2 (variable m)) v) i simple e head frame w r d m (updated_up pair e op t (place at2 t2 (variable m)) v) (updated_low pair e op t (place at2 t2 (variable m)) v) (λ k q. other_number k m q)
      (update_so p whole n depth number_at f there below above base scope at at2 kind op t t2 m v i e head frame w r d)
  executed scope l b at (update kind op t (place at2 t2 form) v) i simple e head frame w r d = plain scope l b at (update kind op t (place at2 t2 form) v) i simple e head frame w r d (λ k. refl)
  executed scope l b at (declare m (single v)) i simple e head frame w r d = single_so scope l b at m v i e head frame w r d
  executed scope l b at (declare m initializer) i simple e head frame w r d = declared_one scope l b at (declare m initializer) i simple e head frame w r d m (λ k q. other_number k m q)
  executed scope l b at (asserts call v) i simple e head frame w r d = asserted_so at call v scope i.whole e head frame w r d
  executed scope l b at (copy q z) i simple e head frame w r d = plain scope l b at (copy q z) i simple e head frame w r d (λ k. refl)
  executed scope l b at (expression v) i simple e head frame w r d = plain scope l b at (expression v) i simple e head frame w r d (λ k. refl)
  executed scope l b at (declare_static k) i simple e head frame w r d = plain scope l b at (declare_static k) i simple e head frame w r d (λ k. refl)
  executed scope l b at empty i simple e head frame w r d = plain scope l b at empty i simple e head frame w r d (λ k. refl)
  executed scope l b at (mark kind) i simple e head frame w r d = plain scope l b at (mark kind) i simple e head frame w r d (λ k. refl)
  executed scope l b at form i simple e head frame w r d = absurd cc

pub differences_sound : DifferencesAreSound
differences_sound p whole n depth number_at f there below above base =
    let ranges = ranges_sound p whole n depth number_at f there in
    let pair : Pair = record { variables = f.variables; below = below; above = above; head = base } in
    record {
      executed = executed p whole n depth number_at f there below above base;
      assumed = λ scope v i e head frame w r d. assumed p whole n depth number_at f there below above base head frame scope v i e w r d;
      valued = λ scope v i e head frame w r d. ranges.valued scope v i e.ranges head frame w r d.ranges;
      hull_left = λ a b head held d. hull_first pair a b head held d (ranges.hull_left a.ranges b.ranges head held d.ranges);
      hull_right = λ a b head held d. hull_second pair a b head held d (ranges.hull_right a.ranges b.ranges head held d.ranges);
      left = λ ss e head held d. unchanged pair head held held (λ k. refl) e d (left_scope ss e.ranges) (ranges.left ss e.ranges head held d.ranges);
      forgot = λ marks e head held frame w r d stays. forgotten pair marks head held frame.held stays e d (assigned_forgotten marks f.variables e.ranges) (ranges.forgot marks e.ranges head held frame w r d.ranges stays);
    }
