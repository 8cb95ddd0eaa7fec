-- Reads at places that are located, and arrays: the pointers that they are, and their elements.
use Rattle.std.proofs.Common.{◌≡◌, ℕ, ◌+◌, ◌<◌, ltb, ◌&&◌, not, Bool, true, false, List, [], ◌∷◌, refl, sym, ◌∙◌, ap, subst, arith, Option, Some, None, Ok, Err, slice_get, ℤ, pos, negsuc, ◌≤ℤ◌, ◌<ℤ◌}
use Rattle.std.specs.Prelude.{if◌then◌else◌, int_le, int_lt, ◌+ℤ◌}
use Rattle.std.proofs.lemmas.Int.{ints}
use Rattle.std.proofs.lemmas.Bool.{eqb-true, and_parts, lt-ltb, le-leb}
use Rattle.std.proofs.lemmas.Option.{same_Some, none-some}
use Rattle.p10_base.specs.declared.span.Span.{Span}
use Rattle.p10_base.specs.declared.at.At.{At}
use Rattle.p10_int.specs.declared.types.IntType.{IntType}
use Rattle.p10_int.specs.declared.operators.Stop.TheVariants.{U6, U7}
use Rattle.p10_range.specs.Ranges.{IsMember}
use Rattle.p10_range.proofs.Signs.{of_le, of_lt}
use Rattle.p10_core.specs.Types.{PlainType, integer}
use Rattle.p10_core.specs.Rows.{is_scalar}
use Rattle.p10_core.specs.Typed.{PlainValue, value, type_of, decay, PlainPlace, place, place_type, variable, global, literal, index, member, dereference, PlainVariable, PlainFunction, PlainProgram}
use Rattle.p10_core.specs.Whole.{Surroundings, IsVariable, Decays, IsElement, IsWholeValue, IsWholePlace}
use Rattle.p10_core.specs.WholePrograms.{is_among, around, IsWholeProgram}
use Rattle.p10_cert.specs.Claims.{Value, Loop, Claims}
use Rattle.p10_meaning.specs.declared.pointers.Ptr.TheVariants.{Null, To}
use Rattle.p10_meaning.specs.declared.pointers.Window.{Window}
use Rattle.p10_meaning.specs.declared.pointers.Cell.{Cell}
use Rattle.p10_meaning.specs.declared.pointers.Scalar.{Scalar}
use Rattle.p10_meaning.specs.declared.pointers.Scalar.TheVariants.{Int, Pointer}
use Rattle.p10_meaning.specs.Pointers.{window_in, scalar_of, read_of}
use Rattle.p10_meaning.specs.Objects.{declared, Object, find, on_ok, or_stop, cell_at, placed, shift, inner}
use Rattle.p10_meaning.specs.States.{State, gives, or_undefined}
use Rattle.p10_meaning.specs.Scalars.{number_of, pointer_of}
use Rattle.p10_meaning.specs.Values.{Setting, Held, holds, stands, absent, width, element_type, element_count, held_cell, sensed_from, sensed, read_target, Target, Variable, Sensor, Element, pointer_to, used, evaluate, perform, locate}
use Rattle.p10_meaning.specs.Statements.{Frame}
use Rattle.p10_meaning.specs.Calling.{Depth, setting_of, call_at}
use Rattle.p10_meaning.specs.Sound.{region_at}
use Rattle.p10_meaning.proofs.LaidOut.{laid_out, all_at}
use Rattle.p10_meaning.proofs.SoundParts.{TargetFits}
use Rattle.p10_absx.specs.Abstract.{Abstract}
use Rattle.p10_absx.specs.Environments.{Environment}
use Rattle.p10_absx.specs.Assessing.{abstract_value}
use Rattle.p10_absx.specs.Describing.{MaybeHolds}
use Rattle.p10_pass.specs.Arguments.{has_value, failing_in}
use Rattle.p10_pass.specs.Passing.{Manner, manner_in}
use Rattle.p10_evaluation.specs.Claimed.{ResultsLie}
use Rattle.p10_evaluation.specs.Laws.{IsHeldBy}
use Rattle.p10_evaluation.proofs.Failing.{in_decay, in_index}
use Rattle.p10_clean.specs.Settings.{Settings, is_set}
use Rattle.p10_clean.specs.Literals.{lies_in_literal, points_in_literal}
use Rattle.p10_clean.specs.Values.{is_frame, read_flaws, index_lies}
use Rattle.p10_clean_soundness.specs.private.Stays.{Stays, HasValue}
use Rattle.p10_clean_soundness.specs.private.Setting.{IsFilled, StandsFor}
use Rattle.p10_clean_soundness.specs.private.Objects.{Survives, LeavesClean, IsReached}
use Rattle.p10_clean_soundness.specs.private.Standing.{StandsClean}
use Rattle.p10_clean_soundness.proofs.Staying.{stays_step, stays_then, stays_or, stays_with, stays_weaker, stays_holds}
use Rattle.p10_clean_soundness.proofs.Closing.{leaves_same, leaves_then}
use Rattle.p10_clean_soundness.proofs.Writing.{read_ok}
use Rattle.p10_clean_soundness.proofs.WritingPlaces.{cell_there}
use Rattle.p10_clean_soundness.proofs.Flawless.{no_flaw, InIndex, in_index as clean_index}
use Rattle.p10_clean_soundness.proofs.Operated.{IsNumberOf, number_of_type}
use Rattle.p10_clean_soundness.proofs.Places.{IsInScope, in_scope, stands_for, IsElementTarget, element_of, inner_is, both_true}
use Rattle.p10_clean_soundness.proofs.Evaluated.{step_on, IsOfFrame, IsClear, Performed, Performs, Evaluates, evaluates, Located, Locates, After, after, AfterPlace, after_place}

-- ## Cells

filled_read : (cell : Cell) → IsFilled cell → (x : Scalar) × (read_of cell ≡ Ok x)
filled_read cell h = (h.scalar, ap scalar_of h.is)

-- ## Pointers into an array

-- a pointer to the first element of an array is moved to one of its elements
shift_is : (objects : List Object) (o : ℕ) (window : Window) (k : ℕ) (x : Object) → find o objects ≡ Some x → k < window.count → shift objects (To o window 0) (pos k) ≡ Ok (To o window k)
shift_is objects o window k x e l =
    ap (λ y. on_ok (or_stop y U7) (λ _. placed o window (pos 0 +ℤ pos k))) e
    ∙ (ap (placed o window) (plus k) ∙ ap (λ (b : Bool). if b then Ok (To o window k) else Err U6) (le-leb k window.count (omega (arith, l))))
  where
    plus : (k : ℕ) → pos 0 +ℤ pos k ≡ pos k
    plus k = omega (arith, ints)

-- a number that lies in an array
record IsPosition (count : ℕ) (z : ℤ) : Type 0 where
  position : ℕ
  is : z ≡ pos position
  below : position < count

position_of : (head : List Held) (count : ℕ) (a : Option Abstract) (z : ℤ) → index_lies count a ≡ true → MaybeHolds head a z → IsPosition count z
position_of head count None z e h = absurd h
position_of head count (Some a) z e h =
    let parts = and_parts (int_le (pos 0) a.range.low) (int_lt a.range.high (pos count)) e in
    by z (of_le (pos 0) a.range.low parts.0) (of_lt a.range.high (pos count) parts.1) h.member
  where
    by : (z : ℤ) → pos 0 ≤ℤ a.range.low → a.range.high <ℤ pos count → IsMember a.range z → IsPosition count z
    by (pos k) l u m = record { position = k; is = refl; below = omega (arith, ints, u, m.below) }
    by (negsuc k) l u m = absurd (omega (arith, ints, l, m.above))

module _ (p : PlainProgram) (whole : IsWholeProgram p) (n : ℕ) (depth : Depth) (number : ℕ) (f : PlainFunction) (there : slice_get p.functions number ≡ Some f)
    (calls : Option Claims) (loops : Option (List Loop)) (result : Option Value) (lie : ResultsLie p calls n (call_at n p depth)) (scope opening : List ℕ) (settings : Settings) (head : List Held) (frame : Frame) where
  abbrev s : Setting
  s = setting_of p n (call_at n p) depth f

  abbrev c : Surroundings
  c = around (region_at p number f scope false false)

  abbrev Stand : State → Type 0
  Stand w = StandsClean p f.variables n scope opening settings frame w

  abbrev IsAt : PlainPlace → State → Target → State → Type 0
  IsAt q w target u = Located p whole n depth number f there calls loops result lie scope opening settings head frame q w target u

  abbrev m : Manner
  m = manner_in f calls loops result

  abbrev Leaves : {A : Type 0} → State → A → State → Type 0
  Leaves w a u = LeavesClean p opening w.objects u

  abbrev Yields : PlainValue → Type 0
  Yields v = Evaluates p whole n depth number f there calls loops result lie scope opening settings head frame v

  abbrev Clear : PlainValue → Environment → Type 0
  Clear v env = IsClear p whole n depth number f there calls loops result lie scope opening settings head frame v env

  abbrev Given : PlainValue → Environment → State → Scalar → State → Type 0
  Given v env w x u = After p whole n depth number f there calls loops result lie scope opening settings head frame v env w x u

  abbrev Finds : PlainPlace → Type 0
  Finds q = Locates p whole n depth number f there calls loops result lie scope opening settings head frame q

  abbrev Found : PlainPlace → State → Target → State → Type 0
  Found q w target u = AfterPlace p whole n depth number f there calls loops result lie scope opening settings head frame q w target u

  -- ## Reads

  pub sensed_clean : (t : PlainType) (w : State) → Stand w → Stays (Leaves w) (sensed t w)
  sensed_clean t w st = by w.sensors
    where
      by : (sensors : List ℤ) → Stays (Leaves w) (sensed_from sensors t w)
      by [] = leaves_same p opening w st.settled
      by (z ∷ sensors) = leaves_same p opening (record w { sensors = sensors }) st.settled

  variable_read : (at : At) (t : PlainType) (j : ℕ) → IsVariable c j t → read_flaws m settings (place at t (variable j)) ≡ [] → (w : State) → Stand w → ((v : PlainVariable) → slice_get f.variables j ≡ Some v → v.frame ≡ true) →
      (x : Scalar) × (read_of (held_cell (slice_get frame.held j)) ≡ Ok x)
  variable_read at t j i e w st of_frame = by (slice_get frame.held j) (stands_for p whole n depth number f there calls loops result lie scope opening settings head frame settings st.set_up j here.variable_is here.among here.has)
    where
      here : IsInScope f.variables scope j
      here = in_scope f.variables scope j i.seen i.there

      in_frame : here.variable_is.frame ≡ true
      in_frame = of_frame here.variable_is here.has

      set_by : (b d : Bool) → b ≡ true → (b && not d) ≡ false → d ≡ true
      set_by true true q e = refl
      set_by true false q e = absurd cc
      set_by false d q e = absurd cc

      is_marked : is_set settings j ≡ true
      is_marked = set_by (is_frame (slice_get f.variables j)) (is_set settings j) (ap is_frame here.has ∙ in_frame) (no_flaw (is_frame (slice_get f.variables j) && not (is_set settings j)) 6 at.span e)

      by : (h : Option Held) → StandsFor here.variable_is.frame (is_set settings j) h → (x : Scalar) × (read_of (held_cell h) ≡ Ok x)
      by (Some (holds cell)) h = filled_read cell (h.1 is_marked)
      by (Some (stands o)) h = let e : true ≡ false = sym in_frame ∙ h in absurd cc
      by (Some absent) h = absurd h
      by None h = absurd h

  -- a scalar is read from a place that was located
  pub read_clean : (q : PlainPlace) → IsWholePlace c q → is_scalar (place_type q) ≡ true → read_flaws m settings q ≡ [] → (span : Span) (t : PlainType) (target : Target) (w : State) → (st : Stand w) → IsReached q opening w.objects target →
      IsOfFrame p whole n depth number f there calls loops result lie scope opening settings head frame target → TargetFits p f.variables (place_type q) st.soundly.kinds target → Stays (Leaves w) (read_target span t frame.held target w)
  read_clean (place at u (variable j)) i sc e span t (Variable k) w st r of_frame fits =
      let same : j ≡ k = eqb-true j k r in
      let x : (x : Scalar) × (read_of (held_cell (slice_get frame.held j)) ≡ Ok x) = variable_read at u j i e w st (subst (λ k. (v : PlainVariable) → slice_get f.variables k ≡ Some v → v.frame ≡ true) (sym same) of_frame) in
      stays_or (Leaves w) (read_of (held_cell (slice_get frame.held k))) x.0 span w _ (ap (λ k. read_of (held_cell (slice_get frame.held k))) (sym same) ∙ x.1) (leaves_same p opening w st.settled)
  read_clean (place at u (global j)) i sc e span t (Variable k) w st r of_frame fits = absurd cc
  read_clean (place at u (literal j bytes)) i sc e span t (Variable k) w st r of_frame fits = absurd cc
  read_clean (place at u (index a b)) i sc e span t (Variable k) w st r of_frame fits = absurd cc
  read_clean (place at u (member q j)) i sc e span t (Variable k) w st r of_frame fits = absurd cc
  read_clean (place at u (dereference v)) i sc e span t (Variable k) w st r of_frame fits = absurd cc
  read_clean q i sc e span t Sensor w st r of_frame fits = sensed_clean t w st
  read_clean q i sc e span t (Element Null) w st r of_frame fits = absurd r
  read_clean q i sc e span t (Element (To o window k)) w st r of_frame fits =
      let cell : (cell : Cell) × (slice_get r.object.cells (window.start + k) ≡ Some cell) =
      cell_there p (laid_out p whole) st.soundly.kinds w st.soundly.sound (place_type q) o window k fits r.inside r.within r.object r.there sc in
      let x : (x : Scalar) × (read_of cell.0 ≡ Ok x) = filled_read cell.0 (all_at IsFilled r.object.cells (window.start + k) cell.0 (st.settled.filled o r.object r.there r.apart) cell.1) in
      stays_or (Leaves w) (on_ok (cell_at w.objects (To o window k)) read_of) x.0 span w _
      (ap (λ y. on_ok y read_of) (read_ok w.objects o window k cell.0 r.object r.there r.inside r.within cell.1) ∙ x.1) (leaves_same p opening w st.settled)

  -- ## Arrays

  -- the pointer to the first element of an array in a live object
  record IsArray (q : PlainPlace) (w : State) (x : Option Scalar) (u : State) : Type 0 where
    leaves : LeavesClean p opening w.objects u
    object_number : ℕ
    window : Window
    is : x ≡ Some (Pointer (To object_number window 0))
    count_is : window.count ≡ element_count (place_type q)
    object : Object
    is_live : find object_number u.objects ≡ Some object
    apart : is_among object_number opening ≡ false
    inside : window.inside ≡ true
    declared_is : lies_in_literal q ≡ false → object.origin ≡ declared

  decay_performed : (at : At) (t : PlainType) (q : PlainPlace) → IsWholePlace c q → Decays c t q → Finds q → (env : Environment) → Clear (value at t (decay q)) env → (w : State) → Stand w → Stays (IsArray q w) (perform s frame.held at t (decay q) w)
  decay_performed at t q i d finds env clear w st = stays_step (IsArray q w) w _ (λ left less.
      stays_then (Found q (record w { left = left })) (IsArray q w) (locate s frame.held q (record w { left = left })) _
      (after_place p whole n depth number f there calls loops result lie scope opening settings head frame q i finds env (record { lies = in_decay calls at t q env clear.lies; clean = clear.clean; describes = clear.describes }) (record w { left = left }) (step_on p whole n depth number f there calls loops result lie scope opening settings head frame w left less st)) (λ target u g.
      let r : IsElementTarget (lies_in_literal q) opening u.objects target = element_of p whole n depth number f there calls loops result lie scope opening settings head frame q (record w { left = left }) target u g (ap is_scalar d.place_is) in
      let stride : ℕ = width p (element_type (place_type q)) in
      let count : ℕ = element_count (place_type q) in
      stays_or (IsArray q w) (inner u.objects (pointer_to target) 0 stride count) (To r.number (window_in r.window r.position 0 stride count) 0) at.span u _
      (ap (λ target. inner u.objects (pointer_to target) 0 stride count) r.is ∙ inner_is u.objects r.number r.window r.position 0 stride count r.reaches.object r.reaches.there)
      (record {
        leaves = g.leaves;
        object_number = r.number;
        window = window_in r.window r.position 0 stride count;
        is = refl;
        count_is = refl;
        object = r.reaches.object;
        is_live = r.reaches.there;
        apart = r.reaches.apart;
        inside = both_true r.window.inside (ltb r.position r.window.count) r.reaches.inside r.reaches.within;
        declared_is = r.reaches.declared_is;
      })))

  pub decay_form : (at : At) (t : PlainType) (q : PlainPlace) → IsWholePlace c q → Decays c t q → Finds q → Performs p whole n depth number f there calls loops result lie scope opening settings head frame (value at t (decay q))
  decay_form at t q i d finds env clear w st =
      stays_weaker (IsArray q w) (Performed p whole n depth number f there calls loops result lie scope opening settings head frame t w) (perform s frame.held at t (decay q) w) (decay_performed at t q i d finds env clear w st)
      (λ x u a. (a.leaves, λ sc. subst HasValue (sym a.is) tt))

  array_evaluated : (at : At) (t : PlainType) (q : PlainPlace) → IsWholePlace c q → Decays c t q → Finds q → (env : Environment) → Clear (value at t (decay q)) env → (w : State) → Stand w →
      Stays (λ x u. IsArray q w (Some x) u) (evaluate s frame.held (value at t (decay q)) w)
  array_evaluated at t q i d finds env clear w st =
      stays_then (IsArray q w) (λ x u. IsArray q w (Some x) u) (perform s frame.held at t (decay q) w) _ (decay_performed at t q i d finds env clear w st) is_used
    where
      is_used : (x : Option Scalar) (u : State) → IsArray q w x u → Stays (λ x u. IsArray q w (Some x) u) (or_undefined (used x) at.span u (λ x. gives x u))
      is_used None u a = absurd (none-some _ a.is)
      is_used (Some x) u a = a

  -- an element of an array, at an index that lies in it
  element_found : (at : At) (t : PlainType) (a i : PlainValue) (q : PlainPlace) (kind : IntType) → type_of i ≡ integer false kind → points_in_literal a ≡ lies_in_literal q → (env : Environment) → index_lies (element_count (place_type q)) (abstract_value calls env i) ≡ true →
      (w : State) (x : Scalar) (u : State) → IsArray q w (Some x) u → (y : Scalar) (v : State) → Given i env u y v →
      Stays (IsAt (place at t (index a i)) w) (or_undefined (shift v.objects (pointer_of x) (number_of y)) at.span v (λ q. gives (Element q) v))
  element_found at t a i q kind type_is in_literal env lies w x u g y v b =
      let z : IsNumberOf kind y = number_of_type p b.stand.soundly.kinds (type_of i) kind y type_is b.typed in
      let k : IsPosition (element_count (place_type q)) z.number = position_of head (element_count (place_type q)) (abstract_value calls env i) z.number lies (subst (IsHeldBy head (abstract_value calls env i)) z.is b.found.held_by) in
      let on : Survives g.object_number g.object v.objects = b.leaves.survive.each g.object_number g.object g.is_live in
      let below : k.position < g.window.count = subst (λ n. k.position < n) (sym g.count_is) k.below in
      stays_or (IsAt (place at t (index a i)) w) (shift v.objects (pointer_of x) (number_of y)) (To g.object_number g.window k.position) at.span v _
      (ap (λ x. shift v.objects (pointer_of x) (number_of y)) (same_Some x _ g.is) ∙ (ap (λ y. shift v.objects (To g.object_number g.window 0) (number_of y)) (z.is ∙ ap (λ z. Int z) k.is)
      ∙ shift_is v.objects g.object_number g.window k.position on.object on.there below)) (
        leaves_then p opening w.objects u v g.leaves b.leaves,
        record {
          object = on.object;
          there = on.there;
          apart = g.apart;
          inside = g.inside;
          within = lt-ltb k.position g.window.count below;
          declared_is = λ h. on.origin_is ∙ g.declared_is (sym in_literal ∙ h);
        },
        tt,
      )

  pub index_place : (at at_a : At) (t t_a : PlainType) (q : PlainPlace) (i : PlainValue) → IsWholePlace c q → Decays c t_a q → IsWholeValue c i → IsElement c t_a (type_of i) t → Finds q → Yields i → Finds (place at t (index (value at_a t_a (decay q)) i))
  index_place at at_a t t_a q i whole_q d whole_i e finds yields env clear w st = stays_step (IsAt (place at t (index a i)) w) w _ (λ left less.
      let now : State = record w { left = left } in
      let ready : Stand now = step_on p whole n depth number f there calls loops result lie scope opening settings head frame w left less st in
      stays_then (λ x u. Given a env now x u × IsArray q now (Some x) u) (IsAt (place at t (index a i)) w) (evaluate s frame.held a now) _
      (stays_with (Given a env now) (λ x u. IsArray q now (Some x) u) (evaluate s frame.held a now)
      (after p whole n depth number f there calls loops result lie scope opening settings head frame a (whole_q, d) (evaluates p whole n depth number f there calls loops result lie scope opening settings head frame a (ap is_scalar d.type_is) (decay_form at_a t_a q whole_q d finds)) env array_clear now ready)
      (stays_holds (λ x u. IsArray q now (Some x) u) (evaluate s frame.held a now) (array_evaluated at_a t_a q whole_q d finds env array_clear now ready))) (λ x u g.
      stays_then (Given i env u) (IsAt (place at t (index a i)) w) (evaluate s frame.held i u) _
      (after p whole n depth number f there calls loops result lie scope opening settings head frame i whole_i yields env (record { lies = fails.1 g.0.found.has; clean = flaws.number g.0.found.has; describes = clear.describes }) u g.0.stand) (λ y v b.
      element_found at t a i q e.kind e.integer_is refl env flaws.lies now x u g.1 y v b)))
    where
      a : PlainValue
      a = value at_a t_a (decay q)

      flaws : InIndex m settings q a i env
      flaws = clean_index m settings at at_a t t_a q i env clear.clean

      fails : (failing_in calls a env ≡ []) × (has_value calls a env ≡ true → failing_in calls i env ≡ [])
      fails = in_index calls at t a i env clear.lies

      array_clear : Clear a env
      array_clear = record { lies = fails.0; clean = flaws.array; describes = clear.describes }
