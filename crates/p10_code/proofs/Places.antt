-- What a name stands for, by its spot; and the code of places.
use Rattle.std.proofs.Common.{◌≡◌, ℕ, ◌+◌, ◌<◌, Bool, true, false, List, [], ◌∷◌, length, Option, Some, None, refl, sym, ap, ◌∙◌, arith}
use Rattle.std.specs.Prelude.{slice_get, slice_set, if◌then◌else◌, Result, Ok, Err}
use Rattle.std.proofs.lemmas.List.{get_or-set_same}
use Rattle.std.proofs.lemmas.Option.{slice_get_within, get_or_from_slice_get}
use Rattle.p10_base.specs.declared.at.At.{At}
use Rattle.p10_int.specs.declared.operators.Stop.{Stop}
use Rattle.p10_int.specs.declared.operators.Stop.TheVariants.{U8}
use Rattle.p10_core.specs.Types.{PlainType, bare}
use Rattle.p10_core.specs.Typed.{PlainValue, PlainPlace, place, variable, global, literal, index, member, dereference, place_at, place_type, PlainVariable, PlainObject, PlainProgram}
use Rattle.p10_meaning.specs.declared.pointers.Ptr.{Ptr}
use Rattle.p10_meaning.specs.declared.pointers.Scalar.TheVariants.{Pointer}
use Rattle.p10_meaning.specs.Pointers.{holding, first_of}
use Rattle.p10_meaning.specs.Objects.{Object, on_ok, reach, shift, inner}
use Rattle.p10_meaning.specs.States.{State, Undefined, Progress, gives, ends, and_then, or_undefined}
use Rattle.p10_meaning.specs.Scalars.{number_of, pointer_of}
use Rattle.p10_meaning.specs.Values.{Calls, Setting, Held, holds, stands, absent, width, Target, Variable, Sensor, Element, pointer_to, variable_target, global_target, literal_number, literal_target, scalars_before, evaluate, locate}
use Rattle.p10_code.specs.Operations.{Computation, object, static_object, element, inside, live, compute, present, halt, Op, Entry}
use Rattle.p10_code.specs.Machine.{Rest, object_at, computed}
use Rattle.p10_code.specs.ValueCode.{op, Spot, in_frame, at_sensor, in_object, nowhere, spot_of_variable, spot_of_global, spot_of_literal, spot_of, debt_by, name_code, literal_code}
use Rattle.p10_code.proofs.Base.{owed, owed_zero, owed_same, assoc, owed_node, result_then, then_same, Stands, local, FitsOption, IsVariable, Holds, kept_all, kept_set, Under, To, comes_to, placed, pay, compute_runs, off_reaches}
use Rattle.p10_code.proofs.Acts.{framed, present_then}
use Rattle.p10_code.proofs.ValueParts.{After, site, Spotted, ValueRuns, PlaceRuns, setting, value_then, values_then, place_then, Then}

module _ (p : PlainProgram) (vars : List PlainVariable) (call : Calls) (m : ℕ) (held : List Held) (s : List Held) (h : Holds vars held s) where
  -- what a place of a spot is
  abbrev pub IsSpot : PlainPlace → Spot → Type 0
  IsSpot pl (in_frame n) =
      ((w : State) → locate (setting p vars call m) held pl w ≡ or_undefined (framed n (local s n)) (place_at pl).span w (λ target. gives target w)) × (slice_get held n ≡ Some (local s n))
  IsSpot pl at_sensor = (w : State) → locate (setting p vars call m) held pl w ≡ gives Sensor w
  IsSpot pl in_object = Unit {0}
  IsSpot pl nowhere = (w : State) → locate (setting p vars call m) held pl w ≡ ends (Undefined U8 (place_at pl).span) w

  frame_is : (at : At) (t : PlainType) (i : ℕ) (b : Bool) (oh : Option Held) → slice_get held i ≡ oh → FitsOption b oh → IsSpot (place at t (variable i)) (if b then in_frame i else in_object)
  frame_is at t i false oh e fit = tt
  frame_is at t i true None e fit = absurd fit
  frame_is at t i true (Some (stands o)) e fit = absurd fit
  frame_is at t i true (Some (holds cell)) e fit =
      let lt : i < length held = slice_get_within held i (holds cell) e in
      let there : local s i ≡ holds cell = h.same i (omega (arith, lt, h.size)) ∙ get_or_from_slice_get held i (holds cell) absent e in (
        λ w. ap (λ o. or_undefined (variable_target i (width p t) o) at.span w (λ target. gives target w)) e ∙ ap (λ x. or_undefined (framed i x) at.span w (λ target. gives target w)) (sym there),
        e ∙ ap Some (sym there),
      )
  frame_is at t i true (Some absent) e fit =
      let lt : i < length held = slice_get_within held i absent e in
      let there : local s i ≡ absent = h.same i (omega (arith, lt, h.size)) ∙ get_or_from_slice_get held i absent absent e in (
        λ w. ap (λ o. or_undefined (variable_target i (width p t) o) at.span w (λ target. gives target w)) e ∙ ap (λ x. or_undefined (framed i x) at.span w (λ target. gives target w)) (sym there),
        e ∙ ap Some (sym there),
      )

  variable_is : (at : At) (t : PlainType) (i : ℕ) (ov : Option PlainVariable) (oh : Option Held) → slice_get held i ≡ oh → IsVariable ov oh → IsSpot (place at t (variable i)) (spot_of_variable i ov)
  variable_is at t i None None e fit = λ w. ap (λ o. or_undefined (variable_target i (width p t) o) at.span w (λ target. gives target w)) e
  variable_is at t i None (Some x) e fit = absurd fit
  variable_is at t i (Some v) oh e fit = frame_is at t i v.frame oh e fit

  sensor_is : (at : At) (t : PlainType) (n : ℕ) (x : PlainObject) (b : Bool) → slice_get p.objects n ≡ Some x → x.sensor ≡ b → IsSpot (place at t (global n)) (if b then at_sensor else in_object)
  sensor_is at t n x false e eb = tt
  sensor_is at t n x true e eb = λ w. ap (λ o. or_undefined (global_target n (width p t) o) at.span w (λ target. gives target w)) e ∙ ap (λ (b : Bool). or_undefined (Ok (if b then Sensor else Element (first_of n (width p t) 1))) at.span w (λ target. gives target w)) eb

  global_is : (at : At) (t : PlainType) (n : ℕ) (o : Option PlainObject) → slice_get p.objects n ≡ o → IsSpot (place at t (global n)) (spot_of_global o)
  global_is at t n None e = λ w. ap (λ o. or_undefined (global_target n (width p t) o) at.span w (λ target. gives target w)) e
  global_is at t n (Some x) e = sensor_is at t n x x.sensor e refl

  literal_is : (at : At) (t : PlainType) (n : ℕ) (bytes : List ℕ) (o : Option ℕ) → literal_number n (length p.objects) p.literals ≡ o → IsSpot (place at t (literal n bytes)) (spot_of_literal o)
  literal_is at t n bytes None e = λ w. ap (λ o. or_undefined (literal_target (width p t) o) at.span w (λ target. gives target w)) e
  literal_is at t n bytes (Some x) e = tt

  pub place_is : (pl : PlainPlace) → IsSpot pl (spot_of (site p vars) pl)
  place_is (place at t (variable i)) = variable_is at t i (slice_get vars i) (slice_get held i) refl (h.kinds i)
  place_is (place at t (global n)) = global_is at t n (slice_get p.objects n) refl
  place_is (place at t (literal n bytes)) = literal_is at t n bytes (literal_number n (length p.objects) p.literals) refl
  place_is (place at t (index a i)) = tt
  place_is (place at t (member q n)) = tt
  place_is (place at t (dereference v)) = tt

-- a frame variable is one
abbrev pub IsFrame : List PlainVariable → ℕ → Type 0
IsFrame vars n = (v : PlainVariable) × (slice_get vars n ≡ Some v) × (v.frame ≡ true)

in_frame_same : (i n : ℕ) → in_frame i ≡ in_frame n → i ≡ n
in_frame_same i n h = cc

flag_frame : (vars : List PlainVariable) (i n : ℕ) (v : PlainVariable) (b : Bool) → slice_get vars i ≡ Some v → v.frame ≡ b → (if b then in_frame i else in_object) ≡ in_frame n → IsFrame vars n
flag_frame vars i n v true e eb h = (v, ap (slice_get vars) (sym (in_frame_same i n h)) ∙ e, eb)
flag_frame vars i n v false e eb h = absurd (let d : in_object ≡ in_frame n = h in cc)

variable_frame : (vars : List PlainVariable) (i n : ℕ) (ov : Option PlainVariable) → slice_get vars i ≡ ov → spot_of_variable i ov ≡ in_frame n → IsFrame vars n
variable_frame vars i n None e h = absurd (let d : nowhere ≡ in_frame n = h in cc)
variable_frame vars i n (Some v) e h = flag_frame vars i n v v.frame e refl h

global_frame : (n : ℕ) (o : Option PlainObject) → spot_of_global o ≡ in_frame n → ⊥
global_frame n None h = let d : nowhere ≡ in_frame n = h in cc
global_frame n (Some x) h = by x.sensor h
  where
    by : (b : Bool) → (if b then at_sensor else in_object) ≡ in_frame n → ⊥
    by true h = let d : at_sensor ≡ in_frame n = h in cc
    by false h = let d : in_object ≡ in_frame n = h in cc

literal_frame : (n : ℕ) (o : Option ℕ) → spot_of_literal o ≡ in_frame n → ⊥
literal_frame n None h = let d : nowhere ≡ in_frame n = h in cc
literal_frame n (Some x) h = let d : in_object ≡ in_frame n = h in cc

pub place_frame : (p : PlainProgram) (vars : List PlainVariable) (pl : PlainPlace) (n : ℕ) → spot_of (site p vars) pl ≡ in_frame n → IsFrame vars n
place_frame p vars (place at t (variable i)) n h = variable_frame vars i n (slice_get vars i) refl h
place_frame p vars (place at t (global i)) n h = absurd (global_frame n (slice_get p.objects i) h)
place_frame p vars (place at t (literal i bytes)) n h = absurd (literal_frame n (literal_number i (length p.objects) p.literals) h)
place_frame p vars (place at t (index a i)) n h = absurd (let d : in_object ≡ in_frame n = h in cc)
place_frame p vars (place at t (member q i)) n h = absurd (let d : in_object ≡ in_frame n = h in cc)
place_frame p vars (place at t (dereference v)) n h = absurd (let d : in_object ≡ in_frame n = h in cc)

-- an object's place that a name stands for is a result with its pointer
record IsObject (p : PlainProgram) (vars : List PlainVariable) (call : Calls) (m : ℕ) (held s : List Held) (pl : PlainPlace) (x : Computation) : Type 0 where
  result : Result Ptr Stop
  found : (w : State) → locate (setting p vars call m) held pl w ≡ or_undefined result (place_at pl).span w (λ q. gives (Element q) w)
  computes : (o : List Object) → computed x (local s) o ≡ on_ok result (λ q. Ok (Pointer q))

module _ (p : PlainProgram) (code : List Op) (entries : List Entry) (u : Under) (vars : List PlainVariable) (call : Calls) (m : ℕ) (held : List Held) where
  -- what follows a place
  abbrev ThenAt : PlainPlace → Spot → ℕ → ℕ → ℕ → ℕ → List Held → State → (Target → State → Progress Rest) → Type 0
  ThenAt pl spot k t d q s w K =
      (target : Target) (s' : List Held) (w' : State) → After 0 k t d (debt_by spot d) s w s' w' → Spotted spot k target s' → To p code entries u q s' w' (owed (debt_by spot d) w' (K target))

  -- a place that stops the run
  nowhere_runs : (pl : PlainPlace) (d pc q : ℕ) (s : List Held) (w : State) (K : Target → State → Progress Rest) → ((w : State) → locate (setting p vars call m) held pl w ≡ ends (Undefined U8 (place_at pl).span) w) →
      Stands code pc (op d (place_at pl).span (halt U8) ∷ []) q → To p code entries u pc s w (owed d w (λ w. and_then (locate (setting p vars call m) held pl w) K))
  nowhere_runs pl d pc q s w K e at =
      comes_to p code entries _ _ _ (owed_same d w _ (λ w. ends (Undefined U8 (place_at pl).span) w) (λ w. ap (λ o. and_then o K) (e w)))
      (pay p code entries u pc d (place_at pl).span (halt U8) s w (λ w. ends (Undefined U8 (place_at pl).span) w) at.0 (λ w1 e1. off_reaches p code entries (ends (Undefined U8 (place_at pl).span) w1) tt))

  -- a place of an object that a name stands for
  object_runs : (pl : PlainPlace) (x : Computation) (k t d pc q : ℕ) (s : List Held) (w : State) (K : Target → State → Progress Rest) → k < length s → IsObject p vars call m held s pl x →
      Stands code pc (op d (place_at pl).span (compute k x) ∷ []) q → ThenAt pl in_object k t d q s w K → To p code entries u pc s w (owed d w (λ w. and_then (locate (setting p vars call m) held pl w) K))
  object_runs pl x k t d pc q s w K ks o at after =
      comes_to p code entries _ _ _ (owed_same d w _ (λ w. or_undefined o.result (place_at pl).span w (λ z. K (Element z) w)) (λ w. ap (λ o. and_then o K) (o.found w) ∙ result_then o.result (place_at pl).span w (λ z. gives (Element z) w) K))
      (compute_runs p code entries (λ z. Pointer z) u k pc q d x (place_at pl).span s w (λ objects. o.result) (λ z. K (Element z)) at o.computes
      (λ z w1 e1.
      comes_to p code entries _ _ _ (sym (owed_zero w1 (K (Element z))))
      (after (Element z) (slice_set s k (holds (holding (Pointer z)))) w1
      (record { kept = kept_set t k (holds (holding (Pointer z))) s; later = omega (arith, e1) })
      (z, refl, get_or-set_same s k (holds (holding (Pointer z))) absent ks))))

  -- a frame variable
  frame_runs : (pl : PlainPlace) (n k t d pc q : ℕ) (s : List Held) (w : State) (K : Target → State → Progress Rest) → ((w : State) → locate (setting p vars call m) held pl w ≡ or_undefined (framed n (local s n)) (place_at pl).span w (λ target. gives target w)) →
      Stands code pc (op d (place_at pl).span (present n) ∷ []) q → ThenAt pl (in_frame n) k t d q s w K → To p code entries u pc s w (owed d w (λ w. and_then (locate (setting p vars call m) held pl w) K))
  frame_runs pl n k t d pc q s w K e at after =
      comes_to p code entries _ _ _ (owed_same d w _ (λ w. or_undefined (framed n (local s n)) (place_at pl).span w (λ target. K target w)) (λ w. ap (λ o. and_then o K) (e w) ∙ result_then (framed n (local s n)) (place_at pl).span w (λ target. gives target w) K))
      (present_then p code entries u n d pc q (place_at pl).span s w K at
      (λ w1 e1.
      comes_to p code entries _ _ _ (sym (owed_zero w1 (K (Variable n))))
      (after (Variable n) s w1 (record { kept = kept_all t k s; later = omega (arith, e1) }) refl)))

  -- a sensor has no operation
  sensor_runs : (pl : PlainPlace) (k t d pc q : ℕ) (s : List Held) (w : State) (K : Target → State → Progress Rest) → ((w : State) → locate (setting p vars call m) held pl w ≡ gives Sensor w) → q ≡ pc →
      ThenAt pl at_sensor k t d q s w K → To p code entries u pc s w (owed d w (λ w. and_then (locate (setting p vars call m) held pl w) K))
  sensor_runs pl k t d pc q s w K e at after =
      comes_to p code entries _ _ _ (owed_same d w _ (K Sensor) (λ w. ap (λ o. and_then o K) (e w)))
      (placed p code entries u pc q s w _ (sym at) (after Sensor s w (record { kept = kept_all t k s; later = omega arith }) refl))

  -- an object that stands for a variable
  is_variable_object : (here : At) (t : PlainType) (i k : ℕ) (v : PlainVariable) (s : List Held) → Holds vars held s → (oh : Option Held) → slice_get held i ≡ oh → FitsOption false oh → IsObject p vars call m held s (place here t (variable i)) (object i (width p t))
  is_variable_object here t i k v s h None e fit = absurd fit
  is_variable_object here t i k v s h (Some (holds cell)) e fit = absurd fit
  is_variable_object here t i k v s h (Some (stands o)) e fit =
      let lt : i < length held = slice_get_within held i (stands o) e in
      let there : local s i ≡ stands o = h.same i (omega (arith, lt, h.size)) ∙ get_or_from_slice_get held i (stands o) absent e in
      record {
        result = Ok (first_of o (width p t) 1);
        found = λ w. ap (λ x. or_undefined (variable_target i (width p t) x) here.span w (λ target. gives target w)) e;
        computes = λ objects. ap (λ x. object_at (width p t) x) there;
      }
  is_variable_object here t i k v s h (Some absent) e fit =
      let lt : i < length held = slice_get_within held i absent e in
      let there : local s i ≡ absent = h.same i (omega (arith, lt, h.size)) ∙ get_or_from_slice_get held i absent absent e in
      record {
        result = Err U8;
        found = λ w. ap (λ x. or_undefined (variable_target i (width p t) x) here.span w (λ target. gives target w)) e;
        computes = λ objects. ap (λ x. object_at (width p t) x) there;
      }

  variable_flag : (here : At) (ty : PlainType) (i : ℕ) (v : PlainVariable) (b : Bool) (oh : Option Held) → slice_get held i ≡ oh → FitsOption b oh → (k t d pc q : ℕ) (s : List Held) (w : State) (K : Target → State → Progress Rest) → k < length s → Holds vars held s →
      Stands code pc (name_code (if b then in_frame i else in_object) d here.span (present i) (compute k (object i (width p ty)))) q → ThenAt (place here ty (variable i)) (if b then in_frame i else in_object) k t d q s w K →
      To p code entries u pc s w (owed d w (λ w. and_then (locate (setting p vars call m) held (place here ty (variable i)) w) K))
  variable_flag here ty i v true oh e fit k t d pc q s w K ks h at after = frame_runs (place here ty (variable i)) i k t d pc q s w K (frame_is p vars call m held s h here ty i true oh e fit).0 at after
  variable_flag here ty i v false oh e fit k t d pc q s w K ks h at after = object_runs (place here ty (variable i)) (object i (width p ty)) k t d pc q s w K ks (is_variable_object here ty i k v s h oh e fit) at after

  variable_by : (here : At) (ty : PlainType) (i : ℕ) (ov : Option PlainVariable) (oh : Option Held) → slice_get held i ≡ oh → IsVariable ov oh → (k t d pc q : ℕ) (s : List Held) (w : State) (K : Target → State → Progress Rest) → k < length s → Holds vars held s →
      Stands code pc (name_code (spot_of_variable i ov) d here.span (present i) (compute k (object i (width p ty)))) q → ThenAt (place here ty (variable i)) (spot_of_variable i ov) k t d q s w K →
      To p code entries u pc s w (owed d w (λ w. and_then (locate (setting p vars call m) held (place here ty (variable i)) w) K))
  variable_by here ty i None oh e fit k t d pc q s w K ks h at after = nowhere_runs (place here ty (variable i)) d pc q s w K (variable_is p vars call m held s h here ty i None oh e fit) at
  variable_by here ty i (Some v) oh e fit k t d pc q s w K ks h at after = variable_flag here ty i v v.frame oh e fit k t d pc q s w K ks h at after

  pub variable_runs : (here : At) (ty : PlainType) (i : ℕ) → PlaceRuns p code entries u vars call m held (place here ty (variable i))
  variable_runs here ty i k t d pc q s w K ks r at after =
      variable_by here ty i (slice_get vars i) (slice_get held i) refl (r.variables.kinds i) k t d pc q s w K ks r.variables at after

  global_flag : (here : At) (ty : PlainType) (n : ℕ) (x : PlainObject) (b : Bool) → slice_get p.objects n ≡ Some x → x.sensor ≡ b → (k t d pc q : ℕ) (s : List Held) (w : State) (K : Target → State → Progress Rest) → k < length s → Holds vars held s →
      Stands code pc (name_code (if b then at_sensor else in_object) d here.span (halt U8) (compute k (static_object n (width p ty)))) q → ThenAt (place here ty (global n)) (if b then at_sensor else in_object) k t d q s w K →
      To p code entries u pc s w (owed d w (λ w. and_then (locate (setting p vars call m) held (place here ty (global n)) w) K))
  global_flag here ty n x true e eb k t d pc q s w K ks h at after = sensor_runs (place here ty (global n)) k t d pc q s w K (sensor_is p vars call m held s h here ty n x true e eb) at after
  global_flag here ty n x false e eb k t d pc q s w K ks h at after =
      object_runs (place here ty (global n)) (static_object n (width p ty)) k t d pc q s w K ks
      (record {
        result = Ok (first_of n (width p ty) 1);
        found = λ w. ap (λ o. or_undefined (global_target n (width p ty) o) here.span w (λ target. gives target w)) e ∙ ap (λ (b : Bool). or_undefined (Ok (if b then Sensor else Element (first_of n (width p ty) 1))) here.span w (λ target. gives target w)) eb;
        computes = λ objects. refl;
      }) at after

  global_by : (here : At) (ty : PlainType) (n : ℕ) (o : Option PlainObject) → slice_get p.objects n ≡ o → (k t d pc q : ℕ) (s : List Held) (w : State) (K : Target → State → Progress Rest) → k < length s → Holds vars held s →
      Stands code pc (name_code (spot_of_global o) d here.span (halt U8) (compute k (static_object n (width p ty)))) q → ThenAt (place here ty (global n)) (spot_of_global o) k t d q s w K →
      To p code entries u pc s w (owed d w (λ w. and_then (locate (setting p vars call m) held (place here ty (global n)) w) K))
  global_by here ty n None e k t d pc q s w K ks h at after = nowhere_runs (place here ty (global n)) d pc q s w K (global_is p vars call m held s h here ty n None e) at
  global_by here ty n (Some x) e k t d pc q s w K ks h at after = global_flag here ty n x x.sensor e refl k t d pc q s w K ks h at after

  pub global_runs : (here : At) (ty : PlainType) (n : ℕ) → PlaceRuns p code entries u vars call m held (place here ty (global n))
  global_runs here ty n k t d pc q s w K ks r at after = global_by here ty n (slice_get p.objects n) refl k t d pc q s w K ks r.variables at after

  literal_by : (here : At) (ty : PlainType) (n : ℕ) (bytes : List ℕ) (o : Option ℕ) → literal_number n (length p.objects) p.literals ≡ o → (k t d pc q : ℕ) (s : List Held) (w : State) (K : Target → State → Progress Rest) → k < length s → Holds vars held s →
      Stands code pc (literal_code o d here.span k (width p ty)) q → ThenAt (place here ty (literal n bytes)) (spot_of_literal o) k t d q s w K →
      To p code entries u pc s w (owed d w (λ w. and_then (locate (setting p vars call m) held (place here ty (literal n bytes)) w) K))
  literal_by here ty n bytes None e k t d pc q s w K ks h at after = nowhere_runs (place here ty (literal n bytes)) d pc q s w K (literal_is p vars call m held s h here ty n bytes None e) at
  literal_by here ty n bytes (Some x) e k t d pc q s w K ks h at after =
      object_runs (place here ty (literal n bytes)) (static_object x (width p ty)) k t d pc q s w K ks
      (record {
        result = Ok (first_of x (width p ty) 1);
        found = λ w. ap (λ o. or_undefined (literal_target (width p ty) o) here.span w (λ target. gives target w)) e;
        computes = λ objects. refl;
      }) at after

  pub literal_runs : (here : At) (ty : PlainType) (n : ℕ) (bytes : List ℕ) → PlaceRuns p code entries u vars call m held (place here ty (literal n bytes))
  literal_runs here ty n bytes k t d pc q s w K ks r at after = literal_by here ty n bytes (literal_number n (length p.objects) p.literals) refl k t d pc q s w K ks r.variables at after

  -- the pointer in a slot is the place
  element_then : (k t d q : ℕ) (s : List Held) (w : State) (K : Target → State → Progress Rest) (pl : PlainPlace) → ThenAt pl in_object k t d q s w K → Then p code entries u vars call m held (λ z. Pointer z) k t d q s w (λ z. K (Element z))
  element_then k t d q s w K pl after = λ z s1 w1 a e.
      comes_to p code entries _ _ _ (sym (owed_zero w1 (K (Element z))))
      (after (Element z) s1 w1 (record { kept = a.kept; later = omega (arith, a.later) }) (z, refl, e))

  pub index_runs : (here : At) (ty : PlainType) (a i : PlainValue) → ValueRuns p code entries u vars call m held a → ValueRuns p code entries u vars call m held i → PlaceRuns p code entries u vars call m held (place here ty (index a i))
  index_runs here ty a i ra ri k t d pc q s w K ks r at after =
      let e : Setting = setting p vars call m in
      comes_to p code entries _ _ _
      (owed_node d w (λ w. evaluate e held a w) (λ x w. and_then (evaluate e held i w) (λ y w. or_undefined (shift w.objects (pointer_of x) (number_of y)) here.span w (λ q. gives (Element q) w))) K
      ∙ owed_same (d + 1) w _ _ (λ w. then_same (evaluate e held a w) _ _ (λ x w. assoc (evaluate e held i w) (λ y w. or_undefined (shift w.objects (pointer_of x) (number_of y)) here.span w (λ q. gives (Element q) w)) K
      ∙ then_same (evaluate e held i w) _ _ (λ y w. result_then (shift w.objects (pointer_of x) (number_of y)) here.span w (λ q. gives (Element q) w) K))))
      (values_then p code entries u vars call m held (λ z. Pointer z) a i ra ri element (λ x y o. shift o (pointer_of x) (number_of y)) (λ x y look o. refl) k t d (d + 1) pc q here.span s w (λ z. K (Element z)) ks (omega arith) r at
      (element_then k t d q s w K (place here ty (index a i)) after))

  pub member_runs : (here : At) (ty : PlainType) (pl : PlainPlace) (n : ℕ) → PlaceRuns p code entries u vars call m held pl → PlaceRuns p code entries u vars call m held (place here ty (member pl n))
  member_runs here ty pl n rp k t d pc q s w K ks r at after =
      let e : Setting = setting p vars call m in
      let before : ℕ = scalars_before p (bare p.structures (place_type pl)) n in
      comes_to p code entries _ _ _
      (owed_node d w (λ w. locate e held pl w) (λ x w. or_undefined (inner w.objects (pointer_to x) before (width p ty) 1) here.span w (λ q. gives (Element q) w)) K
      ∙ owed_same (d + 1) w _ _ (λ w. then_same (locate e held pl w) _ _ (λ x w. result_then (inner w.objects (pointer_to x) before (width p ty) 1) here.span w (λ q. gives (Element q) w) K)))
      (place_then p code entries u vars call m held (λ x z. Pointer z) pl rp (λ a. inside a before (width p ty) 1) (λ x o. inner o x before (width p ty) 1) (λ a look o. refl) k t d (d + 1) pc q here.span s w (λ x z. K (Element z)) ks (omega arith) r at
      (λ x. element_then k t d q s w K (place here ty (member pl n)) after))

  pub dereference_runs : (here : At) (ty : PlainType) (v : PlainValue) → ValueRuns p code entries u vars call m held v → PlaceRuns p code entries u vars call m held (place here ty (dereference v))
  dereference_runs here ty v rv k t d pc q s w K ks r at after =
      let e : Setting = setting p vars call m in
      comes_to p code entries _ _ _
      (owed_node d w (λ w. evaluate e held v w) (λ x w. or_undefined (reach w.objects (pointer_of x)) here.span w (λ o. gives (Element (pointer_of x)) w)) K
      ∙ owed_same (d + 1) w _ _ (λ w. then_same (evaluate e held v w) _ _ (λ x w. result_then (reach w.objects (pointer_of x)) here.span w (λ o. gives (Element (pointer_of x)) w) K)))
      (value_then p code entries u vars call m held (λ x o. Pointer (pointer_of x)) v rv live (λ x o. reach o (pointer_of x)) (λ a look o. refl) k t d (d + 1) pc q here.span s w (λ x o. K (Element (pointer_of x))) ks (omega arith) r at
      (λ x o. element_then k t d q s w K (place here ty (dereference v)) after (pointer_of x)))
