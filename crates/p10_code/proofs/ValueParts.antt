-- What the code of values and places does, and the parts that forms share.
use Rattle.std.proofs.Common.{◌≡◌, ℕ, ◌+◌, ◌<◌, ◌≤◌, max, Bool, true, false, List, [], ◌∷◌, ◌++◌, length, Option, Some, None, refl, sym, ap, ◌∙◌, arith}
use Rattle.std.specs.Prelude.{slice_get, slice_set, if◌then◌else◌, Result, Ok}
use Rattle.std.proofs.lemmas.List.{get_or-set_same}
use Rattle.std.proofs.lemmas.Option.{slice_get_within}
use Rattle.p10_base.specs.declared.span.Span.{Span}
use Rattle.p10_base.specs.declared.at.At.{At}
use Rattle.p10_int.specs.declared.operators.Stop.{Stop}
use Rattle.p10_core.specs.Types.{PlainType}
use Rattle.p10_core.specs.Typed.{PlainValue, value, PlainForm, constant, read, sense, address, decay, convert, cast, unary, binary, logic, conditional, call as call_form, built_in, PlainPlace, place, variable, global, literal, index, member, dereference, PlainObject, PlainValues, PlainVariable, PlainProgram}
use Rattle.p10_meaning.specs.declared.pointers.Ptr.{Ptr}
use Rattle.p10_meaning.specs.declared.pointers.Scalar.{Scalar}
use Rattle.p10_meaning.specs.declared.pointers.Scalar.TheVariants.{Pointer}
use Rattle.p10_meaning.specs.Pointers.{holding}
use Rattle.p10_meaning.specs.Objects.{Object, on_ok}
use Rattle.p10_meaning.specs.States.{State, Progress, and_then, or_undefined}
use Rattle.p10_meaning.specs.Scalars.{pointer_of}
use Rattle.p10_meaning.specs.Values.{Calls, Setting, Held, holds, absent, Target, Variable, Sensor, Element, pointer_to, literal_number, is_structure, perform, discard, evaluate, evaluate_all, locate}
use Rattle.p10_code.specs.Operations.{Operand, slot, fixed, Computation, compute, call as call_op, Op, Entry}
use Rattle.p10_code.specs.Machine.{Rest, cell_of, scalar_in, or_zero, found, value_of, gathered, computed}
use Rattle.p10_code.specs.ValueCode.{Site, op, fixed_of, Spot, in_frame, at_sensor, in_object, nowhere, spot_of_variable, spot_of_global, spot_of_literal, spot_of, pointer_by, pointer_operand, place_debt, read_operand, operand_by, form_operand, operand, form_debt, debt, is_sure, height, form_height, values_height, place_height, count_of, values_debt, value_code, into_code, form_code, dropped_code, values_code, place_code}
use Rattle.p10_code.proofs.Base.{owed, Stands, front, rear, local, Holds, Kept, kept_set, kept_again, kept_both, kept_under, holds_kept, Under, To, compute_runs}

-- what a part of code finds: its free slots are there, the steps that are left are within the bound but for the debt, and the
-- variables stand in their slots
pub record Ready (vars : List PlainVariable) (held : List Held) (m t h d : ℕ) (s : List Held) (w : State) : Type 0 where
  pub free : length vars ≤ t
  pub room : t + h ≤ length s
  pub bound : w.left ≤ m + d
  pub variables : Holds vars held s

-- what a part of code has done: slots below t but k are kept, and at least so many steps were taken or are owed
pub record After (least k t d e : ℕ) (s : List Held) (w : State) (s' : List Held) (w' : State) : Type 0 where
  pub kept : Kept t k s s'
  pub later : w'.left + d + least ≤ w.left + e

-- a part finds what it needs after another one, which wrote at slot j and above u
pub ready_after : (vars : List PlainVariable) (held : List Held) (m t h d t2 h2 d2 least j u : ℕ) (s s1 : List Held) (w w1 : State) → Ready vars held m t h d s w → After least j u d d2 s w s1 w1 →
    length vars ≤ u → length vars ≤ j → length vars ≤ t2 → t2 + h2 ≤ length s → Ready vars held m t2 h2 d2 s1 w1
ready_after vars held m t h d t2 h2 d2 least j u s s1 w w1 r a nu nj nt room = record {
  free = nt;
  room = omega (arith, room, a.kept.len);
  bound = omega (arith, r.bound, a.later);
  variables = holds_kept vars u j held s s1 nu nj a.kept r.variables;
}

-- a part of a tree finds what the tree found
pub ready_for : (vars : List PlainVariable) (held : List Held) (m t h d t2 h2 d2 : ℕ) (s : List Held) (w : State) → Ready vars held m t h d s w → t ≤ t2 → t2 + h2 ≤ t + h → d ≤ d2 → Ready vars held m t2 h2 d2 s w
ready_for vars held m t h d t2 h2 d2 s w r lt le dd = record {
  free = omega (arith, r.free);
  room = omega (arith, r.room);
  bound = omega (arith, r.bound);
  variables = r.variables;
}

-- whether something is given
abbrev pub Sure : Bool → Option Scalar → Type 0
Sure true x = (y : Scalar) × (x ≡ Some y)
Sure false x = Unit {0}

-- a place was found as what its spot says, with the pointer in slot k
abbrev pub Spotted : Spot → ℕ → Target → List Held → Type 0
Spotted (in_frame n) k target s = target ≡ Variable n
Spotted at_sensor k target s = target ≡ Sensor
Spotted in_object k target s = (q : Ptr) × (target ≡ Element q) × (local s k ≡ holds (holding (Pointer q)))
Spotted nowhere k target s = ⊥

pub pointer_spotted : (spot : Spot) (k : ℕ) (target : Target) (s : List Held) → Spotted spot k target s → pointer_of (value_of (pointer_by spot k) (local s)) ≡ pointer_to target
pointer_spotted (in_frame n) k target s e = ap pointer_to (sym e)
pointer_spotted at_sensor k target s e = ap pointer_to (sym e)
pointer_spotted in_object k target s (q, e, h) = ap (λ held. pointer_of (or_zero (scalar_in held))) h ∙ ap pointer_to (sym e)
pointer_spotted nowhere k target s e = absurd e

-- an operand is no slot above t
abbrev pub IsBelow : ℕ → Operand → Type 0
IsBelow t (slot n) = n ≤ t
IsBelow t (fixed x) = Unit {0}

frame_below : (vars : List PlainVariable) (k n : ℕ) (ov : Option PlainVariable) → slice_get vars n ≡ ov → length vars ≤ k → IsBelow k (read_operand (spot_of_variable n ov) k)
frame_below vars k n None e le = omega arith
frame_below vars k n (Some v) e le = by v.frame
  where
    by : (b : Bool) → IsBelow k (read_operand (if b then in_frame n else in_object) k)
    by true = let lt : n < length vars = slice_get_within vars n v e in omega arith
    by false = omega arith

at_most : (n : ℕ) → n ≤ n
at_most n = omega arith

global_below : (k : ℕ) (x : Option PlainObject) → IsBelow k (read_operand (spot_of_global x) k)
global_below k None = at_most k
global_below k (Some x) = by x.sensor
  where
    by : (b : Bool) → IsBelow k (read_operand (if b then at_sensor else in_object) k)
    by true = at_most k
    by false = at_most k

literal_below : (k : ℕ) (x : Option ℕ) → IsBelow k (read_operand (spot_of_literal x) k)
literal_below k None = at_most k
literal_below k (Some x) = at_most k

module _ (p : PlainProgram) (vars : List PlainVariable) where
  abbrev pub site : Site
  site = record { program = p; variables = vars }

  spot_below : (k : ℕ) (pl : PlainPlace) → length vars ≤ k → IsBelow k (read_operand (spot_of site pl) k)
  spot_below k (place at t (variable n)) le = frame_below vars k n (slice_get vars n) refl le
  spot_below k (place at t (global n)) le = global_below k (slice_get p.objects n)
  spot_below k (place at t (literal n bytes)) le = literal_below k (literal_number n (length p.objects) p.literals)
  spot_below k (place at t (index a i)) le = at_most k
  spot_below k (place at t (member q m)) le = at_most k
  spot_below k (place at t (dereference v)) le = at_most k

  read_below : (b : Bool) (k : ℕ) (pl : PlainPlace) → length vars ≤ k → IsBelow k (if b then slot k else read_operand (spot_of site pl) k)
  read_below true k pl le = at_most k
  read_below false k pl le = spot_below k pl le

  form_below : (x : Option Scalar) (k : ℕ) (t : PlainType) (form : PlainForm) → length vars ≤ k → IsBelow k (operand_by x site k t form)
  form_below (Some x) k t form le = tt
  form_below None k t (constant z) le = at_most k
  form_below None k t (read pl) le = read_below (is_structure t) k pl le
  form_below None k t (sense n) le = at_most k
  form_below None k t (address pl) le = at_most k
  form_below None k t (decay pl) le = at_most k
  form_below None k t (convert v) le = at_most k
  form_below None k t (cast v) le = at_most k
  form_below None k t (unary o v) le = at_most k
  form_below None k t (binary o a b) le = at_most k
  form_below None k t (logic o a b) le = at_most k
  form_below None k t (conditional c a b) le = at_most k
  form_below None k t (call_form name f vs) le = at_most k
  form_below None k t (built_in name f vs) le = at_most k

  pub operand_below : (k : ℕ) (v : PlainValue) → length vars ≤ k → IsBelow k (operand site k v)
  operand_below k (value at t form) le = form_below (fixed_of t form) k t form le

-- an operand stays while what follows keeps its slot
pub found_kept : (o : Operand) (t u k : ℕ) (s s' : List Held) → IsBelow t o → t < u → t < k → Kept u k s s' → found o (local s') ≡ found o (local s)
found_kept (slot n) t u k s s' le tu tk h = ap scalar_in (h.same n (omega arith) (λ e. omega arith))
found_kept (fixed x) t u k s s' le tu tk h = refl

-- ## What is claimed

-- a call does what it means, from this frame
abbrev pub CallsRun : PlainProgram → List Op → List Entry → Under → Calls → ℕ → Type 0
CallsRun p code entries u call m =
    (k f t n d pc q : ℕ) (span : Span) (xs : List Scalar) (s : List Held) (w : State) (K : Option Scalar → State → Progress Rest) → Stands code pc (op (d + 1) span (call_op k f f t n) ∷ []) q → gathered t n (local s) ≡ xs → w.left ≤ m + d →
    ((x : Option Scalar) (w' : State) → w'.left + d + 1 ≤ w.left → To p code entries u q (slice_set s k (cell_of x)) w' (K x w')) → To p code entries u pc s w (owed d w (λ w. and_then (call f xs w) K))

-- what trees stand in
abbrev pub setting : PlainProgram → List PlainVariable → Calls → ℕ → Setting
setting p vars call m = record { program = p; variables = vars; call = call; turns = m }

module _ (p : PlainProgram) (code : List Op) (entries : List Entry) (u : Under) (vars : List PlainVariable) (call : Calls) (m : ℕ) (held : List Held) where
  -- the code of a form of a value does what it means, whatever follows
  abbrev pub FormRuns : At → PlainType → PlainForm → Type 0
  FormRuns here ty form =
      (k t d pc q : ℕ) (s : List Held) (w : State) (K : Option Scalar → State → Progress Rest) → k < length s → Ready vars held m t (form_height form) d s w → Stands code pc (form_code (site p vars) k t d pc here ty form) q →
      ((x : Option Scalar) (s' : List Held) (w' : State) → After 1 k t d (form_debt d ty form) s w s' w' → found (form_operand (site p vars) k ty form) (local s') ≡ x → Sure (is_sure ty form) x → To p code entries u q s' w' (owed (form_debt d ty form) w' (K x))) →
      To p code entries u pc s w (owed d w (λ w. and_then (perform (setting p vars call m) held here ty form w) K))

  -- the same of a value that is used
  abbrev pub ValueRuns : PlainValue → Type 0
  ValueRuns v =
      (k t d pc q : ℕ) (s : List Held) (w : State) (K : Scalar → State → Progress Rest) → k < length s → Ready vars held m t (height v) d s w → Stands code pc (value_code (site p vars) k t d pc v) q →
      ((x : Scalar) (s' : List Held) (w' : State) → After 1 k t d (debt d v) s w s' w' → found (operand (site p vars) k v) (local s') ≡ Some x → To p code entries u q s' w' (owed (debt d v) w' (K x))) →
      To p code entries u pc s w (owed d w (λ w. and_then (evaluate (setting p vars call m) held v w) K))

  -- the same of a value that isn't used
  abbrev pub DroppedRuns : PlainValue → Type 0
  DroppedRuns v =
      (k t d pc q : ℕ) (s : List Held) (w : State) (K : Option Scalar → State → Progress Rest) → k < length s → Ready vars held m t (height v) d s w → Stands code pc (dropped_code (site p vars) k t d pc v) q →
      ((x : Option Scalar) (s' : List Held) (w' : State) → After 1 k t d (debt d v) s w s' w' → To p code entries u q s' w' (owed (debt d v) w' (K x))) →
      To p code entries u pc s w (owed d w (λ w. and_then (discard (setting p vars call m) held v w) K))

  -- the same, with the value in its slot
  abbrev pub IntoRuns : PlainValue → Type 0
  IntoRuns v =
      (k t d pc q : ℕ) (s : List Held) (w : State) (K : Scalar → State → Progress Rest) → k < length s → Ready vars held m t (height v) d s w → Stands code pc (into_code (site p vars) k t d pc v) q →
      ((x : Scalar) (s' : List Held) (w' : State) → After 1 k t d 0 s w s' w' → local s' k ≡ holds (holding x) → To p code entries u q s' w' (K x w')) →
      To p code entries u pc s w (owed d w (λ w. and_then (evaluate (setting p vars call m) held v w) K))

  -- the same of arguments
  abbrev pub ArgumentsRun : PlainValues → Type 0
  ArgumentsRun vs =
      (t d pc q : ℕ) (s : List Held) (w : State) (K : List Scalar → State → Progress Rest) → Ready vars held m t (values_height vs) d s w → Stands code pc (values_code (site p vars) t d pc vs) q →
      ((xs : List Scalar) (s' : List Held) (w' : State) → After 0 t t d (values_debt d vs) s w s' w' → gathered t (count_of vs) (local s') ≡ xs → To p code entries u q s' w' (owed (values_debt d vs) w' (K xs))) →
      To p code entries u pc s w (owed d w (λ w. and_then (evaluate_all (setting p vars call m) held vs w) K))

  -- the same of places
  abbrev pub PlaceRuns : PlainPlace → Type 0
  PlaceRuns pl =
      (k t d pc q : ℕ) (s : List Held) (w : State) (K : Target → State → Progress Rest) → k < length s → Ready vars held m t (place_height pl) d s w → Stands code pc (place_code (site p vars) k t d pc pl) q →
      ((target : Target) (s' : List Held) (w' : State) → After 0 k t d (place_debt (site p vars) d pl) s w s' w' → Spotted (spot_of (site p vars) pl) k target s' → To p code entries u q s' w' (owed (place_debt (site p vars) d pl) w' (K target))) →
      To p code entries u pc s w (owed d w (λ w. and_then (locate (setting p vars call m) held pl w) K))

  -- ## Parts

  -- what follows a scalar in slot k, without debt
  abbrev pub Then : {A : Type 0} → (A → Scalar) → ℕ → ℕ → ℕ → ℕ → List Held → State → (A → State → Progress Rest) → Type 0
  Then {A} f k t d q s w K = (a : A) (s' : List Held) (w' : State) → After 1 k t d 0 s w s' w' → local s' k ≡ holds (holding (f a)) → To p code entries u q s' w' (K a w')

  -- a scalar is computed after parts that wrote at its slot and at free ones
  pub compute_again : {A : Type 0} (f : A → Scalar) (k t d e pc q : ℕ) (x : Computation) (span : Span) (s s1 : List Held) (w w1 : State) (G : List Object → Result A Stop) (K : A → State → Progress Rest) →
      k < length s → Kept t k s s1 → w1.left + d + 1 ≤ w.left + e → Stands code pc (op e span (compute k x) ∷ []) q → ((o : List Object) → computed x (local s1) o ≡ on_ok (G o) (λ a. Ok (f a))) → Then f k t d q s w K →
      To p code entries u pc s1 w1 (owed e w1 (λ w. or_undefined (G w.objects) span w (λ a. K a w)))
  compute_again f k t d e pc q x span s s1 w w1 G K ks kept later at eq after =
      compute_runs p code entries f u k pc q e x span s1 w1 G K at eq
      (λ a w2 e2.
      after a (slice_set s1 k (holds (holding (f a)))) w2
      (record { kept = kept_again t k s s1 (slice_set s1 k (holds (holding (f a)))) kept (kept_set t k (holds (holding (f a))) s1); later = omega (arith, later, e2) })
      (get_or-set_same s1 k (holds (holding (f a))) absent (omega (arith, ks, kept.len))))

  -- the same after parts that wrote at free slots alone
  pub compute_after : {A : Type 0} (f : A → Scalar) (k t d e pc q j v : ℕ) (x : Computation) (span : Span) (s s1 : List Held) (w w1 : State) (G : List Object → Result A Stop) (K : A → State → Progress Rest) →
      k < length s → t ≤ j → t ≤ v → Kept v j s s1 → w1.left + d + 1 ≤ w.left + e → Stands code pc (op e span (compute k x) ∷ []) q → ((o : List Object) → computed x (local s1) o ≡ on_ok (G o) (λ a. Ok (f a))) → Then f k t d q s w K →
      To p code entries u pc s1 w1 (owed e w1 (λ w. or_undefined (G w.objects) span w (λ a. K a w)))
  compute_after f k t d e pc q j v x span s s1 w w1 G K ks tj tv kept later at eq after = compute_again f k t d e pc q x span s s1 w w1 G K ks (kept_under t k v j s s1 tv tj kept) later at eq after

  -- a scalar is computed from a value in its own slot
  pub value_then : {A : Type 0} (f : Scalar → A → Scalar) (v : PlainValue) → ValueRuns v → (F : Operand → Computation) (G : Scalar → List Object → Result A Stop) →
      ((a : Operand) (look : ℕ → Held) (o : List Object) → computed (F a) look o ≡ on_ok (G (value_of a look) o) (λ y. Ok (f (value_of a look) y))) →
      (k t d c pc q : ℕ) (span : Span) (s : List Held) (w : State) (K : Scalar → A → State → Progress Rest) → k < length s → d ≤ c → Ready vars held m t (height v) d s w →
      Stands code pc (value_code (site p vars) k t c pc v ++ op (debt c v) span (compute k (F (operand (site p vars) k v))) ∷ []) q → ((x : Scalar) → Then (f x) k t d q s w (K x)) →
      To p code entries u pc s w (owed c w (λ w. and_then (evaluate (setting p vars call m) held v w) (λ x w. or_undefined (G x w.objects) span w (λ y. K x y w))))
  value_then f v rv F G eq k t d c pc q span s w K ks dc r has after =
      let cv : List Op = value_code (site p vars) k t c pc v in
      let last : List Op = op (debt c v) span (compute k (F (operand (site p vars) k v))) ∷ [] in
      rv k t c pc (pc + length cv) s w _ ks (ready_for vars held m t (height v) d t (height v) c s w r (omega arith) (omega arith) dc) (front code pc q cv last has)
      (λ x s1 w1 a e.
      compute_again (f x) k t d (debt c v) (pc + length cv) q (F (operand (site p vars) k v)) span s s1 w w1 (G x) (K x) ks a.kept (omega (arith, a.later, dc)) (rear code pc q cv last has)
      (λ o. eq (operand (site p vars) k v) (local s1) o ∙ ap (λ y. on_ok (G (or_zero y) o) (λ z. Ok (f (or_zero y) z))) e) (after x))

  -- a scalar is computed from two values
  pub values_then : {A : Type 0} (f : A → Scalar) (a b : PlainValue) → ValueRuns a → ValueRuns b → (F : Operand → Operand → Computation) (G : Scalar → Scalar → List Object → Result A Stop) →
      ((x y : Operand) (look : ℕ → Held) (o : List Object) → computed (F x y) look o ≡ on_ok (G (value_of x look) (value_of y look) o) (λ z. Ok (f z))) →
      (k t d c pc q : ℕ) (span : Span) (s : List Held) (w : State) (K : A → State → Progress Rest) → k < length s → d ≤ c → Ready vars held m t (2 + max (height a) (height b)) d s w →
      Stands code pc (value_code (site p vars) t (t + 1) c pc a ++ (value_code (site p vars) (t + 1) (t + 2) (debt c a) (pc + length (value_code (site p vars) t (t + 1) c pc a)) b ++ op (debt (debt c a) b) span (compute k (F (operand (site p vars) t a) (operand (site p vars) (t + 1) b))) ∷ [])) q → Then f k t d q s w K →
      To p code entries u pc s w (owed c w (λ w. and_then (evaluate (setting p vars call m) held a w) (λ x w. and_then (evaluate (setting p vars call m) held b w) (λ y w. or_undefined (G x y w.objects) span w (λ z. K z w)))))
  values_then f a b ra rb F G eq k t d c pc q span s w K ks dc r has after =
      let ca : List Op = value_code (site p vars) t (t + 1) c pc a in
      let da : ℕ = debt c a in
      let cb : List Op = value_code (site p vars) (t + 1) (t + 2) da (pc + length ca) b in
      let last : List Op = op (debt da b) span (compute k (F (operand (site p vars) t a) (operand (site p vars) (t + 1) b))) ∷ [] in
      let hb : Stands code (pc + length ca) (cb ++ last) q = rear code pc q ca (cb ++ last) has in
      ra t (t + 1) c pc (pc + length ca) s w _ (omega (arith, r.room)) (ready_for vars held m t (2 + max (height a) (height b)) d (t + 1) (height a) c s w r (omega arith) (omega arith) dc) (front code pc q ca (cb ++ last) has)
      (λ x s1 w1 A fa.
      rb (t + 1) (t + 2) da (pc + length ca) (pc + length ca + length cb) s1 w1 _ (omega (arith, r.room, A.kept.len))
      (ready_after vars held m (t + 1) (height a) c (t + 2) (height b) da 1 t (t + 1) s s1 w w1 (ready_for vars held m t (2 + max (height a) (height b)) d (t + 1) (height a) c s w r (omega arith) (omega arith) dc) A (omega (arith, r.free)) r.free (omega (arith, r.free)) (omega (arith, r.room)))
      (front code (pc + length ca) q cb last hb)
      (λ y s2 w2 B fb.
      compute_after f k t d (debt da b) (pc + length ca + length cb) q t t (F (operand (site p vars) t a) (operand (site p vars) (t + 1) b)) span s s2 w w2 (G x y) K ks (omega arith) (omega arith)
      (kept_both t t (t + 1) t (t + 2) (t + 1) s s1 s2 (omega arith) (omega arith) (omega arith) (omega arith) A.kept B.kept) (omega (arith, A.later, B.later)) (rear code (pc + length ca) q cb last hb)
      (λ o. eq (operand (site p vars) t a) (operand (site p vars) (t + 1) b) (local s2) o
      ∙ ap (λ z. on_ok (G (or_zero z) (value_of (operand (site p vars) (t + 1) b) (local s2)) o) (λ z. Ok (f z))) (found_kept (operand (site p vars) t a) t (t + 2) (t + 1) s1 s2 (operand_below p vars t a r.free) (omega arith) (omega arith) B.kept ∙ fa)
      ∙ ap (λ z. on_ok (G x (or_zero z) o) (λ z. Ok (f z))) fb) after))

  -- a scalar is computed from a place, whose pointer stands in its own slot
  pub place_then : {A : Type 0} (f : Ptr → A → Scalar) (pl : PlainPlace) → PlaceRuns pl → (F : Operand → Computation) (G : Ptr → List Object → Result A Stop) →
      ((a : Operand) (look : ℕ → Held) (o : List Object) → computed (F a) look o ≡ on_ok (G (pointer_of (value_of a look)) o) (λ y. Ok (f (pointer_of (value_of a look)) y))) →
      (k t d c pc q : ℕ) (span : Span) (s : List Held) (w : State) (K : Target → A → State → Progress Rest) → k < length s → d + 1 ≤ c → Ready vars held m t (place_height pl) d s w →
      Stands code pc (place_code (site p vars) k t c pc pl ++ op (place_debt (site p vars) c pl) span (compute k (F (pointer_operand (site p vars) k pl))) ∷ []) q → ((x : Target) → Then (f (pointer_to x)) k t d q s w (K x)) →
      To p code entries u pc s w (owed c w (λ w. and_then (locate (setting p vars call m) held pl w) (λ x w. or_undefined (G (pointer_to x) w.objects) span w (λ y. K x y w))))
  place_then f pl rp F G eq k t d c pc q span s w K ks dc r has after =
      let cp : List Op = place_code (site p vars) k t c pc pl in
      let last : List Op = op (place_debt (site p vars) c pl) span (compute k (F (pointer_operand (site p vars) k pl))) ∷ [] in
      rp k t c pc (pc + length cp) s w _ ks (ready_for vars held m t (place_height pl) d t (place_height pl) c s w r (omega arith) (omega arith) (omega arith)) (front code pc q cp last has)
      (λ x s1 w1 a e.
      compute_again (f (pointer_to x)) k t d (place_debt (site p vars) c pl) (pc + length cp) q (F (pointer_operand (site p vars) k pl)) span s s1 w w1 (G (pointer_to x)) (K x) ks a.kept (omega (arith, a.later)) (rear code pc q cp last has)
      (λ o. eq (pointer_operand (site p vars) k pl) (local s1) o ∙ ap (λ y. on_ok (G y o) (λ z. Ok (f y z))) (pointer_spotted (spot_of (site p vars) pl) k x s1 e)) (after x))
