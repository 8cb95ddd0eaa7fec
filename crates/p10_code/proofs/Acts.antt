-- What single operations do, whatever follows.
use Rattle.std.proofs.Common.{◌≡◌, ℕ, ◌+◌, List, [], ◌∷◌, Option, Some, None, refl, sym, ap, arith, ℤ}
use Rattle.std.specs.Prelude.{slice_set, Result, Ok, Err}
use Rattle.p10_base.specs.declared.span.Span.{Span}
use Rattle.p10_int.specs.declared.operators.Stop.TheVariants.{U8}
use Rattle.p10_core.specs.Types.{PlainType, void, integer, pointer, array, structure}
use Rattle.p10_core.specs.Typed.{PlainProgram}
use Rattle.p10_int.specs.declared.operators.Stop.{Stop}
use Rattle.p10_meaning.specs.declared.pointers.Scalar.{Scalar}
use Rattle.p10_meaning.specs.declared.pointers.Scalar.TheVariants.{Int}
use Rattle.p10_meaning.specs.Pointers.{holding, unset as unset_cell}
use Rattle.p10_meaning.specs.States.{State, Undefined, Progress, gives, ends, and_then, or_undefined}
use Rattle.p10_meaning.specs.Scalars.{converted_to}
use Rattle.p10_meaning.specs.Values.{Held, holds, stands, absent, Target, Variable, sensed_from, sensed}
use Rattle.p10_code.specs.Operations.{Class, class_of, check, present, sense, unset, Op, Entry}
use Rattle.p10_code.specs.Machine.{Rest, Turned, on, next, scalar_in, converted_by, set_or_stop, declared_or_stop, unless_stopped, turned, sensed_by, Reaches}
use Rattle.p10_code.specs.ValueCode.{op}
use Rattle.p10_code.proofs.Base.{owed, owed_same, Stands, local, Under, stand, look_here, put_runs, To, comes_to, comes_from, placed, pay, off_reaches}

pub none_some : {A : Type 0} (x : A) → None ≡ Some x → ⊥
none_some x h = cc

pub some_same : {A : Type 0} (x y : A) → Some x ≡ Some y → x ≡ y
some_same x y h = cc

-- ## Classes

pub class_same : (t : PlainType) (x : Scalar) → converted_to t x ≡ converted_by (class_of t) x
class_same (void c) x = refl
class_same (integer c i) x = refl
class_same (pointer c t) x = refl
class_same (array c t n) x = refl
class_same (structure c n) x = refl

sensed_same : (l : List ℤ) (t : PlainType) (w : State) → sensed_from l t w ≡ sensed_by l (class_of t) w
sensed_same [] t w = refl
sensed_same (z ∷ l) t w = ap (λ x. gives x (record w { sensors = l })) (class_same t (Int z))

abbrev left_of : Progress Scalar → ℕ
left_of (gives x w) = w.left
left_of (ends end w) = w.left

sensed_left : (l : List ℤ) (c : Class) (w w' : State) (x : Scalar) → sensed_by l c w ≡ gives x w' → w'.left ≡ w.left
sensed_left [] c w w' x h = ap left_of (sym h)
sensed_left (z ∷ l) c w w' x h = ap left_of (sym h)

-- a frame variable that is declared
abbrev pub framed : ℕ → Held → Result Target Stop
framed n (holds cell) = Ok (Variable n)
framed n held = Err U8

module _ (p : PlainProgram) (code : List Op) (entries : List Entry) where
  -- an operation goes on with what it gives, or the run ends
  pub turned_runs : {A : Type 0} (o : Progress A) (F : A → State → Turned) (K : A → State → Progress Rest) → ((a : A) (w : State) → o ≡ gives a w → Reaches p code entries (F a w) (K a w)) → Reaches p code entries (turned o F) (and_then o K)
  turned_runs (gives a w) F K h = h a w refl
  turned_runs (ends end w) F K h = off_reaches p code entries (ends end w) tt

  -- a frame variable has to be declared
  present_by : (x : Held) (u : Under) (n pc q : ℕ) (span : Span) (s : List Held) (w : State) (K : Target → State → Progress Rest) → q ≡ pc + 1 → To p code entries u q s w (K (Variable n) w) →
      Reaches p code entries (unless_stopped (declared_or_stop x) span (stand u pc s w) (λ x. on (next (stand u pc s w)))) (or_undefined (framed n x) span w (λ target. K target w))
  present_by (holds cell) u n pc q span s w K e r = placed p code entries u (pc + 1) q s w _ (sym e) r
  present_by (stands o) u n pc q span s w K e r = off_reaches p code entries (ends (Undefined U8 span) w) tt
  present_by absent u n pc q span s w K e r = off_reaches p code entries (ends (Undefined U8 span) w) tt

  pub present_then : (u : Under) (n d pc q : ℕ) (span : Span) (s : List Held) (w : State) (K : Target → State → Progress Rest) → Stands code pc (op d span (present n) ∷ []) q → ((w' : State) → w'.left + d ≡ w.left → To p code entries u q s w' (K (Variable n) w')) →
      To p code entries u pc s w (owed d w (λ w. or_undefined (framed n (local s n)) span w (λ target. K target w)))
  present_then u n d pc q span s w K at after =
      pay p code entries u pc d span (present n) s w (λ w. or_undefined (framed n (local s n)) span w (λ target. K target w)) at.0
      (λ w1 e1.
      comes_from p code entries _ (unless_stopped (declared_or_stop (local s n)) span (stand u pc s w1) (λ x. on (next (stand u pc s w1)))) _
      (ap (λ (l : ℕ → Held). unless_stopped (declared_or_stop (l n)) span (stand u pc s w1) (λ x. on (next (stand u pc s w1)))) (look_here u pc s w1))
      (present_by (local s n) u n pc q span s w1 K at.1 (after w1 e1)))

  -- a variable has to be set
  check_by : (x : Option Scalar) (u : Under) (pc q : ℕ) (span : Span) (s : List Held) (w : State) (K : Scalar → State → Progress Rest) → q ≡ pc + 1 → ((y : Scalar) → x ≡ Some y → To p code entries u q s w (K y w)) →
      Reaches p code entries (unless_stopped (set_or_stop x) span (stand u pc s w) (λ y. on (next (stand u pc s w)))) (or_undefined (set_or_stop x) span w (λ y. K y w))
  check_by None u pc q span s w K e r = off_reaches p code entries (ends (Undefined U8 span) w) tt
  check_by (Some y) u pc q span s w K e r = placed p code entries u (pc + 1) q s w _ (sym e) (r y refl)

  pub check_then : (u : Under) (n d pc q : ℕ) (span : Span) (s : List Held) (w : State) (K : Scalar → State → Progress Rest) → Stands code pc (op d span (check n) ∷ []) q →
      ((y : Scalar) (w' : State) → w'.left + d ≡ w.left → scalar_in (local s n) ≡ Some y → To p code entries u q s w' (K y w')) →
      To p code entries u pc s w (owed d w (λ w. or_undefined (set_or_stop (scalar_in (local s n))) span w (λ y. K y w)))
  check_then u n d pc q span s w K at after =
      pay p code entries u pc d span (check n) s w (λ w. or_undefined (set_or_stop (scalar_in (local s n))) span w (λ y. K y w)) at.0
      (λ w1 e1.
      comes_from p code entries _ (unless_stopped (set_or_stop (scalar_in (local s n))) span (stand u pc s w1) (λ y. on (next (stand u pc s w1)))) _
      (ap (λ (l : ℕ → Held). unless_stopped (set_or_stop (scalar_in (l n))) span (stand u pc s w1) (λ y. on (next (stand u pc s w1)))) (look_here u pc s w1))
      (check_by (scalar_in (local s n)) u pc q span s w1 K at.1 (λ y e. after y w1 e1 e)))

  -- a sensor is read
  pub sensed_then : (u : Under) (ty : PlainType) (k d pc q : ℕ) (span : Span) (s : List Held) (w : State) (K : Scalar → State → Progress Rest) → Stands code pc (op d span (sense k (class_of ty)) ∷ []) q →
      ((x : Scalar) (w' : State) → w'.left + d ≡ w.left → To p code entries u q (slice_set s k (holds (holding x))) w' (K x w')) →
      To p code entries u pc s w (owed d w (λ w. and_then (sensed ty w) K))
  sensed_then u ty k d pc q span s w K at after =
      comes_to p code entries _ _ _ (owed_same d w _ _ (λ w. ap (λ o. and_then o K) (sensed_same w.sensors ty w)))
      (pay p code entries u pc d span (sense k (class_of ty)) s w (λ w. and_then (sensed_by w.sensors (class_of ty) w) K) at.0
      (λ w1 e1.
      turned_runs (sensed_by w1.sensors (class_of ty) w1) _ K
      (λ x w2 e2.
      put_runs p code entries u k pc q (holds (holding x)) s w2 (K x w2) at.1
      (after x w2 (let l : w2.left ≡ w1.left = sensed_left w1.sensors (class_of ty) w1 w2 x e2 in omega (arith, l, e1))))))

  -- nothing stands in a slot
  pub unset_then : (u : Under) (k d pc q : ℕ) (span : Span) (s : List Held) (w : State) (K : State → Progress Rest) → Stands code pc (op d span (unset k) ∷ []) q →
      ((w' : State) → w'.left + d ≡ w.left → To p code entries u q (slice_set s k (holds unset_cell)) w' (K w')) → To p code entries u pc s w (owed d w K)
  unset_then u k d pc q span s w K at after =
      pay p code entries u pc d span (unset k) s w K at.0 (λ w1 e1. put_runs p code entries u k pc q (holds unset_cell) s w1 (K w1) at.1 (after w1 e1))
