-- The code of values does what they mean: a lemma for each form.
use Rattle.std.proofs.Common.{◌≡◌, ℕ, zero, suc, ◌+◌, ◌<◌, ◌≤◌, Bool, true, false, List, [], ◌∷◌, ◌++◌, length, Option, Some, None, refl, sym, ap, ◌∙◌, subst, arith, ℤ}
use Rattle.std.specs.Prelude.{slice_get, slice_set, not, if◌then◌else◌, Ok}
use Rattle.std.proofs.lemmas.List.{get_or-set_same}
use Rattle.p10_base.specs.declared.span.Span.{Span}
use Rattle.p10_base.specs.declared.at.At.{At}
use Rattle.p10_int.specs.declared.operators.Stop.TheVariants.{U8}
use Rattle.p10_int.specs.declared.operators.BinOp.{BinOp}
use Rattle.p10_int.specs.declared.operators.BinOp.TheVariants.{Add, Sub, Mul, Div, Rem, Shl, Shr, And as BitAnd, Or as BitOr, Xor, Lt, Gt, Le, Ge, Eq, Ne}
use Rattle.p10_int.specs.declared.operators.UnOp.{UnOp}
use Rattle.p10_int.specs.declared.operators.UnOp.TheVariants.{Plus, Neg, Not, Com}
use Rattle.p10_core.specs.Types.{PlainType, integer}
use Rattle.p10_core.specs.Typed.{PlainValue, value, PlainForm, constant, read, sense, address, decay, convert, cast, unary, binary, logic, conditional, call as call_form, built_in, PlainPlace, place_at, place_type, PlainVariable, PlainProgram}
use Rattle.p10_meaning.specs.declared.pointers.Scalar.{Scalar}
use Rattle.p10_meaning.specs.declared.pointers.Scalar.TheVariants.{Int, Pointer}
use Rattle.p10_meaning.specs.Pointers.{holding, read_of, unset as unset_cell}
use Rattle.p10_meaning.specs.Objects.{Object, on_ok, cell_at, inner}
use Rattle.p10_meaning.specs.States.{State, Undefined, Progress, gives, ends, step, step_at, and_then, or_undefined}
use Rattle.p10_meaning.specs.Scalars.{integer_type, pointer_of, converted_to, operated, operated_unary}
use Rattle.p10_meaning.specs.Values.{Calls, Setting, Held, holds, stands, absent, width, Target, Variable, Sensor, Element, pointer_to, held_cell, sensed, read_target, give, used as used_value, is_void, is_structure, element_type, element_count, perform, discard, evaluate, locate}
use Rattle.p10_code.specs.Operations.{slot, fixed, address as address_class, class_of, same, conversion, unary as unary_of, binary as binary_of, inside, content, compute, unset, sense as sense_op, halt, Op, Entry}
use Rattle.p10_code.specs.Machine.{Rest, scalar_in, or_zero, found, value_of, converted_by, set_or_stop}
use Rattle.p10_code.specs.ValueCode.{op, is_small, small, small_converted, fixed_of, Spot, in_frame, at_sensor, in_object, nowhere, spot_of, debt_by, place_debt, read_operand, operand_by, operand, debt_of_fixed, debt, height, place_height, constant_code, conversion_code, read_code, value_code, dropped_code, place_code}
use Rattle.p10_code.proofs.Base.{owed, owed_step, owed_zero, owed_same, assoc, owed_node, result_then, then_same, ok_same, Stands, front, rear, local, Kept, kept_all, kept_set, kept_again, Under, To, comes_to, placed, pay, off_reaches}
use Rattle.p10_code.proofs.ValueParts.{Ready, After, ready_for, Sure, Spotted, site, setting, FormRuns, ValueRuns, DroppedRuns, PlaceRuns, Then, compute_again, compute_after, value_then, values_then, place_then}
use Rattle.p10_code.proofs.Acts.{none_some, some_same, class_same, framed, check_then, sensed_then, unset_then}
use Rattle.p10_code.proofs.Places.{IsSpot, place_is}

-- ## Classes

unary_class : (o : UnOp) (t : PlainType) (x : Scalar) → operated_unary o t x ≡ operated_unary o (integer false (integer_type t)) x
unary_class o t (Int z) = refl
unary_class Plus t (Pointer q) = refl
unary_class Neg t (Pointer q) = refl
unary_class Not t (Pointer q) = refl
unary_class Com t (Pointer q) = refl

pub binary_class : (o : BinOp) (t : PlainType) (objects : List Object) (x y : Scalar) → operated o t objects x y ≡ operated o (integer false (integer_type t)) objects x y
binary_class o t objects (Int a) (Int b) = refl
binary_class o t objects (Pointer q) (Int b) = refl
binary_class o t objects (Int a) (Pointer q) = refl
binary_class Add t objects (Pointer q) (Pointer r) = refl
binary_class Sub t objects (Pointer q) (Pointer r) = refl
binary_class Mul t objects (Pointer q) (Pointer r) = refl
binary_class Div t objects (Pointer q) (Pointer r) = refl
binary_class Rem t objects (Pointer q) (Pointer r) = refl
binary_class Shl t objects (Pointer q) (Pointer r) = refl
binary_class Shr t objects (Pointer q) (Pointer r) = refl
binary_class BitAnd t objects (Pointer q) (Pointer r) = refl
binary_class BitOr t objects (Pointer q) (Pointer r) = refl
binary_class Xor t objects (Pointer q) (Pointer r) = refl
binary_class Lt t objects (Pointer q) (Pointer r) = refl
binary_class Gt t objects (Pointer q) (Pointer r) = refl
binary_class Le t objects (Pointer q) (Pointer r) = refl
binary_class Ge t objects (Pointer q) (Pointer r) = refl
binary_class Eq t objects (Pointer q) (Pointer r) = refl
binary_class Ne t objects (Pointer q) (Pointer r) = refl

-- ## Constants

gives_at : {A B : Type 0} (n : ℕ) (w : State) (x : A) (F : A → State → Progress B) → and_then (step_at n w (λ w. gives x w)) F ≡ step_at n w (λ w. F x w)
gives_at zero w x F = refl
gives_at (suc n) w x F = refl

step_gives : {A B : Type 0} (w : State) (x : A) (F : A → State → Progress B) → and_then (step w (λ w. gives x w)) F ≡ step w (λ w. F x w)
step_gives w x F = gives_at w.left w x F

small_by : (b : Bool) (y x : Scalar) → (if b then Some y else None) ≡ Some x → y ≡ x
small_by true y x h = some_same y x h
small_by false y x h = absurd (none_some x h)

small_is : (y x : Scalar) → small y ≡ Some x → y ≡ x
small_is (Int z) x h = small_by (is_small (Int z)) (Int z) x h
small_is (Pointer q) x h = small_by true (Pointer q) x h

module _ (p : PlainProgram) (vars : List PlainVariable) (call : Calls) (m : ℕ) (held : List Held) where
  -- a form that is fixed takes a step and gives its scalar
  abbrev IsFixed : At → PlainType → PlainForm → Option Scalar → Type 0
  IsFixed here ty form o = (x : Scalar) → o ≡ Some x → (w : State) → perform (setting p vars call m) held here ty form w ≡ step w (λ w. give x w)

  converted_fixed : (here at : At) (ty u : PlainType) (form : PlainForm) (o : Option Scalar) → IsFixed at u form o → IsFixed here ty (convert (value at u form)) (small_converted (class_of ty) o)
  converted_fixed here at ty u form None r x h w = absurd (none_some x h)
  converted_fixed here at ty u form (Some y) r x h w =
      ap (λ o. and_then (and_then o (λ x w. or_undefined (used_value x) at.span w (λ x. gives x w))) (λ x w. give (converted_to ty x) w)) (r y refl w)
      ∙ ap (λ o. and_then o (λ x w. give (converted_to ty x) w)) (step_gives w (Some y) (λ x w. or_undefined (used_value x) at.span w (λ x. gives x w)))
      ∙ step_gives w y (λ x w. give (converted_to ty x) w)
      ∙ ap (λ z. step w (λ w. give z w)) (class_same ty y ∙ small_is (converted_by (class_of ty) y) x h)

  is_fixed : (here : At) (ty : PlainType) (form : PlainForm) → IsFixed here ty form (fixed_of ty form)
  is_fixed here ty (constant z) x h w = ap (λ y. step w (λ w. give y w)) (small_is (Int z) x h)
  is_fixed here ty (convert (value at u form)) x h w = converted_fixed here at ty u form (fixed_of u form) (is_fixed at u form) x h w
  is_fixed here ty (read pl) x h w = absurd (none_some x h)
  is_fixed here ty (sense n) x h w = absurd (none_some x h)
  is_fixed here ty (address pl) x h w = absurd (none_some x h)
  is_fixed here ty (decay pl) x h w = absurd (none_some x h)
  is_fixed here ty (cast v) x h w = absurd (none_some x h)
  is_fixed here ty (unary o v) x h w = absurd (none_some x h)
  is_fixed here ty (binary o a b) x h w = absurd (none_some x h)
  is_fixed here ty (logic o a b) x h w = absurd (none_some x h)
  is_fixed here ty (conditional c a b) x h w = absurd (none_some x h)
  is_fixed here ty (call_form name f vs) x h w = absurd (none_some x h)
  is_fixed here ty (built_in name f vs) x h w = absurd (none_some x h)

-- ## Variables that are read

cell_read : (o : Option Held) (x : Option Scalar) (span : Span) (w : State) → o ≡ Some (holds (record { value = x })) → or_undefined (read_of (held_cell o)) span w (λ y. gives y w) ≡ or_undefined (set_or_stop x) span w (λ y. gives y w)
cell_read o None span w e = ap (λ o. or_undefined (read_of (held_cell o)) span w (λ y. gives y w)) e
cell_read o (Some x) span w e = ap (λ o. or_undefined (read_of (held_cell o)) span w (λ y. gives y w)) e

pub variable_read : (held : List Held) (n : ℕ) (span : Span) (ty : PlainType) (w : State) (x : Held) → slice_get held n ≡ Some x → read_target span ty held (Variable n) w ≡ or_undefined (set_or_stop (scalar_in x)) span w (λ y. gives y w)
variable_read held n span ty w (holds cell) e = cell_read (slice_get held n) cell.value span w e
variable_read held n span ty w (stands o) e = ap (λ o. or_undefined (read_of (held_cell o)) span w (λ y. gives y w)) e
variable_read held n span ty w absent e = ap (λ o. or_undefined (read_of (held_cell o)) span w (λ y. gives y w)) e

module _ (p : PlainProgram) (code : List Op) (entries : List Entry) (u : Under) (vars : List PlainVariable) (call : Calls) (m : ℕ) (held : List Held) where
  -- what follows a form: the debt and the operand are given
  abbrev ThenForm : Option Scalar → Bool → PlainType → PlainForm → ℕ → ℕ → ℕ → ℕ → List Held → State → (Option Scalar → State → Progress Rest) → Type 0
  ThenForm o sure ty form k t d q s w K =
      (x : Option Scalar) (s' : List Held) (w' : State) → After 1 k t d (debt_of_fixed o d) s w s' w' → found (operand_by o (site p vars) k ty form) (local s') ≡ x → Sure sure x → To p code entries u q s' w' (owed (debt_of_fixed o d) w' (K x))

  -- a fixed form has no operation
  fixed_runs : (here : At) (ty : PlainType) (form : PlainForm) (x : Scalar) → ((w : State) → perform (setting p vars call m) held here ty form w ≡ step w (λ w. give x w)) → (k t d pc q : ℕ) (s : List Held) (w : State) (K : Option Scalar → State → Progress Rest) → q ≡ pc →
      ThenForm (Some x) true ty form k t d q s w K → To p code entries u pc s w (owed d w (λ w. and_then (perform (setting p vars call m) held here ty form w) K))
  fixed_runs here ty form x e k t d pc q s w K eq after =
      comes_to p code entries _ _ _ (owed_same d w _ _ (λ w. ap (λ o. and_then o K) (e w)) ∙ owed_step d w (λ w. give x w) K)
      (placed p code entries u pc q s w _ (sym eq) (after (Some x) s w (record { kept = kept_all t k s; later = omega arith }) refl (x, refl)))

  -- what follows a scalar that a form computes
  form_then : (k t d q : ℕ) (s : List Held) (w : State) (K : Option Scalar → State → Progress Rest) →
      ((x : Option Scalar) (s' : List Held) (w' : State) → After 1 k t d 0 s w s' w' → found (slot k) (local s') ≡ x → Sure true x → To p code entries u q s' w' (owed 0 w' (K x))) →
      {A : Type 0} (f : A → Scalar) → Then p code entries u vars call m held f k t d q s w (λ a. K (Some (f a)))
  form_then k t d q s w K after f a s1 w1 b e =
      comes_to p code entries _ _ _ (sym (owed_zero w1 (K (Some (f a))))) (after (Some (f a)) s1 w1 b (ap scalar_in e) (f a, refl))

  -- a constant
  constant_by : (here : At) (ty : PlainType) (z : ℤ) (o : Option Scalar) → IsFixed p vars call m held here ty (constant z) o → (k t d pc q : ℕ) (s : List Held) (w : State) (K : Option Scalar → State → Progress Rest) → k < length s → Stands code pc (constant_code o k d here.span (Int z)) q →
      ThenForm o true ty (constant z) k t d q s w K → To p code entries u pc s w (owed d w (λ w. and_then (perform (setting p vars call m) held here ty (constant z) w) K))
  constant_by here ty z (Some x) e k t d pc q s w K ks at after = fixed_runs here ty (constant z) x (e x refl) k t d pc q s w K at after
  constant_by here ty z None e k t d pc q s w K ks at after =
      comes_to p code entries _ _ _ (owed_step d w (λ w. give (Int z) w) K)
      (compute_after p code entries u vars call m held (λ z. Int z) k t d (d + 1) pc q t t (same (fixed (Int z))) here.span s s w w (λ o. Ok z) (λ z. K (Some (Int z))) ks (omega arith) (omega arith) (kept_all t t s) (omega arith) at (λ o. refl)
      (form_then k t d q s w K after (λ z. Int z)))

  pub constant_runs : (here : At) (ty : PlainType) (z : ℤ) → FormRuns p code entries u vars call m held here ty (constant z)
  constant_runs here ty z k t d pc q s w K ks r at after = constant_by here ty z (small (Int z)) (is_fixed p vars call m held here ty (constant z)) k t d pc q s w K ks at after

  -- a conversion
  convert_by : (here : At) (ty : PlainType) (v : PlainValue) (o : Option Scalar) → IsFixed p vars call m held here ty (convert v) o → ValueRuns p code entries u vars call m held v → (k t d pc q : ℕ) (s : List Held) (w : State) (K : Option Scalar → State → Progress Rest) → k < length s →
      Ready vars held m t (height v) d s w → Stands code pc (conversion_code o (value_code (site p vars) k t d pc v) (op (debt d v) here.span (compute k (conversion (class_of ty) (operand (site p vars) k v))))) q →
      ThenForm o true ty (convert v) k t d q s w K → To p code entries u pc s w (owed d w (λ w. and_then (perform (setting p vars call m) held here ty (convert v) w) K))
  convert_by here ty v (Some x) e rv k t d pc q s w K ks r at after = fixed_runs here ty (convert v) x (e x refl) k t d pc q s w K at after
  convert_by here ty v None e rv k t d pc q s w K ks r at after =
      let g : Setting = setting p vars call m in
      comes_to p code entries _ _ _
      (owed_same d w _ _ (λ w. assoc (evaluate g held v w) (λ x w. give (converted_to ty x) w) K ∙ then_same (evaluate g held v w) _ _ (λ x w. ap (λ y. K (Some y) w) (class_same ty x))))
      (value_then p code entries u vars call m held (λ x y. y) v rv (λ a. conversion (class_of ty) a) (λ x o. Ok (converted_by (class_of ty) x)) (λ a look o. refl) k t d d pc q here.span s w (λ x y. K (Some y)) ks (omega arith) r at
      (λ x. form_then k t d q s w K after (λ y. y)))

  pub convert_runs : (here : At) (ty : PlainType) (v : PlainValue) → ValueRuns p code entries u vars call m held v → FormRuns p code entries u vars call m held here ty (convert v)
  convert_runs here ty v rv k t d pc q s w K ks r at after = convert_by here ty v (fixed_of ty (convert v)) (is_fixed p vars call m held here ty (convert v)) rv k t d pc q s w K ks r at after

  -- an operator of one operand
  pub unary_runs : (here : At) (ty : PlainType) (o : UnOp) (v : PlainValue) → ValueRuns p code entries u vars call m held v → FormRuns p code entries u vars call m held here ty (unary o v)
  unary_runs here ty o v rv k t d pc q s w K ks r at after =
      let g : Setting = setting p vars call m in
      comes_to p code entries _ _ _
      (owed_node d w (λ w. evaluate g held v w) (λ x w. or_undefined (operated_unary o ty x) here.span w (λ z. give z w)) K
      ∙ owed_same (d + 1) w _ _ (λ w. then_same (evaluate g held v w) _ _ (λ x w. result_then (operated_unary o ty x) here.span w (λ z. give z w) K ∙ ap (λ r. or_undefined r here.span w (λ z. K (Some z) w)) (unary_class o ty x))))
      (value_then p code entries u vars call m held (λ x y. y) v rv (λ a. unary_of o (integer_type ty) a) (λ x objects. operated_unary o (integer false (integer_type ty)) x) (λ a look objects. ok_same (operated_unary o (integer false (integer_type ty)) (value_of a look)))
      k t d (d + 1) pc q here.span s w (λ x y. K (Some y)) ks (omega arith) r at
      (λ x. form_then k t d q s w K after (λ y. y)))

  -- an operator of two operands
  pub binary_runs : (here : At) (ty : PlainType) (o : BinOp) (a b : PlainValue) → ValueRuns p code entries u vars call m held a → ValueRuns p code entries u vars call m held b → FormRuns p code entries u vars call m held here ty (binary o a b)
  binary_runs here ty o a b ra rb k t d pc q s w K ks r at after =
      let g : Setting = setting p vars call m in
      comes_to p code entries _ _ _
      (owed_node d w (λ w. evaluate g held a w) (λ x w. and_then (evaluate g held b w) (λ y w. or_undefined (operated o ty w.objects x y) here.span w (λ z. give z w))) K
      ∙ owed_same (d + 1) w _ _ (λ w. then_same (evaluate g held a w) _ _ (λ x w. assoc (evaluate g held b w) (λ y w. or_undefined (operated o ty w.objects x y) here.span w (λ z. give z w)) K
      ∙ then_same (evaluate g held b w) _ _ (λ y w. result_then (operated o ty w.objects x y) here.span w (λ z. give z w) K ∙ ap (λ r. or_undefined r here.span w (λ z. K (Some z) w)) (binary_class o ty w.objects x y)))))
      (values_then p code entries u vars call m held (λ z. z) a b ra rb (λ x y. binary_of o (integer_type ty) x y) (λ x y objects. operated o (integer false (integer_type ty)) objects x y) (λ x y look objects. ok_same (operated o (integer false (integer_type ty)) objects (value_of x look) (value_of y look)))
      k t d (d + 1) pc q here.span s w (λ z. K (Some z)) ks (omega arith) r at
      (form_then k t d q s w K after (λ z. z)))

  -- the address of a place, and that of an array's first element
  pub address_runs : (here : At) (ty : PlainType) (pl : PlainPlace) → PlaceRuns p code entries u vars call m held pl → FormRuns p code entries u vars call m held here ty (address pl)
  address_runs here ty pl rp k t d pc q s w K ks r at after =
      let g : Setting = setting p vars call m in
      comes_to p code entries _ _ _ (owed_node d w (λ w. locate g held pl w) (λ x w. give (Pointer (pointer_to x)) w) K)
      (place_then p code entries u vars call m held (λ x y. Pointer x) pl rp (λ a. conversion address_class a) (λ x o. Ok x) (λ a look o. refl) k t d (d + 1) pc q here.span s w (λ x y. K (Some (Pointer (pointer_to x)))) ks (omega arith) r at
      (λ x. form_then k t d q s w K after (λ y. Pointer (pointer_to x))))

  pub decay_runs : (here : At) (ty : PlainType) (pl : PlainPlace) → PlaceRuns p code entries u vars call m held pl → FormRuns p code entries u vars call m held here ty (decay pl)
  decay_runs here ty pl rp k t d pc q s w K ks r at after =
      let g : Setting = setting p vars call m in
      let stride : ℕ = width p (element_type (place_type pl)) in
      let count : ℕ = element_count (place_type pl) in
      comes_to p code entries _ _ _
      (owed_node d w (λ w. locate g held pl w) (λ x w. or_undefined (inner w.objects (pointer_to x) 0 stride count) here.span w (λ q. give (Pointer q) w)) K
      ∙ owed_same (d + 1) w _ _ (λ w. then_same (locate g held pl w) _ _ (λ x w. result_then (inner w.objects (pointer_to x) 0 stride count) here.span w (λ q. give (Pointer q) w) K)))
      (place_then p code entries u vars call m held (λ x y. Pointer y) pl rp (λ a. inside a 0 stride count) (λ x o. inner o x 0 stride count) (λ a look o. refl) k t d (d + 1) pc q here.span s w (λ x y. K (Some (Pointer y))) ks (omega arith) r at
      (λ x. form_then k t d q s w K after (λ y. Pointer y)))

  -- a read of a sensor
  sensed_runs : (here : Span) (ty : PlainType) (k t d pc q : ℕ) (s : List Held) (w : State) (K : Option Scalar → State → Progress Rest) → k < length s → Stands code pc (op (d + 1) here (sense_op k (class_of ty)) ∷ []) q →
      ((x : Option Scalar) (s' : List Held) (w' : State) → After 1 k t d 0 s w s' w' → found (slot k) (local s') ≡ x → Sure true x → To p code entries u q s' w' (owed 0 w' (K x))) →
      To p code entries u pc s w (owed (d + 1) w (λ w. and_then (and_then (sensed ty w) give) K))
  sensed_runs here ty k t d pc q s w K ks at after =
      comes_to p code entries _ _ _ (owed_same (d + 1) w _ _ (λ w. assoc (sensed ty w) give K))
      (sensed_then p code entries u ty k (d + 1) pc q here s w (λ x. K (Some x)) at
      (λ x w1 e1.
      form_then k t d q s w K after (λ y. y) x (slice_set s k (holds (holding x))) w1
      (record { kept = kept_set t k (holds (holding x)) s; later = omega (arith, e1) }) (get_or-set_same s k (holds (holding x)) absent ks)))

  pub sense_runs : (here : At) (ty : PlainType) (n : ℕ) → FormRuns p code entries u vars call m held here ty (sense n)
  sense_runs here ty n k t d pc q s w K ks r at after =
      comes_to p code entries _ _ _ (owed_step d w (λ w. and_then (sensed ty w) give) K)
      (sensed_runs here.span ty k t d pc q s w K ks at after)

  -- nothing is given
  nothing_runs : (e k t d pc q : ℕ) (span : Span) (s s1 : List Held) (w w1 : State) (K : Option Scalar → State → Progress Rest) → k < length s → Kept t k s s1 → w1.left + d + 1 ≤ w.left + e → Stands code pc (op e span (unset k) ∷ []) q →
      ((x : Option Scalar) (s' : List Held) (w' : State) → After 1 k t d 0 s w s' w' → found (slot k) (local s') ≡ x → Sure false x → To p code entries u q s' w' (owed 0 w' (K x))) →
      To p code entries u pc s1 w1 (owed e w1 (K None))
  nothing_runs e k t d pc q span s s1 w w1 K ks kept later at after =
      unset_then p code entries u k e pc q span s1 w1 (K None) at
      (λ w2 e2.
      comes_to p code entries _ _ _ (sym (owed_zero w2 (K None)))
      (after None (slice_set s1 k (holds unset_cell)) w2
      (record { kept = kept_again t k s s1 (slice_set s1 k (holds unset_cell)) kept (kept_set t k (holds unset_cell) s1); later = omega (arith, later, e2) })
      (ap scalar_in (get_or-set_same s1 k (holds unset_cell) absent (omega (arith, ks, kept.len)))) tt))

  -- a written cast
  cast_by : (here : At) (ty : PlainType) (b : Bool) (v : PlainValue) → ValueRuns p code entries u vars call m held v → DroppedRuns p code entries u vars call m held v → (k t d pc q : ℕ) (s : List Held) (w : State) (K : Option Scalar → State → Progress Rest) → k < length s → Ready vars held m t (height v) d s w →
      Stands code pc
      (if b
      then dropped_code (site p vars) k t (d + 1) pc v ++ op (debt (d + 1) v) here.span (unset k) ∷ []
      else value_code (site p vars) k t (d + 1) pc v ++ op (debt (d + 1) v) here.span (compute k (conversion (class_of ty) (operand (site p vars) k v))) ∷ []) q →
      ((x : Option Scalar) (s' : List Held) (w' : State) → After 1 k t d 0 s w s' w' → found (slot k) (local s') ≡ x → Sure (not b) x → To p code entries u q s' w' (owed 0 w' (K x))) →
      To p code entries u pc s w (owed d w (λ w. and_then (step w (λ w. if b then and_then (discard (setting p vars call m) held v w) (λ x w. gives None w) else and_then (evaluate (setting p vars call m) held v w) (λ x w. give (converted_to ty x) w))) K))
  cast_by here ty true v rv rd k t d pc q s w K ks r at after =
      let g : Setting = setting p vars call m in
      let cv : List Op = dropped_code (site p vars) k t (d + 1) pc v in
      let last : List Op = op (debt (d + 1) v) here.span (unset k) ∷ [] in
      comes_to p code entries _ _ _ (owed_node d w (λ w. discard g held v w) (λ x w. gives None w) K)
      (rd k t (d + 1) pc (pc + length cv) s w (λ x w. K None w) ks (ready_for vars held m t (height v) d t (height v) (d + 1) s w r (omega arith) (omega arith) (omega arith)) (front code pc q cv last at)
      (λ x s1 w1 a. nothing_runs (debt (d + 1) v) k t d (pc + length cv) q here.span s s1 w w1 K ks a.kept (omega (arith, a.later)) (rear code pc q cv last at) after))
  cast_by here ty false v rv rd k t d pc q s w K ks r at after =
      let g : Setting = setting p vars call m in
      comes_to p code entries _ _ _
      (owed_node d w (λ w. evaluate g held v w) (λ x w. give (converted_to ty x) w) K
      ∙ owed_same (d + 1) w _ _ (λ w. then_same (evaluate g held v w) _ _ (λ x w. ap (λ y. K (Some y) w) (class_same ty x))))
      (value_then p code entries u vars call m held (λ x y. y) v rv (λ a. conversion (class_of ty) a) (λ x o. Ok (converted_by (class_of ty) x)) (λ a look o. refl) k t d (d + 1) pc q here.span s w (λ x y. K (Some y)) ks (omega arith) r at
      (λ x. form_then k t d q s w K after (λ y. y)))

  pub cast_runs : (here : At) (ty : PlainType) (v : PlainValue) → ValueRuns p code entries u vars call m held v → DroppedRuns p code entries u vars call m held v → FormRuns p code entries u vars call m held here ty (cast v)
  cast_runs here ty v rv rd k t d pc q s w K ks r at after = cast_by here ty (is_void ty) v rv rd k t d pc q s w K ks r at after

  -- a frame variable that is read
  frame_read : (n : ℕ) (span : Span) (ty : PlainType) (w : State) (F : Target → State → Progress Rest) (K : Scalar → State → Progress Rest) (x : Held) → slice_get held n ≡ Some x → F (Variable n) w ≡ and_then (read_target span ty held (Variable n) w) K →
      and_then (or_undefined (framed n x) span w (λ target. gives target w)) F ≡ or_undefined (set_or_stop (scalar_in x)) span w (λ y. K y w)
  frame_read n span ty w F K (holds cell) e f = f ∙ ap (λ o. and_then o K) (variable_read held n span ty w (holds cell) e) ∙ result_then (set_or_stop cell.value) span w (λ y. gives y w) K
  frame_read n span ty w F K (stands o) e f = refl
  frame_read n span ty w F K absent e f = refl

  -- a read of a place, by its spot
  read_by : (here : At) (ty : PlainType) (pl : PlainPlace) (spot : Spot) → spot_of (site p vars) pl ≡ spot → PlaceRuns p code entries u vars call m held pl → (k t d pc q : ℕ) (s : List Held) (w : State) (K : Option Scalar → State → Progress Rest) → k < length s →
      Ready vars held m t (place_height pl) d s w → Stands code pc (read_code spot k d (place_at pl).span (class_of ty) (place_code (site p vars) k t (d + 1) pc pl)) q →
      ((x : Option Scalar) (s' : List Held) (w' : State) → After 1 k t d 0 s w s' w' → found (read_operand spot k) (local s') ≡ x → Sure true x → To p code entries u q s' w' (owed 0 w' (K x))) →
      To p code entries u pc s w (owed (d + 1) w (λ w. and_then (locate (setting p vars call m) held pl w) (λ target w. and_then (and_then (read_target (place_at pl).span ty held target w) give) K)))
  read_by here ty pl in_object e rp k t d pc q s w K ks r at after =
      let g : Setting = setting p vars call m in
      let span : Span = (place_at pl).span in
      let cp : List Op = place_code (site p vars) k t (d + 1) pc pl in
      let last : List Op = op 0 span (compute k (content (slot k))) ∷ [] in
      rp k t (d + 1) pc (pc + length cp) s w _ ks (ready_for vars held m t (place_height pl) d t (place_height pl) (d + 1) s w r (omega arith) (omega arith) (omega arith)) (front code pc q cp last at)
      (λ target s1 w1 a spotted.
      (let free : place_debt (site p vars) (d + 1) pl ≡ 0 = ap (λ x. debt_by x (d + 1)) e in
      let (z, et, ez) = subst (λ x. Spotted x k target s1) e spotted in
      comes_to p code entries _ _ _
      ((λ i. owed (free i) w1 (λ w. and_then (and_then (read_target span ty held (et i) w) give) K))
      ∙ owed_same 0 w1 _ _ (λ w. assoc (read_target span ty held (Element z) w) give K ∙ result_then (on_ok (cell_at w.objects z) read_of) span w (λ x. gives x w) (λ x w. and_then (give x w) K)))
      (compute_again p code entries u vars call m held (λ x. x) k t d 0 (pc + length cp) q (content (slot k)) span s s1 w w1 (λ o. on_ok (cell_at o z) read_of) (λ x. K (Some x)) ks a.kept (omega (arith, a.later, free)) (rear code pc q cp last at)
      (λ o. ap (λ x. on_ok (cell_at o (pointer_of (or_zero (scalar_in x)))) read_of) ez ∙ ok_same (on_ok (cell_at o z) read_of))
      (form_then k t d q s w K after (λ x. x)))))
  read_by here ty pl at_sensor e rp k t d pc q s w K ks r at after =
      let g : Setting = setting p vars call m in
      let is : (w : State) → locate g held pl w ≡ gives Sensor w = subst (λ x. IsSpot p vars call m held s r.variables pl x) e (place_is p vars call m held s r.variables pl) in
      comes_to p code entries _ _ _ (owed_same (d + 1) w _ _ (λ w. ap (λ o. and_then o (λ target w. and_then (and_then (read_target (place_at pl).span ty held target w) give) K)) (is w)))
      (sensed_runs (place_at pl).span ty k t d pc q s w K ks at after)
  read_by here ty pl nowhere e rp k t d pc q s w K ks r at after =
      let g : Setting = setting p vars call m in
      let span : Span = (place_at pl).span in
      let is : (w : State) → locate g held pl w ≡ ends (Undefined U8 span) w = subst (λ x. IsSpot p vars call m held s r.variables pl x) e (place_is p vars call m held s r.variables pl) in
      comes_to p code entries _ _ _ (owed_same (d + 1) w _ (λ w. ends (Undefined U8 span) w) (λ w. ap (λ o. and_then o (λ target w. and_then (and_then (read_target span ty held target w) give) K)) (is w)))
      (pay p code entries u pc (d + 1) span (halt U8) s w (λ w. ends (Undefined U8 span) w) at.0 (λ w1 e1. off_reaches p code entries (ends (Undefined U8 span) w1) tt))
  read_by here ty pl (in_frame n) e rp k t d pc q s w K ks r at after =
      let span : Span = (place_at pl).span in
      let (is, there) =
      subst (λ x. IsSpot p vars call m held s r.variables pl x) e (place_is p vars call m held s r.variables pl) in
      comes_to p code entries _ _ _
      (owed_same (d + 1) w _ _ (λ w. ap (λ o. and_then o (λ target w. and_then (and_then (read_target span ty held target w) give) K)) (is w)
      ∙ frame_read n span ty w (λ target w. and_then (and_then (read_target span ty held target w) give) K) (λ y. K (Some y)) (local s n) there (assoc (read_target span ty held (Variable n) w) give K)))
      (check_then p code entries u n (d + 1) pc q span s w (λ y. K (Some y)) at
      (λ y w1 e1 f.
      comes_to p code entries _ _ _ (sym (owed_zero w1 (K (Some y))))
      (after (Some y) s w1 (record { kept = kept_all t k s; later = omega (arith, e1) }) f (y, refl))))

  -- of a structure no scalar is read
  structure_runs : (here : At) (pl : PlainPlace) → PlaceRuns p code entries u vars call m held pl → (k t d pc q : ℕ) (s : List Held) (w : State) (K : Option Scalar → State → Progress Rest) → k < length s → Ready vars held m t (place_height pl) d s w →
      Stands code pc (place_code (site p vars) k t (d + 1) pc pl ++ op (place_debt (site p vars) (d + 1) pl) here.span (unset k) ∷ []) q →
      ((x : Option Scalar) (s' : List Held) (w' : State) → After 1 k t d 0 s w s' w' → found (slot k) (local s') ≡ x → Sure false x → To p code entries u q s' w' (owed 0 w' (K x))) →
      To p code entries u pc s w (owed (d + 1) w (λ w. and_then (locate (setting p vars call m) held pl w) (λ target w. K None w)))
  structure_runs here pl rp k t d pc q s w K ks r at after =
      let cp : List Op = place_code (site p vars) k t (d + 1) pc pl in
      let last : List Op = op (place_debt (site p vars) (d + 1) pl) here.span (unset k) ∷ [] in
      rp k t (d + 1) pc (pc + length cp) s w (λ target w. K None w) ks (ready_for vars held m t (place_height pl) d t (place_height pl) (d + 1) s w r (omega arith) (omega arith) (omega arith)) (front code pc q cp last at)
      (λ target s1 w1 a spotted. nothing_runs (place_debt (site p vars) (d + 1) pl) k t d (pc + length cp) q here.span s s1 w w1 K ks a.kept (omega (arith, a.later)) (rear code pc q cp last at) after)

  read_case : (here : At) (ty : PlainType) (b : Bool) (pl : PlainPlace) → PlaceRuns p code entries u vars call m held pl → (k t d pc q : ℕ) (s : List Held) (w : State) (K : Option Scalar → State → Progress Rest) → k < length s → Ready vars held m t (place_height pl) d s w →
      Stands code pc
      (if b
      then place_code (site p vars) k t (d + 1) pc pl ++ op (place_debt (site p vars) (d + 1) pl) here.span (unset k) ∷ []
      else read_code (spot_of (site p vars) pl) k d (place_at pl).span (class_of ty) (place_code (site p vars) k t (d + 1) pc pl)) q →
      ((x : Option Scalar) (s' : List Held) (w' : State) → After 1 k t d 0 s w s' w' → found (if b then slot k else read_operand (spot_of (site p vars) pl) k) (local s') ≡ x → Sure (not b) x → To p code entries u q s' w' (owed 0 w' (K x))) →
      To p code entries u pc s w (owed d w (λ w. and_then (step w (λ w. and_then (locate (setting p vars call m) held pl w) (λ target w. if b then gives None w else and_then (read_target (place_at pl).span ty held target w) give))) K))
  read_case here ty true pl rp k t d pc q s w K ks r at after =
      comes_to p code entries _ _ _ (owed_node d w (λ w. locate (setting p vars call m) held pl w) (λ target w. gives None w) K) (structure_runs here pl rp k t d pc q s w K ks r at after)
  read_case here ty false pl rp k t d pc q s w K ks r at after =
      comes_to p code entries _ _ _ (owed_node d w (λ w. locate (setting p vars call m) held pl w) (λ target w. and_then (read_target (place_at pl).span ty held target w) give) K)
      (read_by here ty pl (spot_of (site p vars) pl) refl rp k t d pc q s w K ks r at after)

  pub read_runs : (here : At) (ty : PlainType) (pl : PlainPlace) → PlaceRuns p code entries u vars call m held pl → FormRuns p code entries u vars call m held here ty (read pl)
  read_runs here ty pl rp k t d pc q s w K ks r at after = read_case here ty (is_structure ty) pl rp k t d pc q s w K ks r at after
