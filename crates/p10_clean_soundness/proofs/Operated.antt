-- Operators on scalars of their operands' types have results, where they have no flaws.
use Rattle.std.proofs.Common.{◌≡◌, ◌&&◌, not, if◌then◌else◌, Bool, true, false, List, [], refl, sym, ◌∙◌, ap, subst, Option, Some, None, Result, Ok, Err, ℤ}
use Rattle.std.specs.Result.{IsOk}
use Rattle.p10_base.specs.declared.span.Span.{Span}
use Rattle.p10_int.specs.declared.types.IntType.{IntType}
use Rattle.p10_int.specs.declared.operators.Stop.{Stop}
use Rattle.p10_int.specs.declared.operators.BinOp.{BinOp}
use Rattle.p10_int.specs.declared.operators.BinOp.TheVariants.{Lt, Gt, Le, Ge, Eq, Ne}
use Rattle.p10_int.specs.declared.operators.UnOp.{UnOp}
use Rattle.p10_int.specs.declared.operators.UnOp.TheVariants.{Not}
use Rattle.p10_int.specs.Laws.{is_comparison}
use Rattle.p10_int.specs.Types.{InRange}
use Rattle.p10_int.specs.Operators.{operate, operate_unary}
use Rattle.p10_core.specs.Types.{PlainType, void, integer, pointer, array, structure}
use Rattle.p10_core.specs.Rows.{is_integer, is_pointer, binary_row, UnaryRow}
use Rattle.p10_core.specs.Constants.{integer_of}
use Rattle.p10_core.specs.Typed.{PlainValue, type_of, PlainProgram}
use Rattle.p10_core.specs.Whole.{Surroundings, UnaryAgrees, BinaryAgrees}
use Rattle.p10_meaning.specs.declared.pointers.Ptr.{Ptr}
use Rattle.p10_meaning.specs.declared.pointers.Scalar.{Scalar}
use Rattle.p10_meaning.specs.declared.pointers.Scalar.TheVariants.{Int, Pointer}
use Rattle.p10_meaning.specs.Objects.{Object, on_ok}
use Rattle.p10_meaning.specs.Scalars.{integer_type, operated, operated_unary}
use Rattle.p10_meaning.specs.Values.{Held}
use Rattle.p10_meaning.specs.Sound.{Kind, Fits}
use Rattle.p10_absx.specs.Abstract.{Abstract}
use Rattle.p10_absx.specs.Environments.{Environment}
use Rattle.p10_absx.specs.Assessing.{are_integers, abstract_value}
use Rattle.p10_absx.specs.Describing.{MaybeHolds}
use Rattle.p10_pass.specs.Passing.{Manner}
use Rattle.p10_evaluation.specs.Laws.{IsHeldBy}
use Rattle.p10_clean.specs.Operations.{negation_overflows}
use Rattle.p10_clean.specs.Values.{flaw_if, operands_flaws, binary_flaws, unary_flaws, compares_equal}
use Rattle.p10_clean_soundness.proofs.Operators.{none_stops, no_unary_stops}
use Rattle.p10_clean_soundness.proofs.ConstantRows.{BinaryNumber, binary_number}
use Rattle.p10_clean_soundness.proofs.ScalarRows.{plain_integer, TakesScalars, binary_takes, TakesScalar, takes_integer, takes_pointer, unary_takes, TakesPointers, equality_takes}
use Rattle.p10_clean_soundness.proofs.Flawless.{no_flaw, clean_operation, IsCleanOperation}

-- ## Results

-- a result is no stop
pub record HasResult (r : Result Scalar Stop) : Type 0 where
  pub scalar : Scalar
  pub is : r ≡ Ok scalar

pub ok_number : (r : Result ℤ Stop) → IsOk r → HasResult (on_ok r (λ z. Ok (Int z)))
ok_number (Ok z) h = record { scalar = Int z; is = refl }
ok_number (Err stop) h = absurd cc

same_type : (t : PlainType) → integer_of t ≡ integer_type t
same_type (integer c i) = refl
same_type (void c) = refl
same_type (pointer c t) = refl
same_type (array c t n) = refl
same_type (structure c n) = refl

-- a comparison has one
compares : (op : BinOp) (t : IntType) (x y : ℤ) → is_comparison op ≡ true → IsOk (operate op t x y)
compares Lt t x y e = refl
compares Gt t x y e = refl
compares Le t x y e = refl
compares Ge t x y e = refl
compares Eq t x y e = refl
compares Ne t x y e = refl
compares op t x y e = absurd cc

-- ## Scalars of a type

-- a scalar of an integer type is a number of it
pub record IsNumberOf (i : IntType) (x : Scalar) : Type 0 where
  pub number : ℤ
  pub is : x ≡ Int number
  pub in_range : InRange i number

pub number_of_type : (p : PlainProgram) (ks : List Kind) (t : PlainType) (i : IntType) (x : Scalar) → t ≡ integer false i → Fits p ks t x → IsNumberOf i x
number_of_type p ks t i x e f = at x (subst (λ t. Fits p ks t x) e f)
  where
    at : (x : Scalar) → Fits p ks (integer false i) x → IsNumberOf i x
    at (Int z) f = record { number = z; is = refl; in_range = f }
    at (Pointer q) f = absurd f

-- one of a pointer type is a pointer
pub pointer_of_type : (p : PlainProgram) (ks : List Kind) (t : PlainType) (x : Scalar) → is_pointer t ≡ true → Fits p ks t x → (q : Ptr) × (x ≡ Pointer q)
pointer_of_type p ks (pointer c t) (Pointer q) e f = (q, refl)
pointer_of_type p ks (pointer c t) (Int z) e f = absurd f
pointer_of_type p ks (integer c i) x e f = absurd cc
pointer_of_type p ks (void c) x e f = absurd cc
pointer_of_type p ks (array c t n) x e f = absurd cc
pointer_of_type p ks (structure c n) x e f = absurd cc

-- ## Integers

module _ (head : List Held) where
  -- the operands' ranges have no flaws
  operands_ok : (at : Span) (op : BinOp) (t : PlainType) (i j : IntType) → BinaryNumber op i j t → (a b : Option Abstract) → operands_flaws at op (integer_of t) a b ≡ [] → (x y : ℤ) → InRange i x → MaybeHolds head a x → MaybeHolds head b y →
      IsOk (operate op (integer_type t) x y)
  operands_ok at op t i j n None b e x y l h k = absurd h
  operands_ok at op t i j n (Some a) None e x y l h k = absurd k
  operands_ok at op t i j n (Some a) (Some b) e x y l h k =
      subst (λ u. IsOk (operate op u x y)) (sym (ap integer_type n.type_is))
      (by_kind (is_comparison op) refl)
    where
      c : IsCleanOperation op (integer_of t) a.range b.range
      c = clean_operation at op (integer_of t) a.range b.range e

      by_kind : (q : Bool) → is_comparison op ≡ q → IsOk (operate op n.kind x y)
      by_kind true q = compares op n.kind x y q
      by_kind false q =
          let clean : IsCleanOperation op n.kind a.range b.range = subst (λ u. IsCleanOperation op u a.range b.range) (ap integer_of n.type_is) c in
          none_stops op n.kind a.range b.range clean.fits clean.divides clean.shifts x y h.member k.member (subst (λ u. InRange u x) (sym (n.plain q)) l)

  module _ (p : PlainProgram) (ks js : List Kind) where
    held_number : (a : Option Abstract) (x : Scalar) (z : ℤ) → x ≡ Int z → IsHeldBy head a x → MaybeHolds head a z
    held_number a x z e h = subst (IsHeldBy head a) e h

    -- a binary operator without flaws
    pub operated_ok : (c : Surroundings) (m : Manner) (at : Span) (op : BinOp) (t : PlainType) (a b : PlainValue) (env : Environment) → BinaryAgrees c op t (type_of a) (type_of b) → binary_flaws m at op (integer_of t) a b env ≡ [] →
        (objects : List Object) (x y : Scalar) → Fits p ks (type_of a) x → Fits p js (type_of b) y → IsHeldBy head (abstract_value m.calls env a) x → IsHeldBy head (abstract_value m.calls env b) y → HasResult (operated op t objects x y)
    operated_ok c m at op t a b env g e objects x y fx fy hx hy = by_integers (are_integers a b) refl e
      where
        takes : TakesScalars g.entry
        takes = binary_takes c.structures op g.left_null g.right_null g.left_type g.right_type g.entry g.is

        both : (a b : Bool) → (a && b) ≡ true → (a ≡ true) × (b ≡ true)
        both true b e = (refl, e)
        both false b e = absurd cc

        on_numbers : are_integers a b ≡ true → operands_flaws at op (integer_of t) (abstract_value m.calls env a) (abstract_value m.calls env b) ≡ [] → HasResult (operated op t objects x y)
        on_numbers q e =
            let parts = both (is_integer (type_of a)) (is_integer (type_of b)) q in
            let left : g.entry.left ≡ integer false (integer_of g.entry.left) = plain_integer g.entry.left takes.left (ap is_integer (sym g.left_is) ∙ parts.0) in
            let right : g.entry.right ≡ integer false (integer_of g.entry.right) = plain_integer g.entry.right takes.right (ap is_integer (sym g.right_is) ∙ parts.1) in
            let u : IsNumberOf (integer_of g.entry.left) x = number_of_type p ks (type_of a) (integer_of g.entry.left) x (g.left_is ∙ left) fx in
            let v : IsNumberOf (integer_of g.entry.right) y = number_of_type p js (type_of b) (integer_of g.entry.right) y (g.right_is ∙ right) fy in
            let n : BinaryNumber op (integer_of g.entry.left) (integer_of g.entry.right) g.entry.result =
            binary_number c.structures op g.left_null g.right_null g.left_type g.right_type g.entry (integer_of g.entry.left) (integer_of g.entry.right) g.is left right in
            let ok : IsOk (operate op (integer_type t) u.number v.number) =
            operands_ok at op t (integer_of g.entry.left) (integer_of g.entry.right) (subst (BinaryNumber op (integer_of g.entry.left) (integer_of g.entry.right)) (sym g.result_is) n)
            (abstract_value m.calls env a) (abstract_value m.calls env b) e u.number v.number u.in_range (held_number _ x u.number u.is hx) (held_number _ y v.number v.is hy) in
            subst (λ x. HasResult (operated op t objects x y)) (sym u.is) (subst (λ y. HasResult (operated op t objects (Int u.number) y)) (sym v.is) (ok_number (operate op (integer_type t) u.number v.number) ok))

        same_pointers : (op : BinOp) (q r : Ptr) → compares_equal op ≡ true → HasResult (operated op t objects (Pointer q) (Pointer r))
        same_pointers Eq q r h = record { scalar = _; is = refl }
        same_pointers Ne q r h = record { scalar = _; is = refl }
        same_pointers op q r h = absurd cc

        pointers : (op : BinOp) → binary_row c.structures op g.left_null g.right_null g.left_type g.right_type ≡ Some g.entry → compares_equal op ≡ true → are_integers a b ≡ false → TakesPointers g.entry
        pointers Eq is h q = equality_takes g.left_null g.right_null g.left_type g.right_type g.entry is (sym (ap (λ u. is_integer u && is_integer (type_of b)) g.left_is ∙ ap (λ u. is_integer g.entry.left && is_integer u) g.right_is) ∙ q)
        pointers Ne is h q = equality_takes g.left_null g.right_null g.left_type g.right_type g.entry is (sym (ap (λ u. is_integer u && is_integer (type_of b)) g.left_is ∙ ap (λ u. is_integer g.entry.left && is_integer u) g.right_is) ∙ q)
        pointers op is h q = absurd cc

        not_false : (b : Bool) → not b ≡ false → b ≡ true
        not_false true h = refl
        not_false false h = absurd cc

        on_pointers : are_integers a b ≡ false → flaw_if (not (compares_equal op)) 5 at ≡ [] → HasResult (operated op t objects x y)
        on_pointers q e =
            let h : compares_equal op ≡ true = not_false (compares_equal op) (no_flaw (not (compares_equal op)) 5 at e) in
            let k : TakesPointers g.entry = pointers op g.is h q in
            let u : (q : Ptr) × (x ≡ Pointer q) = pointer_of_type p ks (type_of a) x (ap is_pointer g.left_is ∙ k.left) fx in
            let v : (q : Ptr) × (y ≡ Pointer q) = pointer_of_type p js (type_of b) y (ap is_pointer g.right_is ∙ k.right) fy in
            subst (λ x. HasResult (operated op t objects x y)) (sym u.1) (subst (λ y. HasResult (operated op t objects (Pointer u.0) y)) (sym v.1) (same_pointers op u.0 v.0 h))

        by_integers : (q : Bool) → are_integers a b ≡ q → (if q then operands_flaws at op (integer_of t) (abstract_value m.calls env a) (abstract_value m.calls env b) else flaw_if (not (compares_equal op)) 5 at) ≡ [] → HasResult (operated op t objects x y)
        by_integers true q e = on_numbers q e
        by_integers false q e = on_pointers q e

    -- ## Unary operators

    unary_number_ok : (at : Span) (op : UnOp) (t : PlainType) (a : Option Abstract) → unary_flaws at op (integer_of t) a ≡ [] → (z : ℤ) → MaybeHolds head a z → IsOk (operate_unary op (integer_type t) z)
    unary_number_ok at op t None e z h = absurd h
    unary_number_ok at op t (Some a) e z h =
        subst (λ u. IsOk (operate_unary op u z)) (same_type t) (no_unary_stops op (integer_of t) a.range (no_flaw (negation_overflows op (integer_of t) a.range) 1 at e) z h.member)

    pub operated_unary_ok : (at : Span) (op : UnOp) (t : PlainType) (v : PlainValue) (a : Option Abstract) → UnaryAgrees op t (type_of v) → unary_flaws at op (integer_of t) a ≡ [] → (x : Scalar) → Fits p ks (type_of v) x → IsHeldBy head a x →
        HasResult (operated_unary op t x)
    operated_unary_ok at op t v a g e x fx hx = by_operand op g.entry (unary_takes op g.of_type g.entry g.is) g.operand_is e
      where
        by_operand : (op : UnOp) (r : UnaryRow) → TakesScalar op r → type_of v ≡ r.operand → unary_flaws at op (integer_of t) a ≡ [] → HasResult (operated_unary op t x)
        by_operand op r (takes_integer op2 r2 i h) is e =
            let u : IsNumberOf i x = number_of_type p ks (type_of v) i x (is ∙ h) fx in
            subst (λ x. HasResult (operated_unary op t x)) (sym u.is) (ok_number (operate_unary op (integer_type t) u.number) (unary_number_ok at op t a e u.number (held_number a x u.number u.is hx)))
        by_operand op r (takes_pointer r2 h) is e =
            let u : (q : Ptr) × (x ≡ Pointer q) = pointer_of_type p ks (type_of v) x (ap is_pointer is ∙ h) fx in
            subst (λ x. HasResult (operated_unary Not t x)) (sym u.1) (record { scalar = _; is = refl })
