-- The operands of operators are scalars, and pointers are compared with pointers.
use Rattle.std.proofs.Common.{◌≡◌, ◌&&◌, List, Bool, true, false, refl, ap, subst, Some}
use Rattle.std.proofs.lemmas.Option.{same_Some, none-some}
use Rattle.p10_int.specs.declared.types.IntType.{IntType}
use Rattle.p10_int.specs.declared.operators.BinOp.{BinOp}
use Rattle.p10_int.specs.declared.operators.BinOp.TheVariants.{Add, Sub, Mul, Div, Rem, Shl, Shr, And, Or, Xor, Lt, Gt, Le, Ge, Eq, Ne}
use Rattle.p10_int.specs.declared.operators.UnOp.{UnOp}
use Rattle.p10_int.specs.declared.operators.UnOp.TheVariants.{Plus, Neg, Not, Com}
use Rattle.p10_int.specs.Types.{promoted}
use Rattle.p10_core.specs.Types.{PlainType, void, integer, pointer, array, structure, PlainStructure}
use Rattle.p10_core.specs.Constants.{integer_of}
use Rattle.p10_core.specs.Rows.{is_integer, is_pointer, is_scalar, Row, row_where, integers_row, sum_row, difference_row, shift_row, order_row, equality_row, binary_row, conditional_row, UnaryRow, promoted_row, unary_row}

-- a scalar type without a mark
abbrev pub IsPlain : PlainType → Type 0
IsPlain (integer c i) = c ≡ false
IsPlain (pointer c t) = Unit {0}
IsPlain t = ⊥

pub plain_scalar : (t : PlainType) → IsPlain t → is_scalar t ≡ true
plain_scalar (integer c i) h = refl
plain_scalar (pointer c t) h = refl
plain_scalar (void c) h = absurd h
plain_scalar (array c t n) h = absurd h
plain_scalar (structure c n) h = absurd h

pub plain_integer : (t : PlainType) → IsPlain t → is_integer t ≡ true → t ≡ integer false (integer_of t)
plain_integer (integer c i) h e = ap (λ c. integer c i) h
plain_integer (pointer c t) h e = absurd cc
plain_integer (void c) h e = absurd h
plain_integer (array c t n) h e = absurd h
plain_integer (structure c n) h e = absurd h

-- both operands are scalars
pub record TakesScalars (r : Row) : Type 0 where
  pub left : IsPlain r.left
  pub right : IsPlain r.right

scalars_of : (r q : Row) → Some r ≡ Some q → IsPlain r.left → IsPlain r.right → TakesScalars q
scalars_of r q e h k = subst TakesScalars (same_Some r q e) (record { left = h; right = k })

scalars_where : (b : Bool) (t s u : PlainType) (r : Row) → row_where b t s u ≡ Some r → IsPlain s → IsPlain u → TakesScalars r
scalars_where true t s u r e h k = scalars_of _ r e h k
scalars_where false t s u r e h k = absurd (none-some r e)

integers_take : (s t : PlainType) (r : Row) → integers_row s t ≡ Some r → TakesScalars r
integers_take (integer c a) (integer d b) r e = scalars_of _ r e refl refl
integers_take s t r e = absurd (none-some r e)

shifts_take : (s t : PlainType) (r : Row) → shift_row s t ≡ Some r → TakesScalars r
shifts_take (integer c a) (integer d b) r e = scalars_of _ r e refl refl
shifts_take s t r e = absurd (none-some r e)

orders_take : (s t : PlainType) (r : Row) → order_row s t ≡ Some r → TakesScalars r
orders_take (integer c a) (integer d b) r e = scalars_of _ r e refl refl
orders_take (pointer c s) (pointer d t) r e = scalars_where _ _ _ _ r e tt tt
orders_take s t r e = absurd (none-some r e)

equalities_take : (m n : Bool) (s t : PlainType) (r : Row) → equality_row m n s t ≡ Some r → TakesScalars r
equalities_take m n (integer c a) (integer d b) r e = scalars_of _ r e refl refl
equalities_take m n (pointer c s) (pointer d t) r e = scalars_where _ _ _ _ r e tt tt
equalities_take m n (pointer c s) (integer d b) r e = scalars_where _ _ _ _ r e tt tt
equalities_take m n (integer c a) (pointer d t) r e = scalars_where _ _ _ _ r e tt tt
equalities_take m n s t r e = absurd (none-some r e)

pub conditional_takes : (m n : Bool) (s t : PlainType) (r : Row) → conditional_row m n s t ≡ Some r → TakesScalars r
conditional_takes m n (integer c a) (integer d b) r e = scalars_of _ r e refl refl
conditional_takes m n (pointer c s) (pointer d t) r e = scalars_where _ _ _ _ r e tt tt
conditional_takes m n (pointer c s) (integer d b) r e = scalars_where _ _ _ _ r e tt tt
conditional_takes m n (integer c a) (pointer d t) r e = scalars_where _ _ _ _ r e tt tt
conditional_takes m n s t r e = absurd (none-some r e)

module _ (structures : List PlainStructure) where
  sums_take : (s t : PlainType) (r : Row) → sum_row structures s t ≡ Some r → TakesScalars r
  sums_take (integer c a) (integer d b) r e = scalars_of _ r e refl refl
  sums_take (pointer c s) (integer d b) r e = scalars_where _ _ _ _ r e tt refl
  sums_take (integer c a) (pointer d t) r e = scalars_where _ _ _ _ r e refl tt
  sums_take s t r e = absurd (none-some r e)

  differences_take : (s t : PlainType) (r : Row) → difference_row structures s t ≡ Some r → TakesScalars r
  differences_take (integer c a) (integer d b) r e = scalars_of _ r e refl refl
  differences_take (pointer c s) (integer d b) r e = scalars_where _ _ _ _ r e tt refl
  differences_take (pointer c s) (pointer d t) r e = scalars_where _ _ _ _ r e tt tt
  differences_take s t r e = absurd (none-some r e)

  pub binary_takes : (op : BinOp) (m n : Bool) (s t : PlainType) (r : Row) → binary_row structures op m n s t ≡ Some r → TakesScalars r
  binary_takes Add m n s t r e = sums_take s t r e
  binary_takes Sub m n s t r e = differences_take s t r e
  binary_takes Mul m n s t r e = integers_take s t r e
  binary_takes Div m n s t r e = integers_take s t r e
  binary_takes Rem m n s t r e = integers_take s t r e
  binary_takes Shl m n s t r e = shifts_take s t r e
  binary_takes Shr m n s t r e = shifts_take s t r e
  binary_takes And m n s t r e = integers_take s t r e
  binary_takes Or m n s t r e = integers_take s t r e
  binary_takes Xor m n s t r e = integers_take s t r e
  binary_takes Lt m n s t r e = orders_take s t r e
  binary_takes Gt m n s t r e = orders_take s t r e
  binary_takes Le m n s t r e = orders_take s t r e
  binary_takes Ge m n s t r e = orders_take s t r e
  binary_takes Eq m n s t r e = equalities_take m n s t r e
  binary_takes Ne m n s t r e = equalities_take m n s t r e

-- ## Unary operators

-- the operand is a scalar, and an integer unless it is negated as a truth value
pub data TakesScalar : UnOp → UnaryRow → Type 0 where
  takes_integer : (op : UnOp) (r : UnaryRow) (i : IntType) → r.operand ≡ integer false i → TakesScalar op r
  takes_pointer : (r : UnaryRow) → is_pointer r.operand ≡ true → TakesScalar Not r

promoted_takes : (op : UnOp) (t : PlainType) (r : UnaryRow) → promoted_row t ≡ Some r → TakesScalar op r
promoted_takes op (integer c a) r e = subst (TakesScalar op) (same_Some _ r e) (takes_integer op _ (promoted a) refl)
promoted_takes op t r e = absurd (none-some r e)

pub unary_takes : (op : UnOp) (t : PlainType) (r : UnaryRow) → unary_row op t ≡ Some r → TakesScalar op r
unary_takes Plus t r e = promoted_takes Plus t r e
unary_takes Neg t r e = promoted_takes Neg t r e
unary_takes Com t r e = promoted_takes Com t r e
unary_takes Not (integer c a) r e = subst (TakesScalar Not) (same_Some _ r e) (takes_integer Not _ a refl)
unary_takes Not (pointer c t) r e = subst (TakesScalar Not) (same_Some _ r e) (takes_pointer _ refl)
unary_takes Not t r e = absurd (none-some r e)

-- ## Equality

-- what is compared for equality, where not both are integers
pub record TakesPointers (r : Row) : Type 0 where
  pub left : is_pointer r.left ≡ true
  pub right : is_pointer r.right ≡ true

pointers_of : (r q : Row) → Some r ≡ Some q → is_pointer r.left ≡ true → is_pointer r.right ≡ true → TakesPointers q
pointers_of r q e h k = subst TakesPointers (same_Some r q e) (record { left = h; right = k })

pointers_where : (b : Bool) (t s u : PlainType) (r : Row) → row_where b t s u ≡ Some r → is_pointer s ≡ true → is_pointer u ≡ true → TakesPointers r
pointers_where true t s u r e h k = pointers_of _ r e h k
pointers_where false t s u r e h k = absurd (none-some r e)

integers_both : (r q : Row) → Some r ≡ Some q → (is_integer r.left && is_integer r.right) ≡ true → (is_integer q.left && is_integer q.right) ≡ true
integers_both r q e h = subst (λ (r : Row). (is_integer r.left && is_integer r.right) ≡ true) (same_Some r q e) h

pub equality_takes : (m n : Bool) (s t : PlainType) (r : Row) → equality_row m n s t ≡ Some r → (is_integer r.left && is_integer r.right) ≡ false → TakesPointers r
equality_takes m n (integer c a) (integer d b) r e f = let h = integers_both _ r e refl in absurd cc
equality_takes m n (pointer c s) (pointer d t) r e f = pointers_where _ _ _ _ r e refl refl
equality_takes m n (pointer c s) (integer d b) r e f = pointers_where _ _ _ _ r e refl refl
equality_takes m n (integer c a) (pointer d t) r e f = pointers_where _ _ _ _ r e refl refl
equality_takes m n s t r e f = absurd (none-some r e)
