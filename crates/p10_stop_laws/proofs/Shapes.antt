-- The rows of operators by the types of their results and operands: numbers, comparisons, moves and relations of pointers.
use Rattle.std.proofs.Common.{◌≡◌, ◌&&◌, Bool, true, false, List, refl, subst, Some}
use Rattle.std.proofs.lemmas.Option.{same_Some, none-some}
use Rattle.p10_int.specs.declared.types.IntType.{IntType}
use Rattle.p10_int.specs.declared.types.IntType.TheVariants.{Long}
use Rattle.p10_int.specs.declared.operators.BinOp.{BinOp}
use Rattle.p10_int.specs.declared.operators.BinOp.TheVariants.{Add, Sub, Mul, Div, Rem, Shl, Shr, And, Or, Xor, Lt, Gt, Le, Ge, Eq, Ne}
use Rattle.p10_int.specs.declared.operators.UnOp.{UnOp}
use Rattle.p10_int.specs.declared.operators.UnOp.TheVariants.{Plus, Neg, Not, Com}
use Rattle.p10_int.specs.Types.{promoted, usual_of}
use Rattle.p10_int.specs.Laws.{is_comparison}
use Rattle.p10_core.specs.Types.{PlainType, integer, pointer, PlainStructure}
use Rattle.p10_core.specs.Rows.{same, is_scalar, is_complete, Row, row, row_where, integers_row, sum_row, difference_row, shift_row, order_row, equality_row, binary_row, conditional_row, UnaryRow, promoted_row, negation_row, unary_row, int_type}
use Rattle.p10_stop_laws.specs.Causes.{is_move}

-- a row of an operator
pub data Shape (op : BinOp) : Row → Type 0 where
  numbers : (i j : IntType) → Shape op (record { result = integer false i; left = integer false i; right = integer false j })
  compared : (i : IntType) → is_comparison op ≡ true → Shape op (record { result = int_type; left = integer false i; right = integer false i })
  moved_left : (t : PlainType) (i : IntType) → is_move op ≡ true → Shape op (record { result = pointer false t; left = pointer false t; right = integer false i })
  moved_right : (t : PlainType) (i : IntType) → op ≡ Add → Shape op (record { result = pointer false t; left = integer false i; right = pointer false t })
  subtracted : (s t : PlainType) → op ≡ Sub → Shape op (record { result = integer false Long; left = pointer false s; right = pointer false t })
  ordered : (s t : PlainType) → is_comparison op ≡ true → Shape op (record { result = int_type; left = pointer false s; right = pointer false t })

shape_row : (op : BinOp) (a b c : PlainType) (r : Row) → row a b c ≡ Some r → Shape op (record { result = a; left = b; right = c }) → Shape op r
shape_row op a b c r e h = subst (λ r. Shape op r) (same_Some _ _ e) h

shape_where : (op : BinOp) (q : Bool) (a b c : PlainType) (r : Row) → row_where q a b c ≡ Some r → Shape op (record { result = a; left = b; right = c }) → Shape op r
shape_where op true a b c r e h = shape_row op a b c r e h
shape_where op false a b c r e h = absurd (none-some _ e)

integers_shape : (op : BinOp) (s t : PlainType) (r : Row) → integers_row s t ≡ Some r → Shape op r
integers_shape op (integer c a) (integer d b) r e = shape_row op _ _ _ r e (numbers (usual_of a b) (usual_of a b))
integers_shape op s t r e = absurd (none-some _ e)

shift_shape : (op : BinOp) (s t : PlainType) (r : Row) → shift_row s t ≡ Some r → Shape op r
shift_shape op (integer c a) (integer d b) r e = shape_row op _ _ _ r e (numbers (promoted a) (promoted b))
shift_shape op s t r e = absurd (none-some _ e)

sum_shape : (ss : List PlainStructure) (s t : PlainType) (r : Row) → sum_row ss s t ≡ Some r → Shape Add r
sum_shape ss (integer c a) (integer d b) r e = shape_row Add _ _ _ r e (numbers (usual_of a b) (usual_of a b))
sum_shape ss (pointer c s) (integer d b) r e = shape_where Add (is_complete ss s) _ _ _ r e (moved_left s (promoted b) refl)
sum_shape ss (integer c a) (pointer d t) r e = shape_where Add (is_complete ss t) _ _ _ r e (moved_right t (promoted a) refl)
sum_shape ss s t r e = absurd (none-some _ e)

difference_shape : (ss : List PlainStructure) (s t : PlainType) (r : Row) → difference_row ss s t ≡ Some r → Shape Sub r
difference_shape ss (integer c a) (integer d b) r e = shape_row Sub _ _ _ r e (numbers (usual_of a b) (usual_of a b))
difference_shape ss (pointer c s) (integer d b) r e = shape_where Sub (is_complete ss s) _ _ _ r e (moved_left s (promoted b) refl)
difference_shape ss (pointer c s) (pointer d t) r e = shape_where Sub (same s t && is_complete ss t) _ _ _ r e (subtracted s t refl)
difference_shape ss s t r e = absurd (none-some _ e)

order_shape : (op : BinOp) → is_comparison op ≡ true → (s t : PlainType) (r : Row) → order_row s t ≡ Some r → Shape op r
order_shape op q (integer c a) (integer d b) r e = shape_row op _ _ _ r e (compared (usual_of a b) q)
order_shape op q (pointer c s) (pointer d t) r e = shape_where op (same s t) _ _ _ r e (ordered s t q)
order_shape op q s t r e = absurd (none-some _ e)

equality_shape : (op : BinOp) → is_comparison op ≡ true → (m n : Bool) (s t : PlainType) (r : Row) → equality_row m n s t ≡ Some r → Shape op r
equality_shape op q m n (integer c a) (integer d b) r e = shape_row op _ _ _ r e (compared (usual_of a b) q)
equality_shape op q m n (pointer c s) (pointer d t) r e = shape_where op (same s t) _ _ _ r e (ordered s t q)
equality_shape op q m n (pointer c s) (integer d b) r e = shape_where op n _ _ _ r e (ordered s s q)
equality_shape op q m n (integer c a) (pointer d t) r e = shape_where op m _ _ _ r e (ordered t t q)
equality_shape op q m n s t r e = absurd (none-some _ e)

pub binary_shape : (ss : List PlainStructure) (op : BinOp) (m n : Bool) (s t : PlainType) (r : Row) → binary_row ss op m n s t ≡ Some r → Shape op r
binary_shape ss Add m n s t r e = sum_shape ss s t r e
binary_shape ss Sub m n s t r e = difference_shape ss s t r e
binary_shape ss Mul m n s t r e = integers_shape Mul s t r e
binary_shape ss Div m n s t r e = integers_shape Div s t r e
binary_shape ss Rem m n s t r e = integers_shape Rem s t r e
binary_shape ss Shl m n s t r e = shift_shape Shl s t r e
binary_shape ss Shr m n s t r e = shift_shape Shr s t r e
binary_shape ss And m n s t r e = integers_shape And s t r e
binary_shape ss Or m n s t r e = integers_shape Or s t r e
binary_shape ss Xor m n s t r e = integers_shape Xor s t r e
binary_shape ss Lt m n s t r e = order_shape Lt refl s t r e
binary_shape ss Gt m n s t r e = order_shape Gt refl s t r e
binary_shape ss Le m n s t r e = order_shape Le refl s t r e
binary_shape ss Ge m n s t r e = order_shape Ge refl s t r e
binary_shape ss Eq m n s t r e = equality_shape Eq refl m n s t r e
binary_shape ss Ne m n s t r e = equality_shape Ne refl m n s t r e

-- ## Operands are scalars

pub left_scalar : (op : BinOp) (r : Row) → Shape op r → is_scalar r.left ≡ true
left_scalar op r (numbers i j) = refl
left_scalar op r (compared i q) = refl
left_scalar op r (moved_left t i q) = refl
left_scalar op r (moved_right t i q) = refl
left_scalar op r (subtracted s t q) = refl
left_scalar op r (ordered s t q) = refl

pub right_scalar : (op : BinOp) (r : Row) → Shape op r → is_scalar r.right ≡ true
right_scalar op r (numbers i j) = refl
right_scalar op r (compared i q) = refl
right_scalar op r (moved_left t i q) = refl
right_scalar op r (moved_right t i q) = refl
right_scalar op r (subtracted s t q) = refl
right_scalar op r (ordered s t q) = refl

AreScalars : Row → Type 0
AreScalars r = (is_scalar r.left ≡ true) × (is_scalar r.right ≡ true)

scalars_row : (a b c : PlainType) (r : Row) → row a b c ≡ Some r → is_scalar b ≡ true → is_scalar c ≡ true → AreScalars r
unfolding AreScalars
scalars_row a b c r e f g = subst AreScalars (same_Some (record { result = a; left = b; right = c }) r e) (f, g)

scalars_where : (q : Bool) (a b c : PlainType) (r : Row) → row_where q a b c ≡ Some r → is_scalar b ≡ true → is_scalar c ≡ true → AreScalars r
scalars_where true a b c r e f g = scalars_row a b c r e f g
scalars_where false a b c r e f g = absurd (none-some _ e)

conditional_are : (m n : Bool) (s t : PlainType) (r : Row) → conditional_row m n s t ≡ Some r → AreScalars r
conditional_are m n (integer c a) (integer d b) r e = scalars_row _ _ _ r e refl refl
conditional_are m n (pointer c s) (pointer d t) r e = scalars_where (same s t) _ _ _ r e refl refl
conditional_are m n (pointer c s) (integer d b) r e = scalars_where n _ _ _ r e refl refl
conditional_are m n (integer c a) (pointer d t) r e = scalars_where m _ _ _ r e refl refl
conditional_are m n s t r e = absurd (none-some _ e)

pub conditional_scalars : (m n : Bool) (s t : PlainType) (r : Row) → conditional_row m n s t ≡ Some r → (is_scalar r.left ≡ true) × (is_scalar r.right ≡ true)
unfolding AreScalars
conditional_scalars m n s t r e = conditional_are m n s t r e

-- ## Unary operators

-- a row of a unary operator
pub data UnaryShape (op : UnOp) : UnaryRow → Type 0 where
  number : (i : IntType) → UnaryShape op (record { result = integer false i; operand = integer false i })
  test_number : (i : IntType) → op ≡ Not → UnaryShape op (record { result = int_type; operand = integer false i })
  test_pointer : (t : PlainType) → op ≡ Not → UnaryShape op (record { result = int_type; operand = pointer false t })

promoted_shape : (op : UnOp) (t : PlainType) (r : UnaryRow) → promoted_row t ≡ Some r → UnaryShape op r
promoted_shape op (integer c a) r e = subst (λ r. UnaryShape op r) (same_Some _ _ e) (number (promoted a))
promoted_shape op t r e = absurd (none-some _ e)

negation_shape : (t : PlainType) (r : UnaryRow) → negation_row t ≡ Some r → UnaryShape Not r
negation_shape (integer c a) r e = subst (λ r. UnaryShape Not r) (same_Some _ _ e) (test_number a refl)
negation_shape (pointer c t) r e = subst (λ r. UnaryShape Not r) (same_Some _ _ e) (test_pointer t refl)
negation_shape t r e = absurd (none-some _ e)

pub unary_shape : (op : UnOp) (t : PlainType) (r : UnaryRow) → unary_row op t ≡ Some r → UnaryShape op r
unary_shape Plus t r e = promoted_shape Plus t r e
unary_shape Neg t r e = promoted_shape Neg t r e
unary_shape Com t r e = promoted_shape Com t r e
unary_shape Not t r e = negation_shape t r e

pub operand_scalar : (op : UnOp) (r : UnaryRow) → UnaryShape op r → is_scalar r.operand ≡ true
operand_scalar op r (number i) = refl
operand_scalar op r (test_number i q) = refl
operand_scalar op r (test_pointer t q) = refl
