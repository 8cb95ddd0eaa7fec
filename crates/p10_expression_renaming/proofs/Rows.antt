-- The rows of operators are the same for types that are the same, where they stand on both sides.
use Rattle.std.proofs.Common.{Bool, true, false, List, Option, Some, None}
use Rattle.p10_int.specs.declared.operators.BinOp.{BinOp}
use Rattle.p10_int.specs.declared.operators.BinOp.TheVariants as op
use Rattle.p10_int.specs.declared.operators.UnOp.{UnOp}
use Rattle.p10_int.specs.declared.operators.UnOp.TheVariants as one_side
use Rattle.p10_core.specs.Types.{PlainType, PlainStructure}
use Rattle.p10_core.specs.Rows.{Row, row_where, integers_row, sum_row, difference_row, shift_row, order_row, equality_row, binary_row, conditional_row, UnaryRow, promoted_row, negation_row, unary_row}
use Rattle.p10_renaming.specs.Renaming.{Pairing, SameType, same_void, same_integer, same_pointer, same_array, same_structure}

-- rows that both stand are the same
pub record SameRow (R : Pairing) (r s : Row) : Type 0 where
  pub result : SameType R r.result s.result
  pub left : SameType R r.left s.left
  pub right : SameType R r.right s.right

abbrev pub RowsSame : Pairing → Option Row → Option Row → Type 0
RowsSame R None s = Unit {0}
RowsSame R (Some r) None = Unit {0}
RowsSame R (Some r) (Some s) = SameRow R r s

pub record SameUnaryRow (R : Pairing) (r s : UnaryRow) : Type 0 where
  pub result : SameType R r.result s.result
  pub operand : SameType R r.operand s.operand

abbrev pub UnaryRowsSame : Pairing → Option UnaryRow → Option UnaryRow → Type 0
UnaryRowsSame R None s = Unit {0}
UnaryRowsSame R (Some r) None = Unit {0}
UnaryRowsSame R (Some r) (Some s) = SameUnaryRow R r s

row_both : (R : Pairing) {r s a b c d : PlainType} → SameType R r s → SameType R a c → SameType R b d → SameRow R (record { result = r; left = a; right = b }) (record { result = s; left = c; right = d })
row_both R x y z = record { result = x; left = y; right = z }

where_both : (R : Pairing) (p q : Bool) {r s a b c d : PlainType} → SameType R r s → SameType R a c → SameType R b d → RowsSame R (row_where p r a b) (row_where q s c d)
where_both R true true x y z = row_both R x y z
where_both R true false x y z = tt
where_both R false q x y z = tt

integers_both : (R : Pairing) {t u a b : PlainType} → SameType R t u → SameType R a b → RowsSame R (integers_row t a) (integers_row u b)
integers_both R same_void k = tt
integers_both R same_integer same_void = tt
integers_both R same_integer same_integer = row_both R same_integer same_integer same_integer
integers_both R same_integer (same_pointer k) = tt
integers_both R same_integer (same_array k) = tt
integers_both R same_integer (same_structure other) = tt
integers_both R (same_pointer h) k = tt
integers_both R (same_array h) k = tt
integers_both R (same_structure paired) k = tt

shift_both : (R : Pairing) {t u a b : PlainType} → SameType R t u → SameType R a b → RowsSame R (shift_row t a) (shift_row u b)
shift_both R same_void k = tt
shift_both R same_integer same_void = tt
shift_both R same_integer same_integer = row_both R same_integer same_integer same_integer
shift_both R same_integer (same_pointer k) = tt
shift_both R same_integer (same_array k) = tt
shift_both R same_integer (same_structure other) = tt
shift_both R (same_pointer h) k = tt
shift_both R (same_array h) k = tt
shift_both R (same_structure paired) k = tt

sum_both : (R : Pairing) (these others : List PlainStructure) {t u a b : PlainType} → SameType R t u → SameType R a b → RowsSame R (sum_row these t a) (sum_row others u b)
sum_both R these others same_void k = tt
sum_both R these others same_integer same_void = tt
sum_both R these others same_integer same_integer = row_both R same_integer same_integer same_integer
sum_both R these others same_integer (same_pointer k) = where_both R _ _ (same_pointer k) same_integer (same_pointer k)
sum_both R these others same_integer (same_array k) = tt
sum_both R these others same_integer (same_structure other) = tt
sum_both R these others (same_pointer h) same_void = tt
sum_both R these others (same_pointer h) same_integer = where_both R _ _ (same_pointer h) (same_pointer h) same_integer
sum_both R these others (same_pointer h) (same_pointer k) = tt
sum_both R these others (same_pointer h) (same_array k) = tt
sum_both R these others (same_pointer h) (same_structure other) = tt
sum_both R these others (same_array h) k = tt
sum_both R these others (same_structure paired) k = tt

difference_both : (R : Pairing) (these others : List PlainStructure) {t u a b : PlainType} → SameType R t u → SameType R a b → RowsSame R (difference_row these t a) (difference_row others u b)
difference_both R these others same_void k = tt
difference_both R these others same_integer same_void = tt
difference_both R these others same_integer same_integer = row_both R same_integer same_integer same_integer
difference_both R these others same_integer (same_pointer k) = tt
difference_both R these others same_integer (same_array k) = tt
difference_both R these others same_integer (same_structure other) = tt
difference_both R these others (same_pointer h) same_void = tt
difference_both R these others (same_pointer h) same_integer = where_both R _ _ (same_pointer h) (same_pointer h) same_integer
difference_both R these others (same_pointer h) (same_pointer k) = where_both R _ _ same_integer (same_pointer h) (same_pointer k)
difference_both R these others (same_pointer h) (same_array k) = tt
difference_both R these others (same_pointer h) (same_structure other) = tt
difference_both R these others (same_array h) k = tt
difference_both R these others (same_structure paired) k = tt

order_both : (R : Pairing) {t u a b : PlainType} → SameType R t u → SameType R a b → RowsSame R (order_row t a) (order_row u b)
order_both R same_void k = tt
order_both R same_integer same_void = tt
order_both R same_integer same_integer = row_both R same_integer same_integer same_integer
order_both R same_integer (same_pointer k) = tt
order_both R same_integer (same_array k) = tt
order_both R same_integer (same_structure other) = tt
order_both R (same_pointer h) same_void = tt
order_both R (same_pointer h) same_integer = tt
order_both R (same_pointer h) (same_pointer k) = where_both R _ _ same_integer (same_pointer h) (same_pointer k)
order_both R (same_pointer h) (same_array k) = tt
order_both R (same_pointer h) (same_structure other) = tt
order_both R (same_array h) k = tt
order_both R (same_structure paired) k = tt

equality_both : (R : Pairing) (l r m s : Bool) {t u a b : PlainType} → SameType R t u → SameType R a b → RowsSame R (equality_row l r t a) (equality_row m s u b)
equality_both R l r m s same_void k = tt
equality_both R l r m s same_integer same_void = tt
equality_both R l r m s same_integer same_integer = row_both R same_integer same_integer same_integer
equality_both R l r m s same_integer (same_pointer k) = where_both R _ _ same_integer (same_pointer k) (same_pointer k)
equality_both R l r m s same_integer (same_array k) = tt
equality_both R l r m s same_integer (same_structure other) = tt
equality_both R l r m s (same_pointer h) same_void = tt
equality_both R l r m s (same_pointer h) same_integer = where_both R _ _ same_integer (same_pointer h) (same_pointer h)
equality_both R l r m s (same_pointer h) (same_pointer k) = where_both R _ _ same_integer (same_pointer h) (same_pointer k)
equality_both R l r m s (same_pointer h) (same_array k) = tt
equality_both R l r m s (same_pointer h) (same_structure other) = tt
equality_both R l r m s (same_array h) k = tt
equality_both R l r m s (same_structure paired) k = tt

pub conditional_both : (R : Pairing) (l r m s : Bool) {t u a b : PlainType} → SameType R t u → SameType R a b → RowsSame R (conditional_row l r t a) (conditional_row m s u b)
conditional_both R l r m s same_void k = tt
conditional_both R l r m s same_integer same_void = tt
conditional_both R l r m s same_integer same_integer = row_both R same_integer same_integer same_integer
conditional_both R l r m s same_integer (same_pointer k) = where_both R _ _ (same_pointer k) (same_pointer k) (same_pointer k)
conditional_both R l r m s same_integer (same_array k) = tt
conditional_both R l r m s same_integer (same_structure other) = tt
conditional_both R l r m s (same_pointer h) same_void = tt
conditional_both R l r m s (same_pointer h) same_integer = where_both R _ _ (same_pointer h) (same_pointer h) (same_pointer h)
conditional_both R l r m s (same_pointer h) (same_pointer k) = where_both R _ _ (same_pointer h) (same_pointer h) (same_pointer k)
conditional_both R l r m s (same_pointer h) (same_array k) = tt
conditional_both R l r m s (same_pointer h) (same_structure other) = tt
conditional_both R l r m s (same_array h) k = tt
conditional_both R l r m s (same_structure paired) k = tt

pub binary_both : (R : Pairing) (these others : List PlainStructure) (o : BinOp) (l r m s : Bool) {t u a b : PlainType} → SameType R t u → SameType R a b → RowsSame R (binary_row these o l r t a) (binary_row others o m s u b)
binary_both R these others op.Add l r m s h k = sum_both R these others h k
binary_both R these others op.Sub l r m s h k = difference_both R these others h k
binary_both R these others op.Mul l r m s h k = integers_both R h k
binary_both R these others op.Div l r m s h k = integers_both R h k
binary_both R these others op.Rem l r m s h k = integers_both R h k
binary_both R these others op.Shl l r m s h k = shift_both R h k
binary_both R these others op.Shr l r m s h k = shift_both R h k
binary_both R these others op.And l r m s h k = integers_both R h k
binary_both R these others op.Or l r m s h k = integers_both R h k
binary_both R these others op.Xor l r m s h k = integers_both R h k
binary_both R these others op.Lt l r m s h k = order_both R h k
binary_both R these others op.Gt l r m s h k = order_both R h k
binary_both R these others op.Le l r m s h k = order_both R h k
binary_both R these others op.Ge l r m s h k = order_both R h k
binary_both R these others op.Eq l r m s h k = equality_both R l r m s h k
binary_both R these others op.Ne l r m s h k = equality_both R l r m s h k

promoted_both : (R : Pairing) {t u : PlainType} → SameType R t u → UnaryRowsSame R (promoted_row t) (promoted_row u)
promoted_both R same_integer = record { result = same_integer; operand = same_integer }
promoted_both R same_void = tt
promoted_both R (same_pointer h) = tt
promoted_both R (same_array h) = tt
promoted_both R (same_structure paired) = tt

negation_both : (R : Pairing) {t u : PlainType} → SameType R t u → UnaryRowsSame R (negation_row t) (negation_row u)
negation_both R same_integer = record { result = same_integer; operand = same_integer }
negation_both R (same_pointer h) = record { result = same_integer; operand = same_pointer h }
negation_both R same_void = tt
negation_both R (same_array h) = tt
negation_both R (same_structure paired) = tt

pub unary_both : (R : Pairing) (o : UnOp) {t u : PlainType} → SameType R t u → UnaryRowsSame R (unary_row o t) (unary_row o u)
unary_both R one_side.Plus h = promoted_both R h
unary_both R one_side.Neg h = promoted_both R h
unary_both R one_side.Com h = promoted_both R h
unary_both R one_side.Not h = negation_both R h
