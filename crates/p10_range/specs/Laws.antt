-- What holds of the rows for all operators, types and intervals.
use Rattle.std.specs.Prelude.{◌≡◌, ◌⊎◌, ◌↔◌, true, ℤ, pos, negsuc, ◌≤ℤ◌, Option, Ok, IfOk, IsSomeAnd, IfSome}
use Rattle.p10_int.specs.declared.types.IntType.{IntType}
use Rattle.p10_int.specs.declared.operators.BinOp.{BinOp}
use Rattle.p10_int.specs.declared.operators.BinOp.TheVariants.{Div, Rem}
use Rattle.p10_int.specs.declared.operators.UnOp.{UnOp}
use Rattle.p10_int.specs.Types.{is_signed_of, least_of}
use Rattle.p10_int.specs.Conversion.{converted}
use Rattle.p10_int.specs.Operators.{operate, operate_unary}
use Rattle.p10_range.specs.Ranges.{Interval, IsInhabited, IsMember, IsWithin, hull_of, meet_of}
use Rattle.p10_range.specs.Rows.{values_of, row_of, unary_row_of, conversion_row_of}
use Rattle.p10_range.specs.Operands.{IsRightOperand}

-- there is an interval, and it has z
abbrev pub HasNumber : Option Interval → ℤ → Type 0
HasNumber row z = IsSomeAnd row (λ r. IsMember r z)

-- the row of an operator has each result on numbers of the operands
abbrev pub HoldsResults : Type 0
HoldsResults =
    (op : BinOp) (t : IntType) (a b : Interval) (x y : ℤ) → IsWithin a (values_of t) → IsRightOperand op t b → IsMember a x → IsMember b y
    → IfOk (operate op t x y) (HasNumber (row_of op t a b))

abbrev pub HoldsUnaryResults : Type 0
HoldsUnaryResults =
    (op : UnOp) (t : IntType) (a : Interval) (x : ℤ) → IsWithin a (values_of t) → IsMember a x
    → IfOk (operate_unary op t x) (HasNumber (unary_row_of op t a))

-- the row of a conversion has each converted number
abbrev pub HoldsConversions : Type 0
HoldsConversions = (t : IntType) (a : Interval) (x : ℤ) → IsMember a x → IsMember (conversion_row_of t a) (converted t x)

-- ---- monotone: wider operands have wider rows

-- where the first is there, so is the second, and the first lies in it
abbrev pub IsWithinRow : Option Interval → Option Interval → Type 0
IsWithinRow row wider = IfSome row (λ r. IsSomeAnd wider (λ s. IsWithin r s))

abbrev pub RowsAreMonotone : Type 0
RowsAreMonotone =
    (op : BinOp) (t : IntType) (a b c d : Interval) → IsInhabited a → IsInhabited b → IsWithin a c → IsWithin b d
    → IsWithin c (values_of t) → IsRightOperand op t d → IsWithinRow (row_of op t a b) (row_of op t c d)

abbrev pub UnaryRowsAreMonotone : Type 0
UnaryRowsAreMonotone =
    (op : UnOp) (t : IntType) (a c : Interval) → IsInhabited a → IsWithin a c → IsWithin c (values_of t) → IsWithinRow (unary_row_of op t a) (unary_row_of op t c)

abbrev pub ConversionRowsAreMonotone : Type 0
ConversionRowsAreMonotone = (t : IntType) (a c : Interval) → IsInhabited a → IsWithin a c → IsWithin (conversion_row_of t a) (conversion_row_of t c)

-- ---- rows are intervals of values

abbrev pub IsOfType : IntType → Interval → Type 0
IsOfType t r = IsInhabited r × IsWithin r (values_of t)

abbrev pub RowsAreOfType : Type 0
RowsAreOfType =
    (op : BinOp) (t : IntType) (a b : Interval) → IsInhabited a → IsInhabited b → IsWithin a (values_of t) → IsRightOperand op t b
    → IfSome (row_of op t a b) (IsOfType t)

abbrev pub UnaryRowsAreOfType : Type 0
UnaryRowsAreOfType = (op : UnOp) (t : IntType) (a : Interval) → IsInhabited a → IsWithin a (values_of t) → IfSome (unary_row_of op t a) (IsOfType t)

abbrev pub ConversionRowsAreOfType : Type 0
ConversionRowsAreOfType = (t : IntType) (a : Interval) → IsInhabited a → IsOfType t (conversion_row_of t a)

-- ---- rows are there where a pair goes

-- some numbers of the operands have a result
pub record Goes (op : BinOp) (t : IntType) (a b : Interval) : Type 0 where
  pub x : ℤ
  pub y : ℤ
  pub z : ℤ
  pub left : IsMember a x
  pub right : IsMember b y
  pub result : operate op t x y ≡ Ok z

-- the one place where every pair stops and yet there is a row: the least value of a signed type divided by -1, or by -1 and 0 (C99 6.5.5p6)
pub record IsLeastByMinusOne (op : BinOp) (t : IntType) (a b : Interval) : Type 0 where
  pub divides : (op ≡ Div) ⊎ (op ≡ Rem)
  pub signed : is_signed_of t ≡ true
  pub least : (a.low ≡ least_of t) × (a.high ≡ least_of t)
  pub minus_one : b.low ≡ negsuc 0
  pub at_most_zero : b.high ≤ℤ pos 0

-- a row that is there has a pair that goes, except for that place
abbrev pub RowsHavePairs : Type 0
RowsHavePairs =
    (op : BinOp) (t : IntType) (a b : Interval) → IsInhabited a → IsInhabited b → IsWithin a (values_of t) → IsRightOperand op t b
    → IfSome (row_of op t a b) (λ r. Goes op t a b ⊎ IsLeastByMinusOne op t a b)

-- so too for a unary operator, without exception
abbrev pub UnaryRowsHaveNumbers : Type 0
UnaryRowsHaveNumbers =
    (op : UnOp) (t : IntType) (a : Interval) → IsInhabited a → IsWithin a (values_of t)
    → IfSome (unary_row_of op t a) (λ r. (x : ℤ) × (z : ℤ) × IsMember a x × (operate_unary op t x ≡ Ok z))

-- ---- intervals as sets of numbers

-- the hull has both, and lies in each interval that has both
abbrev pub HullIsLeast : Type 0
HullIsLeast =
    (a b : Interval) → IsWithin a (hull_of a b) × IsWithin b (hull_of a b) × ((c : Interval) → IsWithin a c → IsWithin b c → IsWithin (hull_of a b) c)

-- the numbers of the common part are those of both
abbrev pub MeetIsCommonPart : Type 0
MeetIsCommonPart = (a b : Interval) (z : ℤ) → HasNumber (meet_of a b) z ↔ (IsMember a z × IsMember b z)

-- an interval lies in another where each of its numbers does
abbrev pub WithinIsInclusion : Type 0
WithinIsInclusion = (a b : Interval) → IsInhabited a → IsWithin a b ↔ ((z : ℤ) → IsMember a z → IsMember b z)
