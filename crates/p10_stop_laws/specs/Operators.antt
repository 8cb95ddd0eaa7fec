-- When an operator on integers is undefined, in the words of C99, and in which stop it ends then.
use Rattle.std.specs.Prelude.{◌≡◌, ◌^◌, ◌↔◌, true, ℤ, pos, negsuc, ◌+ℤ◌, ◌-ℤ◌, ◌*ℤ◌, ◌≤ℤ◌, ◌<ℤ◌, unsigned_abs, Err}
use Rattle.p10_int.specs.declared.types.IntType.{IntType}
use Rattle.p10_int.specs.declared.operators.Stop.{Stop}
use Rattle.p10_int.specs.declared.operators.Stop.TheVariants.{U1, U2, U3, U4}
use Rattle.p10_int.specs.declared.operators.BinOp.{BinOp}
use Rattle.p10_int.specs.declared.operators.BinOp.TheVariants.{Add, Sub, Mul, Div, Rem, Shl, Shr}
use Rattle.p10_int.specs.declared.operators.UnOp.{UnOp}
use Rattle.p10_int.specs.declared.operators.UnOp.TheVariants.{Neg}
use Rattle.p10_int.specs.Types.{InRange, is_signed_of, least_of, width_of, promoted}
use Rattle.p10_int.specs.Operators.{IsRightOperand, operate, operate_unary}

-- the type is signed and lacks the exact result (C99 6.5p5); an unsigned one reduces it (C99 6.2.5p9)
pub record Overflows (t : IntType) (z : ℤ) : Type 0 where
  pub signed : is_signed_of t ≡ true
  pub lacks : ¬ InRange t z

-- the one quotient that a type lacks: its least value by -1 (C99 6.5.5p6)
pub record LacksQuotient (t : IntType) (a b : ℤ) : Type 0 where
  pub signed : is_signed_of t ≡ true
  pub least : a ≡ least_of t
  pub minus_one : b ≡ negsuc 0

-- a count is negative, or no less than the width of the promoted left operand (C99 6.5.7p3)
pub data IsWrongCount (t : IntType) (n : ℤ) : Type 0 where
  negative_count : n <ℤ pos 0 → IsWrongCount t n
  large_count : pos (width_of (promoted t)) ≤ℤ n → IsWrongCount t n

-- a value can't be shifted to the left: it is negative, or signed and the result isn't representable (C99 6.5.7p4)
pub data CannotShift (t : IntType) (a n : ℤ) : Type 0 where
  negative_value : a <ℤ pos 0 → CannotShift t a n
  lacked : Overflows t (a *ℤ pos (2 ^ unsigned_abs n)) → CannotShift t a n

-- the table: an operator of two values of a type, and the stop in which it ends
pub data IsUndefined (t : IntType) (a b : ℤ) : BinOp → Stop → Type 0 where
  sum : Overflows t (a +ℤ b) → IsUndefined t a b Add U1
  difference : Overflows t (a -ℤ b) → IsUndefined t a b Sub U1
  product : Overflows t (a *ℤ b) → IsUndefined t a b Mul U1
  quotient : LacksQuotient t a b → IsUndefined t a b Div U1
  quotient_by_zero : b ≡ pos 0 → IsUndefined t a b Div U2
  remainder : LacksQuotient t a b → IsUndefined t a b Rem U1
  remainder_by_zero : b ≡ pos 0 → IsUndefined t a b Rem U2
  left_count : IsWrongCount t b → IsUndefined t a b Shl U3
  left : ¬ IsWrongCount t b → CannotShift t a b → IsUndefined t a b Shl U4
  right_count : IsWrongCount t b → IsUndefined t a b Shr U3

-- an operator on values of a type ends in a stop exactly where it is undefined
abbrev pub OperatorsStopThen : Type 0
OperatorsStopThen =
    (op : BinOp) (t : IntType) (a b : ℤ) (stop : Stop) → InRange t a → IsRightOperand op t b → (operate op t a b ≡ Err stop) ↔ IsUndefined t a b op stop

-- the same for unary operators: only the negation of the least value is undefined (C99 6.5.3.3, 6.5p5)
pub data IsUndefinedUnary (t : IntType) (a : ℤ) : UnOp → Stop → Type 0 where
  negation : is_signed_of t ≡ true → a ≡ least_of t → IsUndefinedUnary t a Neg U1

abbrev pub UnaryOperatorsStopThen : Type 0
UnaryOperatorsStopThen = (op : UnOp) (t : IntType) (a : ℤ) (stop : Stop) → InRange t a → (operate_unary op t a ≡ Err stop) ↔ IsUndefinedUnary t a op stop
