-- The operators over the whole numbers, and the stops that they end in.
use Rattle.std.specs.Prelude.{ℕ, ◌-◌, ◌^◌, ◌&&◌, not, Bool as Flag, if◌then◌else◌, ℤ, pos, neg_ℤ, ◌+ℤ◌, ◌-ℤ◌, ◌*ℤ◌, int_lt, int_le, int_div, int_rem, unsigned_abs, bit_and, bit_or, bit_xor, Result, Ok, Err}
use Rattle.std.specs.Int.{int_div_euclid}
use Rattle.std.specs.Ordering.{int_eq}
use Rattle.p10_int.specs.declared.types.IntType.{IntType}
use Rattle.p10_int.specs.declared.operators.Stop.{Stop}
use Rattle.p10_int.specs.declared.operators.Stop.TheVariants.{U1, U2, U3, U4}
use Rattle.p10_int.specs.declared.operators.BinOp.{BinOp}
use Rattle.p10_int.specs.declared.operators.BinOp.TheVariants.{Add, Sub, Mul, Div, Rem, Shl, Shr, And, Or, Xor, Lt, Gt, Le, Ge, Eq, Ne}
use Rattle.p10_int.specs.declared.operators.UnOp.{UnOp}
use Rattle.p10_int.specs.declared.operators.UnOp.TheVariants.{Plus, Neg, Not, Com}
use Rattle.p10_int.specs.Types.{InRange, is_signed_of, width_of, modulus_of, holds, promoted}
use Rattle.p10_int.specs.Conversion.{reduced, pattern_of, value_of}

-- an exact result at a type: an unsigned type reduces it modulo 2 ^ w (C99 6.2.5), a signed one has it or stops (C99 6.5)
unfoldable pub fitted : IntType → Stop → ℤ → Result ℤ Stop
fitted t stop z = if is_signed_of t then (if holds t z then Ok z else Err stop) else Ok (reduced t z)

-- 1 for true and 0 for false, as tests give
abbrev pub truth_of : Flag → ℤ
truth_of b = if b then pos 1 else pos 0

-- a quotient is rounded toward zero, and 0 divides nothing (C99 6.5.5)
unfoldable pub quotient : IntType → ℤ → ℤ → Result ℤ Stop
quotient t a b = if int_eq b (pos 0) then Err U2 else fitted t U1 (int_div a b)

-- z where the first doesn't stop, else its stop
abbrev pub unless_stopped : Result ℤ Stop → ℤ → Result ℤ Stop
unless_stopped (Ok q) z = Ok z
unless_stopped (Err stop) z = Err stop

-- what a / b leaves of a, where a / b doesn't stop (C99 6.5.5)
unfoldable pub remainder : IntType → ℤ → ℤ → Result ℤ Stop
remainder t a b = unless_stopped (quotient t a b) (int_rem a b)

-- a shift count may be from 0 to the width of the promoted left operand, less 1 (C99 6.5.7)
abbrev pub is_shift_count : IntType → ℤ → Flag
is_shift_count t n = int_le (pos 0) n && int_lt n (pos (width_of (promoted t)))

-- a * 2 ^ n, for a that isn't negative (C99 6.5.7)
unfoldable pub shifted_left : IntType → ℤ → ℤ → Result ℤ Stop
shifted_left t a n =
    if is_shift_count t n
    then (if int_lt a (pos 0) then Err U4 else fitted t U4 (a *ℤ pos (2 ^ unsigned_abs n)))
    else Err U3

-- a / 2 ^ n rounded down (C99 6.5.7; so too for a negative a)
unfoldable pub shifted_right : IntType → ℤ → ℤ → Result ℤ Stop
shifted_right t a n = if is_shift_count t n then Ok (int_div_euclid a (pos (2 ^ unsigned_abs n))) else Err U3

-- an operation on the bits of two values (C99 6.5.10 to 6.5.12)
unfoldable pub bitwise : (ℕ → ℕ → ℕ) → IntType → ℤ → ℤ → ℤ
bitwise f t a b = value_of t (f (pattern_of t a) (pattern_of t b))

-- what the right operand of an operator has to be: a value of the type, and for a shift any number
abbrev pub IsRightOperand : BinOp → IntType → ℤ → Type 0
IsRightOperand Shl t n = Unit {0}
IsRightOperand Shr t n = Unit {0}
IsRightOperand op t b = InRange t b

-- each bit of a value turned (C99 6.5.3.3)
unfoldable pub complement : IntType → ℤ → ℤ
complement t a = value_of t (modulus_of t - 1 - pattern_of t a)

-- a binary operator at a type to which its operands are converted: for shifts the left operand's (C99 6.5.5 to 6.5.12).
-- After promotion no type is below `int`; at those the same rule holds, with `_Bool` an unsigned type of width 1
abbrev pub operate : BinOp → IntType → ℤ → ℤ → Result ℤ Stop
operate Add t a b = fitted t U1 (a +ℤ b)
operate Sub t a b = fitted t U1 (a -ℤ b)
operate Mul t a b = fitted t U1 (a *ℤ b)
operate Div t a b = quotient t a b
operate Rem t a b = remainder t a b
operate Shl t a b = shifted_left t a b
operate Shr t a b = shifted_right t a b
operate And t a b = Ok (bitwise bit_and t a b)
operate Or t a b = Ok (bitwise bit_or t a b)
operate Xor t a b = Ok (bitwise bit_xor t a b)
operate Lt t a b = Ok (truth_of (int_lt a b))
operate Gt t a b = Ok (truth_of (int_lt b a))
operate Le t a b = Ok (truth_of (int_le a b))
operate Ge t a b = Ok (truth_of (int_le b a))
operate Eq t a b = Ok (truth_of (int_eq a b))
operate Ne t a b = Ok (truth_of (not (int_eq a b)))

-- a unary operator at the type of its converted operand (C99 6.5.3.3)
abbrev pub operate_unary : UnOp → IntType → ℤ → Result ℤ Stop
operate_unary Plus t a = Ok a
operate_unary Neg t a = fitted t U1 (neg_ℤ a)
operate_unary Not t a = Ok (truth_of (int_eq a (pos 0)))
operate_unary Com t a = Ok (complement t a)
