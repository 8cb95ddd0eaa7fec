-- The values of a condition's parts: 64 bits, with and without a sign (C99 6.10.1p4; 6.5.3.3, 6.5.5 to 6.5.15).
use Rattle.std.specs.Prelude.{ℤ, Bool, true, false, ◌&&◌, ◌||◌, not, pos, Option, Some, None, option_map, option_and_then, Result, Ok, Err, if◌then◌else◌}
use Rattle.std.specs.Ordering.{int_eq}
use Rattle.p10_int.specs.declared.types.IntType.{IntType}
use Rattle.p10_int.specs.declared.types.IntType.TheVariants.{LLong, ULLong}
use Rattle.p10_int.specs.declared.operators.Stop.{Stop}
use Rattle.p10_int.specs.declared.operators.BinOp.{BinOp}
use Rattle.p10_int.specs.declared.operators.BinOp.TheVariants.{Shl, Shr, Lt, Gt, Le, Ge, Eq, Ne}
use Rattle.p10_int.specs.declared.operators.UnOp.{UnOp}
use Rattle.p10_int.specs.declared.operators.UnOp.TheVariants.{Not}
use Rattle.p10_int.specs.Conversion.{converted}
use Rattle.p10_int.specs.Operators.{operate, operate_unary}
use Rattle.p10_direct.specs.declared.operator.Binary.{Binary}
use Rattle.p10_direct.specs.declared.operator.Binary.TheVariants.{Apply, AndAlso, OrElse}
use Rattle.p10_direct.specs.Constants.{Constant}

-- whether the type is unsigned, and the number, or None where its evaluation stops
pub record Value : Type 0 where
  pub unsigned : Bool
  pub value : Option ℤ

-- `long long` or `unsigned long long` (C99 6.10.1p4: `intmax_t` and `uintmax_t`)
abbrev pub type_of : Bool → IntType
type_of false = LLong
type_of true = ULLong

-- the number that an operator gives, or None where it stops
abbrev pub as_option : Result ℤ Stop → Option ℤ
as_option (Ok z) = Some z
as_option (Err stop) = None

-- a constant's value
abbrev pub constant_value : Constant → Value
constant_value c = record { unsigned = c.unsigned; value = Some c.value }

-- ## Operators before their operand

-- whether the operator is `!`
abbrev pub is_not : UnOp → Bool
is_not Not = true
is_not _ = false

-- `!` gives a signed 0 or 1, the others a value of the operand's type (C99 6.5.3.3)
abbrev pub applied : UnOp → Value → Value
applied op v = record {
  unsigned = not (is_not op) && v.unsigned;
  value = option_and_then (λ x. as_option (operate_unary op (type_of v.unsigned) (converted (type_of v.unsigned) x))) v.value;
}

-- ## Operators between two operands

-- whether the operator is `<<` or `>>` (C99 6.5.7)
abbrev pub is_shift : BinOp → Bool
is_shift Shl = true
is_shift Shr = true
is_shift _ = false

-- whether the operator is `<`, `>`, `<=`, `>=`, `==` or `!=` (C99 6.5.8, 6.5.9)
abbrev pub is_comparison : BinOp → Bool
is_comparison Lt = true
is_comparison Gt = true
is_comparison Le = true
is_comparison Ge = true
is_comparison Eq = true
is_comparison Ne = true
is_comparison _ = false

-- whether it is done without a sign: a shift in the type of its left operand (C99 6.5.7), the others in the common type, which
-- is unsigned where one of the two is (C99 6.3.1.8)
abbrev pub is_done_unsigned : BinOp → Bool → Bool → Bool
is_done_unsigned op left right = left || (not (is_shift op) && right)

-- the right operand: converted to the type, except for a shift, where it may be any number
abbrev pub right_operand : BinOp → IntType → ℤ → ℤ
right_operand op t y = if is_shift op then y else converted t y

-- what an operator makes of two numbers in a type, to which they are converted first, except for the count of a
-- shift; None where it stops
abbrev pub operated : BinOp → IntType → ℤ → ℤ → Option ℤ
operated op t x y = as_option (operate op t (converted t x) (right_operand op t y))

-- a comparison gives a signed 0 or 1, the others a value of the type in which they are done (C99 6.5.5 to 6.5.12)
abbrev pub calculated : BinOp → Value → Value → Value
calculated op a b = record {
  unsigned = not (is_comparison op) && is_done_unsigned op a.unsigned b.unsigned;
  value = option_and_then (λ x. option_and_then (operated op (type_of (is_done_unsigned op a.unsigned b.unsigned)) x) b.value) a.value;
}

-- whether a number is 0
abbrev pub is_zero : ℤ → Bool
is_zero z = int_eq z (pos 0)

-- 1 for a number other than 0, else 0
abbrev pub truth_value : ℤ → ℤ
truth_value z = if is_zero z then pos 0 else pos 1

-- `&&` doesn't evaluate its right operand where the left one is 0 (C99 6.5.13)
abbrev pub and_value : Option ℤ → Option ℤ → Option ℤ
and_value None right = None
and_value (Some x) right = if is_zero x then Some (pos 0) else option_map truth_value right

-- `||` doesn't evaluate it where the left one isn't 0 (C99 6.5.14)
abbrev pub or_value : Option ℤ → Option ℤ → Option ℤ
or_value None right = None
or_value (Some x) right = if is_zero x then option_map truth_value right else Some (pos 1)

-- what an operator makes of the values on its sides; `&&` and `||` give a signed 0 or 1 (C99 6.5.13p3, 6.5.14p3)
abbrev pub joined : Binary → Value → Value → Value
joined (Apply op) a b = calculated op a b
joined AndAlso a b = record { unsigned = false; value = and_value a.value b.value }
joined OrElse a b = record { unsigned = false; value = or_value a.value b.value }

-- ## Choice

-- `?:` evaluates one of its branches, and gives it in the common type of both (C99 6.5.15)
abbrev pub chosen_value : IntType → Option ℤ → Option ℤ → Option ℤ → Option ℤ
chosen_value t None first second = None
chosen_value t (Some x) first second = option_map (converted t) (if is_zero x then second else first)

-- the value of `?:`, which is unsigned where one of its branches is (C99 6.5.15p5)
abbrev pub chosen : Value → Value → Value → Value
chosen test first second = record {
  unsigned = first.unsigned || second.unsigned;
  value = chosen_value (type_of (first.unsigned || second.unsigned)) test.value first.value second.value;
}
