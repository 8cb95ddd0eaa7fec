-- Integer constant expressions (C99 6.6): which typed values are of their form, and what they give.
use Rattle.std.specs.Prelude.{ℤ, pos, negsuc, int_le, ◌≤ℤ◌, Bool, true, false, not, ◌&&◌, if◌then◌else◌, Option, Some, None, Result, Ok, Err}
use Rattle.std.specs.Ordering.{int_eq}
use Rattle.p10_base.specs.declared.at.At.{At}
use Rattle.p10_int.specs.declared.types.IntType.{IntType}
use Rattle.p10_int.specs.declared.types.IntType.TheVariants.{Int}
use Rattle.p10_int.specs.declared.operators.Stop.{Stop}
use Rattle.p10_int.specs.declared.operators.UnOp.{UnOp}
use Rattle.p10_int.specs.declared.operators.BinOp.{BinOp}
use Rattle.p10_int.specs.declared.operators.BinOp.TheVariants.{Shl, Shr}
use Rattle.p10_int.specs.Conversion.{converted}
use Rattle.p10_int.specs.Operators.{operate, operate_unary, truth_of}
use Rattle.p10_core.specs.declared.typed.LogicOp.{LogicOp}
use Rattle.p10_core.specs.declared.typed.LogicOp.TheVariants.{And, Or}
use Rattle.p10_core.specs.Types.{PlainType, void, integer, pointer, array, structure}
use Rattle.p10_core.specs.Typed.{PlainValue, value, constant, read, sense, address, decay, convert, cast, unary, binary, logic, conditional, call, built_in, type_of}
use Rattle.p10_core.specs.Rows.{is_integer}

-- the first of two places that may be lacking
abbrev pub first_of_parts : Option At → Option At → Option At
first_of_parts None b = b
first_of_parts (Some a) b = Some a

-- a conversion to an integer type is of constant form where its operand is; one to another type isn't
abbrev pub converted_part : At → PlainType → Option At → Option At
converted_part at t part = if is_integer t then part else Some at

-- the first of the smallest parts that aren't of the form of an integer constant expression (C99 6.6p3, p6): each operand
-- counts, whether or not it would be evaluated
abbrev pub inconstant_part : PlainValue → Option At
inconstant_part (value at t (constant z)) = None
inconstant_part (value at t (read p)) = Some at
inconstant_part (value at t (sense n)) = Some at
inconstant_part (value at t (address p)) = Some at
inconstant_part (value at t (decay p)) = Some at
inconstant_part (value at t (convert v)) = converted_part at t (inconstant_part v)
inconstant_part (value at t (cast v)) = converted_part at t (inconstant_part v)
inconstant_part (value at t (unary op v)) = inconstant_part v
inconstant_part (value at t (binary op a b)) = first_of_parts (inconstant_part a) (inconstant_part b)
inconstant_part (value at t (logic op a b)) = first_of_parts (inconstant_part a) (inconstant_part b)
inconstant_part (value at t (conditional c a b)) =
    first_of_parts (inconstant_part c) (first_of_parts (inconstant_part a) (inconstant_part b))
inconstant_part (value at t (call s n arguments)) = Some at
inconstant_part (value at t (built_in s f arguments)) = Some at

-- the integer type that a type is; `int` for another
abbrev pub integer_of : PlainType → IntType
integer_of (void c) = Int
integer_of (integer c i) = i
integer_of (pointer c t) = Int
integer_of (array c t n) = Int
integer_of (structure c n) = Int

-- an operator's result, or its place where it stops
abbrev pub or_place : At → Result ℤ Stop → Result ℤ At
or_place at (Ok z) = Ok z
or_place at (Err stop) = Err at

-- goes on with a number, or stops where it stopped
abbrev pub folded_then : Result ℤ At → (ℤ → Result ℤ At) → Result ℤ At
folded_then (Ok z) go = go z
folded_then (Err at) go = Err at

-- whether a number is 0
abbrev pub is_zero : ℤ → Bool
is_zero z = int_eq z (pos 0)

-- 1 for a number other than 0, and 0 for 0
abbrev pub truth_number : ℤ → Result ℤ At
truth_number z = Ok (truth_of (not (is_zero z)))

-- `&&` and `||`: the second counts only where the first doesn't decide (C99 6.5.13, 6.5.14)
abbrev pub logic_result : LogicOp → Result ℤ At → Result ℤ At → Result ℤ At
logic_result And first second = folded_then first (λ x. if is_zero x then Ok (pos 0) else folded_then second truth_number)
logic_result Or first second = folded_then first (λ x. if is_zero x then folded_then second truth_number else Ok (pos 1))

-- whether a number is a value of some integer type: from -2 ^ 63 to 2 ^ 64 - 1
abbrev pub is_small : ℤ → Bool
is_small z = int_le (negsuc 9223372036854775807) z && int_le z (pos 18446744073709551615)

-- the same as a fact
pub record IsSmall (z : ℤ) : Type 0 where
  pub low : negsuc 9223372036854775807 ≤ℤ z
  pub high : z ≤ℤ pos 18446744073709551615

-- an operator at a type, on a number of that type, as the operand is after its conversion
abbrev pub unary_result : UnOp → IntType → ℤ → Result ℤ Stop
unary_result op i x = operate_unary op i (converted i x)

-- a right operand is converted too, except for a shift count
abbrev pub right_operand : BinOp → IntType → ℤ → ℤ
right_operand Shl i y = y
right_operand Shr i y = y
right_operand op i y = converted i y

-- a binary operator at a type, on numbers of that type, as its operands are after their conversions
abbrev pub binary_result : BinOp → IntType → ℤ → ℤ → Result ℤ Stop
binary_result op i x y = operate op i (converted i x) (right_operand op i y)

-- what a value of constant form gives, or the place of the first part that is evaluated and stops (C99 6.6p4)
abbrev pub fold : PlainValue → Result ℤ At
fold (value at t (constant z)) = if is_small z then Ok z else Err at
fold (value at t (read p)) = Err at
fold (value at t (sense n)) = Err at
fold (value at t (address p)) = Err at
fold (value at t (decay p)) = Err at
fold (value at t (convert v)) = folded_then (fold v) (λ x. Ok (converted (integer_of t) x))
fold (value at t (cast v)) = folded_then (fold v) (λ x. Ok (converted (integer_of t) x))
fold (value at t (unary op v)) = folded_then (fold v) (λ x. or_place at (unary_result op (integer_of (type_of v)) x))
fold (value at t (binary op a b)) =
    folded_then (fold a) (λ x. folded_then (fold b) (λ y. or_place at (binary_result op (integer_of (type_of a)) x y)))
fold (value at t (logic op a b)) = logic_result op (fold a) (fold b)
fold (value at t (conditional c a b)) = folded_then (fold c) (λ x. if is_zero x then fold b else fold a)
fold (value at t (call s n arguments)) = Err at
fold (value at t (built_in s f arguments)) = Err at

-- whether a constant gives 0
abbrev pub gives_zero : Result ℤ At → Bool
gives_zero (Ok z) = is_zero z
gives_zero (Err at) = false

-- whether no part is of another form than constants have
abbrev pub is_constant : Option At → Bool
is_constant None = true
is_constant (Some at) = false

-- a null constant (C99 6.3.2.3p3): an integer constant expression with the value 0
abbrev pub is_null : PlainValue → Bool
is_null v = is_integer (type_of v) && (is_constant (inconstant_part v) && gives_zero (fold v))
