-- Operators that stop at no ends of the ranges of their operands stop at none of their numbers.
use Rattle.std.specs.Prelude.{◌≡◌, false, ℤ}
use Rattle.std.specs.Result.{IsOk}
use Rattle.p10_int.specs.declared.types.IntType.{IntType}
use Rattle.p10_int.specs.declared.operators.BinOp.{BinOp}
use Rattle.p10_int.specs.declared.operators.UnOp.{UnOp}
use Rattle.p10_int.specs.Types.{InRange}
use Rattle.p10_int.specs.Operators.{operate, operate_unary}
use Rattle.p10_range.specs.Ranges.{Interval, IsMember}
use Rattle.p10_clean.specs.Operations.{overflows, negation_overflows, misdivides, misshifts}

-- where C1 to C3 hold of an operator, it has a result for all numbers of both ranges, if the left one is of its type
abbrev pub NoneStops : Type 0
NoneStops =
    (op : BinOp) (t : IntType) (a b : Interval) → overflows op t a b ≡ false → misdivides op t a b ≡ false → misshifts op t a b ≡ false
    → (x y : ℤ) → IsMember a x → IsMember b y → InRange t x → IsOk (operate op t x y)

-- where C1 holds of a unary operator, it has a result for all numbers of the range
abbrev pub NoUnaryStops : Type 0
NoUnaryStops = (op : UnOp) (t : IntType) (a : Interval) → negation_overflows op t a ≡ false → (x : ℤ) → IsMember a x → IsOk (operate_unary op t x)
