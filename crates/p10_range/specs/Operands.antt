-- What the operators ask of their operands.
use Rattle.p10_int.specs.declared.types.IntType.{IntType}
use Rattle.p10_int.specs.declared.operators.BinOp.{BinOp}
use Rattle.p10_int.specs.declared.operators.BinOp.TheVariants.{Shl, Shr}
use Rattle.p10_range.specs.Ranges.{Interval, IsWithin}
use Rattle.p10_range.specs.Rows.{values_of}

-- the right operand of an operator lies in the type, and for a shift anywhere
abbrev pub IsRightOperand : BinOp → IntType → Interval → Type 0
IsRightOperand Shl t b = Unit {0}
IsRightOperand Shr t b = Unit {0}
IsRightOperand op t b = IsWithin b (values_of t)
