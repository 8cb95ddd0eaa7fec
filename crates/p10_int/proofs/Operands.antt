-- What the operators ask of their operands.
use Rattle.std.proofs.Common.{ℤ}
use Rattle.p10_int.specs.declared.types.IntType.{IntType}
use Rattle.p10_int.specs.declared.operators.BinOp.{BinOp}
use Rattle.p10_int.specs.declared.operators.BinOp.TheVariants.{Add, Sub, Mul, Div, Rem, Shl, Shr, And, Or, Xor, Lt, Gt, Le, Ge, Eq, Ne}
use Rattle.p10_int.specs.Types.{InRange}
use Rattle.p10_int.specs.Operators.{IsRightOperand}

-- a value of the type serves every operator
pub right_operand : (op : BinOp) (t : IntType) (b : ℤ) → InRange t b → IsRightOperand op t b
right_operand Add t b i = i
right_operand Sub t b i = i
right_operand Mul t b i = i
right_operand Div t b i = i
right_operand Rem t b i = i
right_operand And t b i = i
right_operand Or t b i = i
right_operand Xor t b i = i
right_operand Lt t b i = i
right_operand Gt t b i = i
right_operand Le t b i = i
right_operand Ge t b i = i
right_operand Eq t b i = i
right_operand Ne t b i = i
right_operand Shl t b i = tt
right_operand Shr t b i = tt
