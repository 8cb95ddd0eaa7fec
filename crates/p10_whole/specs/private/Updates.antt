-- What the test of an update's types shows.
use Rattle.std.specs.Prelude.{◌≡◌, true, false, List, Some}
use Rattle.p10_int.specs.declared.operators.BinOp.{BinOp}
use Rattle.p10_int.specs.declared.types.IntType.{IntType}
use Rattle.p10_int.specs.Types.{usual_of}
use Rattle.p10_core.specs.Types.{PlainType, PlainStructure, unqualified, integer}
use Rattle.p10_core.specs.Rows.{Row, binary_row, fits}

-- the types of a place, of its converted value and of the operand of an operator are those of a row, whose result fits the place
pub record UpdateAgrees (structures : List PlainStructure) (op : BinOp) (target t operand : PlainType) : Type 0 where
  pub right_type : PlainType
  pub entry : Row
  pub is : binary_row structures op false false (unqualified target) right_type ≡ Some entry
  pub type_is : t ≡ entry.left
  pub operand_is : operand ≡ entry.right
  pub result_fits : fits false entry.result (unqualified target) ≡ true

-- a type and an integer type are the common type of two integer types (C99 6.3.1.8), of which the second is the integer type
pub record AreUsual (left : IntType) (t : PlainType) (right : IntType) : Type 0 where
  pub type_is : t ≡ integer false (usual_of left right)
  pub right_is : right ≡ usual_of left right
