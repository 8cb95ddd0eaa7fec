-- What the tests of types and variables of functions and objects show.
use Rattle.std.specs.Prelude.{◌≡◌, ℕ, ◌≤◌, true, List, All, length}
use Rattle.p10_base.specs.declared.report.TheConstants.Limit.{MOST_OBJECT_BYTES}
use Rattle.p10_core.specs.Types.{PlainType, PlainStructure}
use Rattle.p10_core.specs.Sizes.{size_of}
use Rattle.p10_core.specs.Typed.{PlainFunction}
use Rattle.p10_core.specs.Rows.{is_scalar}
use Rattle.p10_core.specs.WholePrograms.{IsObjectType, IsResult, IsWholeVariable, parameter_types, frame_bytes}

-- a type of objects has a size
pub record HasSize (structures : List PlainStructure) (t : PlainType) (bytes : ℕ) : Type 0 where
  pub object : IsObjectType structures t
  pub bytes_are : bytes ≡ size_of structures t

-- the types and variables of a function are whole
pub record HasWholeHeading (structures : List PlainStructure) (f : PlainFunction) : Type 0 where
  pub parameters_there : f.parameters ≤ length f.variables
  pub parameters_scalar : All (λ t. is_scalar t ≡ true) (parameter_types f)
  pub result : IsResult structures f.result
  pub variables : All (IsWholeVariable structures) f.variables
  pub small : frame_bytes f ≤ MOST_OBJECT_BYTES
