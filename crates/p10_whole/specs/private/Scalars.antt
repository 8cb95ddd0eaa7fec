-- Scalars of types by their places.
use Rattle.std.specs.Prelude.{◌≡◌, ℕ, ◌+◌, ◌<◌, true, List, Some, slice_get}
use Rattle.p10_core.specs.Types.{PlainType, PlainMember, PlainStructure, bare}
use Rattle.p10_core.specs.Sizes.{layout_of, scalars_of, scalars_of_members}
use Rattle.p10_core.specs.WholePrograms.{is_character}

-- the scalar at a place of one type is that at a place of another
pub record SameScalar (structures : List PlainStructure) (s : PlainType) (i : ℕ) (t : PlainType) (j : ℕ) : Type 0 where
  pub same : slice_get (scalars_of structures s) i ≡ slice_get (scalars_of structures t) j

-- the scalar at a place of members is that at a place of a type
pub record HasMember (structures : List PlainStructure) (members : List PlainMember) (i : ℕ) (t : PlainType) (j : ℕ) : Type 0 where
  pub same : slice_get (scalars_of_members (layout_of structures) members) i ≡ slice_get (scalars_of structures t) j

-- the scalar at a place has a type
pub record HasScalar (structures : List PlainStructure) (t : PlainType) (i : ℕ) (u : PlainType) : Type 0 where
  pub is : slice_get (scalars_of structures t) i ≡ Some (bare structures u)

-- the scalar at a place is a character
pub record HasCharacter (structures : List PlainStructure) (t : PlainType) (i : ℕ) : Type 0 where
  pub scalar : PlainType
  pub is : slice_get (scalars_of structures t) i ≡ Some scalar
  pub character : is_character scalar ≡ true

-- `count` scalars from a place on are characters
pub record HasCharacters (structures : List PlainStructure) (t : PlainType) (from count : ℕ) : Type 0 where
  pub each : (k : ℕ) → k < count → HasCharacter structures t (from + k)
