-- What holds of the definitions of types.
use Rattle.std.specs.Prelude.{◌≡◌, ℕ, ◌≤◌, Bool, List, Some, length}
use Rattle.p10_core.specs.Types.{PlainType, array, structure, bare, PlainBody, PlainStructure, body_of}
use Rattle.p10_core.specs.Sizes.{Layout, layout_of_members, with_mark, layout_of, size_of, scalars_of}
use Rattle.p10_core.specs.WholePrograms.{AreWholeStructures, IsWholeType, IsObjectType, most_bytes}

-- a structure lies as its members do: none contains itself, so no bound on its depth counts (C99 6.7.2.1)
abbrev pub StructuresLieAsTheirMembers : Type 0
StructuresLieAsTheirMembers =
    (structures : List PlainStructure) → AreWholeStructures structures → (c : Bool) (n : ℕ) (b : PlainBody) → body_of structures n ≡ Some b →
    layout_of structures (structure c n) ≡ with_mark c (layout_of_members (layout_of structures) b.members)

-- two layouts are the same, marks aside
pub record LiesLike (l m : Layout) : Type 0 where
  pub same_bytes : l.bytes ≡ m.bytes
  pub same_alignment : l.alignment ≡ m.alignment
  pub same_scalars : l.scalars ≡ m.scalars

-- types that are one type, marks and compatible structures aside, lie alike (C99 6.2.7)
abbrev pub CompatibleTypesLieAlike : Type 0
CompatibleTypesLieAlike =
    (structures : List PlainStructure) → AreWholeStructures structures → (s t : PlainType) → IsObjectType structures s → IsObjectType structures t →
    bare structures s ≡ bare structures t → LiesLike (layout_of structures s) (layout_of structures t)

-- a type that has a size has at least a byte, and a byte for each of its scalars (C99 6.2.6.1p2)
abbrev pub ScalarsHaveBytes : Type 0
ScalarsHaveBytes =
    (structures : List PlainStructure) → AreWholeStructures structures → (t : PlainType) → IsObjectType structures t →
    (1 ≤ size_of structures t) × (length (scalars_of structures t) ≤ size_of structures t)

-- no array has more elements than a type may have bytes
abbrev pub ArraysAreShort : Type 0
ArraysAreShort =
    (structures : List PlainStructure) → AreWholeStructures structures → (c : Bool) (t : PlainType) (n : ℕ) → IsWholeType structures (array c t n) →
    n ≤ most_bytes
