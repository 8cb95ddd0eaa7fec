-- What holds of declarations of one name in several roots (C99 6.2.7) and in one (6.7.5.3p15).
use Rattle.std.specs.Prelude.{◌≡◌, ℕ, nat_eq, Bool, true, false, ◌&&◌, List, [], ◌∷◌, map, slice_get, Option, Some, None, is_some, codes, bytes_eq}
use Rattle.std.specs.Bool.{beq}
use Rattle.p10_base.specs.Words.{Text}
use Rattle.p10_int.specs.declared.types.IntType.TheVariants.{Int, Char}
use Rattle.p10_core.specs.Types.{PlainType, void, integer, pointer, array, structure, bare, PlainMember, PlainBody, PlainStructure, body_of, members_of, representative_of}
use Rattle.p10_core.specs.Rows.{same_integer}
use Rattle.p10_core.specs.Completing.{AreBuilt}
use Rattle.p10_elabd.specs.declared.declaration.ParameterList.{ParameterList}
use Rattle.p10_elabd.specs.declared.declaration.ParameterList.TheVariants as list_is
use Rattle.p10_linkage.specs.Linkage.{LinkedType, a_function, a_part_function, Linked, lists_agree, same_parameters, all_known}
use Rattle.p10_linkage.specs.Uniting.{tagged_alike, united}
use Rattle.p10_linkage.specs.Between.{agreed_with}
use Rattle.p10_linkage.specs.Compatible.{Pairs, were_met, is_settled, compatible_after, is_compatible, are_compatible}

-- two declarations of one name in different roots whose types are compatible agree, whatever other declarations made of the structures
abbrev pub CompatibleDeclarationsAgree : Type 0
CompatibleDeclarationsAgree =
    (before now : Linked) (structures : List PlainStructure) → before.sensor ≡ now.sensor → are_compatible structures before now ≡ true →
    is_some (agreed_with before now structures) ≡ true

-- a type is compatible with itself, whatever the structures are
abbrev pub TypesAreCompatibleWithThemselves : Type 0
TypesAreCompatibleWithThemselves = (structures : List PlainStructure) (t : PlainType) → is_compatible structures t t ≡ true

-- two types that become one are the same type then, apart from marks, and the structures stay well built: so each of the two is compatible
-- with what they become
abbrev pub UnitedTypesAreOne : Type 0
UnitedTypesAreOne =
    (t u : PlainType) (before after : List PlainStructure) → AreBuilt before → united t u before ≡ Some after → AreBuilt after × (bare after t ≡ bare after u)

-- ## What became one is compatible

-- a type in which each structure is the one that stands for it, with its marks, which of an array stand at its elements
abbrev pub as_one : List PlainStructure → PlainType → PlainType
as_one structures (void c) = void c
as_one structures (integer c i) = integer c i
as_one structures (pointer c t) = pointer c (as_one structures t)
as_one structures (array c t n) = array false (as_one structures t) n
as_one structures (structure c n) = structure c (representative_of structures n)

-- a member with such a type
abbrev pub member_as_one : List PlainStructure → PlainMember → PlainMember
member_as_one structures m = record m { type = as_one structures m.type }

-- the tag of a structure, if it is there and has one
abbrev pub tag_of_structure : Option PlainStructure → Option Text
tag_of_structure None = None
tag_of_structure (Some s) = s.tag

-- the tag of the structure with a number
abbrev pub tag_numbered : List PlainStructure → ℕ → Option Text
tag_numbered structures n = tag_of_structure (slice_get structures n)

-- structures are compatible with those that stand for them, where types are one as they are in other structures (C99 6.2.7): they have
-- the same tag, and where one is complete, the same members in order, by their names and their types
pub record RepresentativesAreCompatible (structures others : List PlainStructure) : Type 0 where
  pub tags : (n : ℕ) → tag_numbered structures n ≡ tag_numbered structures (representative_of structures n)
  pub members : (n : ℕ) (b : PlainBody) → body_of structures n ≡ Some b →
      map (member_as_one others) (members_of structures (representative_of structures n)) ≡ map (member_as_one others) b.members
  pub complete : (n : ℕ) (b : PlainBody) → body_of structures n ≡ Some b → is_some (body_of structures (representative_of structures n)) ≡ true

-- two types become one only where they are compatible, marks included, and each structure with the one that stands for it then; before any
-- becomes one, each stands for itself
pub record UnitedTypesAreCompatible : Type 0 where
  pub apart : (structures : List PlainStructure) → ((n : ℕ) → representative_of structures n ≡ n) → RepresentativesAreCompatible structures structures
  pub one : (t u : PlainType) (before after : List PlainStructure) → AreBuilt before → RepresentativesAreCompatible before before → united t u before ≡ Some after →
      RepresentativesAreCompatible after after × (as_one after t ≡ as_one after u)

-- ## What is found compatible is

-- whether two types are compatible, where structures are that are one or stand in pairs
abbrev pub are_compatible_by : Pairs → PlainType → PlainType → Bool
are_compatible_by pairs (void c) (void d) = beq c d
are_compatible_by pairs (integer c i) (integer d j) = beq c d && same_integer i j
are_compatible_by pairs (pointer c t) (pointer d u) = beq c d && are_compatible_by pairs t u
are_compatible_by pairs (array c t m) (array d u n) = nat_eq m n && are_compatible_by pairs t u
are_compatible_by pairs (structure c m) (structure d n) = beq c d && is_settled m n pairs
are_compatible_by pairs t u = false

-- whether members are, in order, with the same names
abbrev pub members_compatible_by : Pairs → List PlainMember → List PlainMember → Bool
members_compatible_by pairs [] [] = true
members_compatible_by pairs (m ∷ ms) (k ∷ ks) =
    bytes_eq m.name k.name && (are_compatible_by pairs m.type k.type && members_compatible_by pairs ms ks)
members_compatible_by pairs ms ks = false

-- whether bodies are: one that isn't complete goes with any
abbrev pub bodies_compatible_by : Pairs → Option PlainBody → Option PlainBody → Bool
bodies_compatible_by pairs (Some a) (Some b) = members_compatible_by pairs a.members b.members
bodies_compatible_by pairs a b = true

-- pairs of structures each of which is compatible, where the others are (C99 6.2.7): they have the same tag, and their bodies are
abbrev pub AreCompatiblePairs : List PlainStructure → Pairs → Type 0
AreCompatiblePairs structures pairs = (m n : ℕ) → were_met m n pairs ≡ true →
    (tagged_alike (slice_get structures m) (slice_get structures n) ≡ true) × (bodies_compatible_by pairs (body_of structures m) (body_of structures n) ≡ true)

-- types that are found compatible are so by the pairs that were compared, which are compatible
abbrev pub ComparedTypesAreCompatible : Type 0
ComparedTypesAreCompatible =
    (structures : List PlainStructure) (t u : PlainType) (pairs : Pairs) → compatible_after structures t u [] ≡ Some pairs →
    AreCompatiblePairs structures pairs × (are_compatible_by pairs t u ≡ true)

-- types that are compatible by any pairs of structures that are, are found to be: none is missed
abbrev pub CompatibleTypesAreFound : Type 0
CompatibleTypesAreFound =
    (structures : List PlainStructure) (pairs : Pairs) (t u : PlainType) → AreCompatiblePairs structures pairs → are_compatible_by pairs t u ≡ true → is_compatible structures t u ≡ true

-- ## Small structures and lists

-- a structure with a tag, perhaps with one member
abbrev pub tagged_with : ℕ → Text → Option PlainType → PlainStructure
tagged_with n tag None = record { tag = Some tag; body = None; representative = n }
tagged_with n tag (Some t) = record {
  tag = Some tag;
  body = Some (record { members = record { name = codes "z"; type = t } ∷ []; order = n; bytes = 4; alignment = 4; scalars = 1; constant = false });
  representative = n;
}

-- `struct I;`, `struct I { int z; };`, `struct I { char z; };`, `struct J { int z; };`, and two lists that lead to themselves
abbrev pub some_structures : List PlainStructure
some_structures =
    tagged_with 0 (codes "I") None
    ∷ tagged_with 1 (codes "I") (Some (integer false Int))
    ∷ tagged_with 2 (codes "I") (Some (integer false Char))
    ∷ tagged_with 3 (codes "J") (Some (integer false Int))
    ∷ tagged_with 4 (codes "L") (Some (pointer false (structure false 4)))
    ∷ tagged_with 5 (codes "L") (Some (pointer false (structure false 5))) ∷ []

-- which of them are compatible: one that isn't complete is with each of its tag, which needn't be with each other
pub record StructuresAreCompared : Type 0 where
  pub incomplete_first : is_compatible some_structures (structure false 0) (structure false 1) ≡ true
  pub incomplete_second : is_compatible some_structures (structure false 0) (structure false 2) ≡ true
  pub complete : is_compatible some_structures (structure false 1) (structure false 2) ≡ false
  pub other_tag : is_compatible some_structures (structure false 1) (structure false 3) ≡ false
  pub incomplete_other_tag : is_compatible some_structures (structure false 0) (structure false 3) ≡ false
  pub itself : is_compatible some_structures (structure false 2) (structure false 2) ≡ true
  pub circular : is_compatible some_structures (structure false 4) (structure false 5) ≡ true
  pub targets : is_compatible some_structures (pointer false (structure false 1)) (pointer false (structure false 2)) ≡ false
  pub marks : is_compatible some_structures (structure true 0) (structure false 1) ≡ false

-- a function of which a part is refused
abbrev pub listed_so : ParameterList → List (Option PlainType) → LinkedType
listed_so list ts = a_part_function (record { parameters = ts; list = list; result = None })

-- `f(int)` and `f(char)`
abbrev pub of_int : LinkedType
of_int = a_function (integer false Int ∷ []) (integer false Int)

abbrev pub of_char : LinkedType
of_char = a_function (integer false Char ∷ []) (integer false Int)

-- which lists of parameters go together, one of which may be refused
pub record ListsAreCompared : Type 0 where
  pub variadic : lists_agree false false of_int (listed_so list_is.Variadic (Some (integer false Int) ∷ [])) ≡ false
  pub both_variadic : lists_agree false false (listed_so list_is.Variadic (None ∷ [])) (listed_so list_is.Variadic (None ∷ [])) ≡ true
  pub empty_beside_int : lists_agree false false of_int (listed_so list_is.Empty []) ≡ true
  pub empty_beside_char : lists_agree false false of_char (listed_so list_is.Empty []) ≡ false
  pub empty_definition : lists_agree false true of_int (listed_so list_is.Empty []) ≡ false
  pub empty_before : lists_agree false false (listed_so list_is.Empty []) of_char ≡ false
  pub counts_differ : same_parameters [] (None ∷ []) ≡ false
  pub unknown_fits : same_parameters (all_known (integer false Int ∷ [])) (None ∷ []) ≡ true
  pub known_differ : same_parameters (all_known (integer false Int ∷ integer false Int ∷ [])) (Some (integer false Char) ∷ None ∷ []) ≡ false
