-- Scopes in which what names stand for is whole.
use Rattle.std.specs.Prelude.{◌≡◌, true, List, [], ◌∷◌, Option, Some, None}
use Rattle.p10_int.specs.declared.types.IntType.TheVariants.{Int}
use Rattle.p10_int.specs.Types.{InRange}
use Rattle.p10_core.specs.Types.{PlainType, PlainStructure}
use Rattle.p10_core.specs.Rows.{is_scalar}
use Rattle.p10_core.specs.WholePrograms.{IsWholeType, IsObjectType, IsResult}
use Rattle.p10_core.specs.Completing.{AreBuilt}
use Rattle.p10_elabx.specs.Scopes.{Meaning, number, named_type, tagged_type, Binding, PlainScope}
use Rattle.p10_elabd.specs.Shapes.{PlainParameter, FunctionType, DeclaredType, of_type, of_open_array, of_function, of_part_function}
use Rattle.p10_wholeness.specs.Growth.{StayBuilt}

-- a property of what is made, if something is
abbrev pub IfMade : {A : Type 0} → (A → Type 0) → Option A → Type 0
IfMade P None = Unit {0}
IfMade P (Some x) = P x

-- a type that a name stands for is one of C, and the constant of an enumeration is a value of `int`
abbrev pub IsWholeMeaning : List PlainStructure → Meaning → Type 0
IsWholeMeaning structures (named_type t) = IsWholeType structures t
IsWholeMeaning structures (tagged_type t) = IsWholeType structures t
IsWholeMeaning structures (number z) = InRange Int z
IsWholeMeaning structures what = Unit {0}

-- what each of some names stands for is whole
abbrev pub AreWholeMeanings : List PlainStructure → List Binding → Type 0
AreWholeMeanings structures [] = Unit {0}
AreWholeMeanings structures (b ∷ rest) = IsWholeMeaning structures b.what × AreWholeMeanings structures rest

-- the structures are well built, and what names and tags stand for is whole
pub record IsWholeScope (s : PlainScope) : Type 0 where
  pub built : AreBuilt s.structures
  pub names : AreWholeMeanings s.structures s.names
  pub tags : AreWholeMeanings s.structures s.tags

-- structures stay well built, and a scope whole
pub record KeepScope (s t : PlainScope) : Type 0 where
  pub tables : StayBuilt s.structures t.structures
  pub whole : IsWholeScope s → IsWholeScope t

-- ## Declared types

-- a parameter is a scalar
pub record IsWholeParameter (structures : List PlainStructure) (t : PlainType) : Type 0 where
  pub whole : IsWholeType structures t
  pub scalar : is_scalar t ≡ true

-- so is each of some
abbrev pub AreWholeParameters : List PlainStructure → List PlainParameter → Type 0
AreWholeParameters structures [] = Unit {0}
AreWholeParameters structures (p ∷ rest) = IsWholeParameter structures p.type × AreWholeParameters structures rest

-- a function has parameters that are scalars, and a result that is one, or none; what is declared among its parameters is whole
pub record IsWholeFunctionType (structures : List PlainStructure) (f : FunctionType) : Type 0 where
  pub parameters : AreWholeParameters structures f.parameters
  pub result : IsResult structures f.result
  pub names : AreWholeMeanings structures f.names
  pub tags : AreWholeMeanings structures f.tags

-- what is declared is whole, where no part of it is refused
abbrev pub IsWholeDeclared : List PlainStructure → DeclaredType → Type 0
IsWholeDeclared structures (of_type t) = IsWholeType structures t
IsWholeDeclared structures (of_open_array t) = IsObjectType structures t
IsWholeDeclared structures (of_function f) = IsWholeFunctionType structures f
IsWholeDeclared structures (of_part_function f) = Unit {0}
