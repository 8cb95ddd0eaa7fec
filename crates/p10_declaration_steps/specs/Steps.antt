-- The steps in which a declaration changes what stands.
use Rattle.std.specs.Prelude.{◌≡◌, ℕ, true, List, [], ◌∷◌, ◌++◌, Option, nat_le}
use Rattle.p10_base.specs.Words.{Text}
use Rattle.p10_base.specs.declared.at.At.{At}
use Rattle.p10_syn.specs.declared.sign.Sign.{Sign}
use Rattle.p10_syn.specs.Trees.{Identifier}
use Rattle.p10_int.specs.declared.types.IntType.TheVariants.{Int}
use Rattle.p10_int.specs.Types.{holds}
use Rattle.p10_core.specs.Types.{integer, PlainMember}
use Rattle.p10_core.specs.WholePrograms.{most_bytes}
use Rattle.p10_core.specs.Completing.{with_structure, member_layout, completed, takes_members}
use Rattle.p10_elabx.specs.declared.problem.Problem.{Problem}
use Rattle.p10_elabx.specs.First.{Keep}
use Rattle.p10_elabx.specs.Scopes.{Meaning, number, named_type, tagged_type, unknown_name, unknown_tag, entered, left}
use Rattle.p10_elabd.specs.Standing.{PlainStanding, with_problems}
use Rattle.p10_elabd.specs.Tags.{with_tag}
use Rattle.p10_elabd.specs.Declaring.{begun_with}

-- what a name stands for that is no type and no tag; a constant of an enumeration is a value of `int`
abbrev pub NamesNoType : Meaning → Type 0
NamesNoType (number z) = holds Int z ≡ true
NamesNoType (named_type t) = ⊥
NamesNoType (tagged_type t) = ⊥
NamesNoType unknown_tag = ⊥
NamesNoType what = Unit {0}

-- what a tag stands for that is no structure: an enumeration, something refused, or nothing yet
abbrev pub NamesNoStructure : Meaning → Type 0
NamesNoStructure (tagged_type (integer c i)) = Unit {0}
NamesNoStructure unknown_tag = Unit {0}
NamesNoStructure unknown_name = Unit {0}
NamesNoStructure what = ⊥

-- how the standing after a part of a declaration comes from the one before it: by no step; by some and then others; problems are told; a
-- name or a tag more stands for something; there is one structure more, with or without its tag; others are noted as structures whose
-- members are being declared; the structure that a body began with gets the members of that body; and what is done in a block, once
-- it is closed
pub data Steps (h : Keep) : PlainStanding → PlainStanding → Type 0 where
  same : (s : PlainStanding) → Steps h s s
  followed : {s t u : PlainStanding} → Steps h s t → Steps h t u → Steps h s u
  told : (rs : List Problem) (s : PlainStanding) → Steps h s (with_problems h rs s)
  name_more : (name : Text) (what : Meaning) (s : PlainStanding) → NamesNoType what → Steps h s (record s { scope = record s.scope { names = s.scope.names ++ record { name = name; what = what } ∷ [] } })
  tag_more : (name : Text) (what : Meaning) (s : PlainStanding) → NamesNoStructure what → Steps h s (record s { scope = record s.scope { tags = s.scope.tags ++ record { name = name; what = what } ∷ [] } })
  structure_more : (tag : Option Text) (s : PlainStanding) → Steps h s (record s { scope = record s.scope { structures = with_structure s.scope.structures tag } })
  structure_tagged : (name : Text) (s : PlainStanding) → Steps h s (record s { scope = with_tag s.scope name })
  bodies_open : (numbers : List ℕ) (s : PlainStanding) → Steps h s (record s { open_structures = numbers })
  members_taken : (word : Sign) (tag : Option (Identifier At)) (s t : PlainStanding) (members : List PlainMember) → Steps h s (begun_with h word tag s).standing → Steps h (begun_with h word tag s).standing t
      → takes_members t.scope.structures (begun_with h word tag s).number members ≡ true → nat_le (member_layout t.scope.structures members).bytes most_bytes ≡ true
      → Steps h s (record t { scope = record t.scope { structures = completed t.scope.structures (begun_with h word tag s).number members } })
  block_closed : (s t : PlainStanding) → Steps h (record s { scope = entered s.scope }) t → Steps h s (record t { scope = left t.scope })
