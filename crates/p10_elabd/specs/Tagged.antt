-- Tags of structures and enumerations (C99 6.7.2.3), and structures that are completed.
use Rattle.std.specs.Prelude.{ℕ, ◌-◌, Bool, true, false, not, ◌&&◌, nat_le, if◌then◌else◌, List, [], ◌∷◌, ◌++◌, Option, Some, None, is_some, length, take}
use Rattle.p10_base.specs.Words.{Text}
use Rattle.p10_base.specs.declared.at.At.{At}
use Rattle.p10_base.specs.declared.codes.SubsetCode.TheVariants as subset
use Rattle.p10_syn.specs.Trees.{Identifier}
use Rattle.p10_core.specs.Types.{PlainType, integer, structure, PlainMember}
use Rattle.p10_core.specs.Rows.{int_type, is_complete}
use Rattle.p10_core.specs.WholePrograms.{most_bytes, is_among}
use Rattle.p10_core.specs.Completing.{with_structure, member_layout, completed, takes_members}
use Rattle.p10_elabx.specs.First.{Keep}
use Rattle.p10_elabx.specs.Scopes.{Meaning, tagged_type, unknown_tag, tagged, declared}
use Rattle.p10_elabx.specs.Innermost.{tagged_here, hidden}
use Rattle.p10_elabd.specs.declared.known_tag.KnownTag.{KnownTag}
use Rattle.p10_elabd.specs.declared.known_tag.KnownTag.TheVariants as tag_is
use Rattle.p10_elabd.specs.Standing.{PlainStanding, Passed, passed, nothing_made, refusing}
use Rattle.p10_elabd.specs.Tags.{with_tag}

-- ## A tag without a body

-- what a tag stands for, as far as it counts where it is named
abbrev pub known_tag : Option Meaning → KnownTag
known_tag None = tag_is.Nothing
known_tag (Some (tagged_type (structure c n))) = tag_is.Structure c n
known_tag (Some (tagged_type (integer c i))) = tag_is.Enumeration
known_tag (Some (tagged_type t)) = tag_is.OtherType
known_tag (Some unknown_tag) = tag_is.Refused
known_tag (Some what) = tag_is.NoTag

-- the type of a structure by what its tag stands for: another kind of type has this tag, or it is declared here
abbrev pub structure_by_tag : Keep → KnownTag → Identifier At → PlainStanding → Passed PlainType
structure_by_tag h (tag_is.Structure c n) tag s = passed (structure c n) s
structure_by_tag h tag_is.Refused tag s = nothing_made s
structure_by_tag h tag_is.Nothing tag s = passed (structure false (length s.scope.structures)) (record s { scope = with_tag s.scope tag.name })
structure_by_tag h known tag s = nothing_made (refusing h true subset.DefinedTwice tag.place s)

-- `struct` with a tag and no body: as the whole of a declaration it declares the tag in its block (C99 6.7.2.3p7)
abbrev pub structure_named : Keep → Bool → Identifier At → PlainStanding → Passed PlainType
structure_named h alone tag s = structure_by_tag h (known_tag (if alone then tagged_here s.scope tag.name else tagged s.scope tag.name)) tag s

-- the type of an enumeration by what its tag stands for: `int`, where its constants are known
abbrev pub enumeration_by_tag : Keep → At → KnownTag → Identifier At → PlainStanding → Passed PlainType
enumeration_by_tag h at tag_is.Enumeration tag s = passed int_type s
enumeration_by_tag h at (tag_is.Structure c n) tag s = nothing_made (refusing h true subset.DefinedTwice tag.place s)
enumeration_by_tag h at tag_is.OtherType tag s = nothing_made (refusing h true subset.DefinedTwice tag.place s)
enumeration_by_tag h at tag_is.Refused tag s = nothing_made s
enumeration_by_tag h at known tag s = nothing_made (refusing h true subset.UnknownName at s)

-- `enum` with a tag and no constants
abbrev pub enumeration_named : Keep → At → Identifier At → PlainStanding → Passed PlainType
enumeration_named h at tag s = enumeration_by_tag h at (known_tag (tagged s.scope tag.name)) tag s

-- ## A structure with a body

-- what stands where a structure's members are declared, and its number
pub record Begun : Type 0 where
  pub number : ℕ
  pub standing : PlainStanding

-- one structure more, that no tag stands for
abbrev pub begun_anew : Option Text → PlainStanding → Begun
begun_anew tag s = record {
  number = length s.scope.structures;
  standing = record s { scope = record s.scope { structures = with_structure s.scope.structures tag } };
}

-- one structure more, with its tag
abbrev pub begun_with_tag : Text → PlainStanding → Begun
begun_with_tag tag s = record { number = length s.scope.structures; standing = record s { scope = with_tag s.scope tag } }

-- a body after the tag of something else in this block, or of a structure that has one
abbrev pub begun_twice : Keep → Identifier At → PlainStanding → Begun
begun_twice h tag s = begun_anew (Some tag.name) (refusing h true subset.DefinedTwice tag.place s)

-- a body after the tag of a structure of this block: it is completed where it isn't complete, nor is being completed
abbrev pub begun_known : Keep → Bool → ℕ → Identifier At → PlainStanding → Begun
begun_known h may n tag s =
    if may then record { number = n; standing = s } else begun_twice h tag s

-- whether the structure with a number may get its members
abbrev pub may_complete : PlainStanding → ℕ → Bool
may_complete s n = not (is_complete s.scope.structures (structure false n)) && not (is_among n s.open_structures)

-- a body by what its tag stands for in this block
abbrev pub begun_by_tag : Keep → KnownTag → Identifier At → PlainStanding → Begun
begun_by_tag h (tag_is.Structure c n) tag s = begun_known h (may_complete s n) n tag s
begun_by_tag h tag_is.Nothing tag s = begun_with_tag tag.name s
begun_by_tag h known tag s = begun_twice h tag s

-- where the members of a structure with a body stand
abbrev pub begun_for : Keep → Option (Identifier At) → PlainStanding → Begun
begun_for h None s = begun_anew None s
begun_for h (Some tag) s = begun_by_tag h (known_tag (tagged_here s.scope tag.name)) tag s

-- a structure is noted as one whose members are being declared
abbrev pub opened : Begun → Begun
opened b = record b { standing = record b.standing { open_structures = b.standing.open_structures ++ b.number ∷ [] } }

-- the same, where the structure is noted so
abbrev pub begun : Keep → Option (Identifier At) → PlainStanding → Begun
begun h tag s = opened (begun_for h tag s)

-- the members of the innermost of these structures are declared
abbrev pub ended : PlainStanding → PlainStanding
ended s = record s { open_structures = take (length s.open_structures - 1) s.open_structures }

-- ## Its end

-- members that may complete a structure: they make it no larger than a type may be (C99 6.7.2.1)
abbrev pub completed_small : Keep → At → ℕ → List PlainMember → PlainStanding → Passed PlainType
completed_small h at n members s =
    if nat_le (member_layout s.scope.structures members).bytes most_bytes
    then passed (structure false n) (record s { scope = record s.scope { structures = completed s.scope.structures n members } })
    else nothing_made (refusing h true subset.BadLength at s)

-- members of a structure: each was looked at where it was declared, so that they may complete it
abbrev pub completed_by : Keep → At → ℕ → List PlainMember → PlainStanding → Passed PlainType
completed_by h at n members s =
    if takes_members s.scope.structures n members then completed_small h at n members s else nothing_made s

-- a tag whose structure is refused
abbrev pub with_unknown_tag : Option (Identifier At) → PlainStanding → PlainStanding
with_unknown_tag None s = s
with_unknown_tag (Some tag) s = record s { scope = declared s.scope tag.name unknown_tag }

-- a structure with the members that were made
abbrev pub structure_made : Keep → At → Option (Identifier At) → ℕ → Option (List PlainMember) → PlainStanding → Passed PlainType
structure_made h at tag n None s = nothing_made (with_unknown_tag tag s)
structure_made h at tag n (Some members) s = completed_by h at n members s

-- ## An enumeration with constants

-- a tag that is being defined names nothing yet
abbrev pub with_hidden_tag : Option (Identifier At) → PlainStanding → PlainStanding
with_hidden_tag None s = s
with_hidden_tag (Some tag) s = record s { scope = hidden s.scope tag.name }

-- the tag of an enumeration that has its constants
abbrev pub with_enumeration : Option (Identifier At) → PlainStanding → PlainStanding
with_enumeration None s = s
with_enumeration (Some tag) s = record s { scope = declared s.scope tag.name (tagged_type int_type) }

-- whether a tag stands for something in this block
abbrev pub is_tag_taken : Option (Identifier At) → PlainStanding → Bool
is_tag_taken None s = false
is_tag_taken (Some tag) s = is_some (tagged_here s.scope tag.name)

-- the tag of an enumeration with constants: it stands for nothing in this block yet
abbrev pub enumeration_begun : Keep → Option (Identifier At) → PlainStanding → PlainStanding
enumeration_begun h None s = s
enumeration_begun h (Some tag) s =
    with_hidden_tag (Some tag) (refusing h (is_tag_taken (Some tag) s) subset.DefinedTwice tag.place s)
