-- Members of structures and constants of enumerations (C99 6.7.2.1, 6.7.2.2), one at a time.
use Rattle.std.specs.Prelude.{ℤ, pos, ◌+ℤ◌, Bool, true, false, ◌||◌, if◌then◌else◌, List, [], ◌∷◌, ◌++◌, Option, Some, None, bytes_eq}
use Rattle.p10_base.specs.Words.{Text}
use Rattle.p10_base.specs.declared.at.At.{At}
use Rattle.p10_base.specs.declared.codes.SubsetCode.TheVariants as subset
use Rattle.p10_int.specs.declared.types.IntType.TheVariants.{Int}
use Rattle.p10_int.specs.Types.{holds}
use Rattle.p10_syn.specs.Trees.{Identifier, Optional, Absent, Present}
use Rattle.p10_core.specs.Types.{PlainType, PlainMember}
use Rattle.p10_core.specs.Rows.{is_complete}
use Rattle.p10_elabx.specs.First.{Keep}
use Rattle.p10_elabx.specs.Scopes.{Meaning, number, unknown_name}
use Rattle.p10_elabd.specs.Standing.{PlainStanding, Passed, passed, nothing_made, refusing}
use Rattle.p10_elabd.specs.Expressions.{value_by, constant_number}
use Rattle.p10_elabd.specs.Blocks.{declaring}
use Rattle.p10_elabd.specs.Shapes.{DeclaredType, of_type, of_open_array, of_function, of_part_function}

-- ## Members

-- the type of a member: it has a size (C99 6.7.2.1p2); a function, or an array without a length, is refused by its form
abbrev pub member_type : Keep → At → DeclaredType → PlainStanding → Passed PlainType
member_type h name_at (of_type t) s =
    if is_complete s.scope.structures t then passed t s else nothing_made (refusing h true subset.IncompleteType name_at s)
member_type h name_at (of_open_array t) s = nothing_made s
member_type h name_at (of_function f) s = nothing_made s
member_type h name_at (of_part_function f) s = nothing_made s

-- the type of a member that may be refused
abbrev pub member_declared : Keep → At → Option DeclaredType → PlainStanding → Passed PlainType
member_declared h name_at None s = nothing_made s
member_declared h name_at (Some d) s = member_type h name_at d s

-- a bit-field isn't in the subset; its width is judged all the same
abbrev pub with_width : Keep → At → Optional At → PlainStanding → PlainStanding
with_width h at Absent s = s
with_width h at (Present e) s = (value_by h (refusing h true subset.UnionOrBitField at s) e constant_number).after

-- the members so far with one more
abbrev pub member_added : Option (List PlainMember) → Option (Identifier At) → Option PlainType → Option (List PlainMember)
member_added (Some members) (Some name) (Some t) = Some (members ++ record { name = name.name; type = t } ∷ [])
member_added members name t = None

-- whether one of the members has a name
abbrev pub has_name : Text → List PlainMember → Bool
has_name name [] = false
has_name name (m ∷ rest) = bytes_eq m.name name || has_name name rest

-- whether a member has this name already
abbrev pub is_member : Option (List PlainMember) → Option (Identifier At) → Bool
is_member (Some members) (Some name) = has_name name.name members
is_member members name = false

-- a member after others: its name is another one (C99 6.7p3)
abbrev pub with_member : Keep → At → Option (List PlainMember) → Option (Identifier At) → Passed PlainType → Passed (List PlainMember)
with_member h name_at members name t =
    record { made = member_added members name t.made; after = refusing h (is_member members name) subset.DefinedTwice name_at t.after }

-- ## Constants of enumerations

-- the value of a constant: that which is written, or one more than the constant before it
abbrev pub enumerator_value : Keep → Option ℤ → Optional At → PlainStanding → Passed ℤ
enumerator_value h next Absent s = record { made = next; after = s }
enumerator_value h next (Present e) s = value_by h s e constant_number

-- a constant is a value of `int` (C99 6.7.2.2p2)
abbrev pub int_value : Keep → At → Option ℤ → PlainStanding → Passed ℤ
int_value h at None s = nothing_made s
int_value h at (Some z) s = if holds Int z then passed z s else nothing_made (refusing h true subset.ConstantStops at s)

-- what a constant's name stands for
abbrev pub enumerator_meaning : Option ℤ → Meaning
enumerator_meaning None = unknown_name
enumerator_meaning (Some z) = number z

-- the value of the constant after one
abbrev pub value_after : Option ℤ → Option ℤ
value_after None = None
value_after (Some z) = Some (z +ℤ pos 1)

-- a constant, and the value of the next one
abbrev pub enumerator_passed : Keep → Option ℤ → Identifier At → Optional At → PlainStanding → Passed ℤ
enumerator_passed h next name value s =
    let written : Passed ℤ = enumerator_value h next value s in
    let found : Passed ℤ = int_value h name.place written.made written.after in
    record { made = value_after found.made; after = declaring h name (enumerator_meaning found.made) found.after }
