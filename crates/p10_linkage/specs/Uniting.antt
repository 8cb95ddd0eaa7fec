-- Types of two roots as one type (C99 6.2.7): structures that lie in them become one.
use Rattle.std.specs.Prelude.{ℕ, zero, suc, nat_eq, Bool, true, false, ◌&&◌, if◌then◌else◌, List, [], ◌∷◌, map, length, slice_get, Option, Some, None, is_some, bytes_eq}
use Rattle.std.specs.Bool.{beq}
use Rattle.p10_base.specs.Words.{Text}
use Rattle.p10_core.specs.Types.{PlainType, void, integer, pointer, array, structure, PlainMember, PlainBody, PlainStructure, body_of, representative_of}
use Rattle.p10_core.specs.Rows.{same_integer}

-- whether two tags are the same, or there is none
abbrev pub same_tags : Option Text → Option Text → Bool
same_tags (Some a) (Some b) = bytes_eq a b
same_tags None None = true
same_tags a b = false

-- whether two structures have the same tag, or neither has one; what isn't there is like no structure
abbrev pub tagged_alike : Option PlainStructure → Option PlainStructure → Bool
tagged_alike (Some s) (Some t) = same_tags s.tag t.tag
tagged_alike s t = false

-- the structures, of which those for which one stands have another one that stands for them
abbrev pub standing_for : ℕ → ℕ → List PlainStructure → List PlainStructure
standing_for old new structures = map (λ (s : PlainStructure). record s { representative = if nat_eq s.representative old then new else s.representative }) structures

-- of two structures the one that stands for both: the first, unless it isn't complete
abbrev pub stands_for_both : List PlainStructure → ℕ → ℕ → List PlainStructure
stands_for_both structures m n =
    if is_some (body_of structures m) then standing_for n m structures else standing_for m n structures

-- one thing after another that may fail
abbrev pub and_then : {A : Type 0} → Option A → (A → Option A) → Option A
and_then None go = None
and_then (Some a) go = go a

-- members in pairs that have the same names, by what is done with their types
abbrev pub members_united : (PlainType → PlainType → List PlainStructure → Option (List PlainStructure)) → List PlainMember → List PlainMember → List PlainStructure → Option (List PlainStructure)
members_united unite [] [] structures = Some structures
members_united unite (m ∷ ms) (k ∷ ks) structures =
    if bytes_eq m.name k.name then and_then (unite m.type k.type structures) (members_united unite ms ks) else None
members_united unite ms ks structures = None

-- the bodies of two structures: their members are the same in order, and one that isn't complete agrees with any
abbrev pub bodies_united : (PlainType → PlainType → List PlainStructure → Option (List PlainStructure)) → Option PlainBody → Option PlainBody → List PlainStructure → Option (List PlainStructure)
bodies_united unite (Some a) (Some b) structures = members_united unite a.members b.members structures
bodies_united unite a b structures = Some structures

-- two structures as one: they have the same tag and the same members
abbrev pub structures_united : (PlainType → PlainType → List PlainStructure → Option (List PlainStructure)) → ℕ → ℕ → List PlainStructure → Option (List PlainStructure)
structures_united unite m n structures =
    if nat_eq m n then Some structures
    else (if tagged_alike (slice_get structures m) (slice_get structures n)
    then bodies_united unite (body_of structures m) (body_of structures n) (stands_for_both structures m n) else None)

-- two types as one, by what is done with the structures that lie in them; their marks are the same, which of an array stand at its elements
abbrev pub types_united : (ℕ → ℕ → List PlainStructure → Option (List PlainStructure)) → PlainType → PlainType → List PlainStructure → Option (List PlainStructure)
types_united unite (void c) (void d) structures = if beq c d then Some structures else None
types_united unite (integer c i) (integer d j) structures = if beq c d && same_integer i j then Some structures else None
types_united unite (pointer c t) (pointer d u) structures = if beq c d then types_united unite t u structures else None
types_united unite (array c t m) (array d u n) structures = if nat_eq m n then types_united unite t u structures else None
types_united unite (structure c m) (structure d n) structures =
    if beq c d then unite (representative_of structures m) (representative_of structures n) structures else None
types_united unite t u structures = None

-- two structures as one, where this many more pairs may become one: there are no more of these than structures
abbrev pub united_within : ℕ → ℕ → ℕ → List PlainStructure → Option (List PlainStructure)
united_within zero m n structures = if nat_eq m n then Some structures else None
united_within (suc pairs) m n structures = structures_united (types_united (united_within pairs)) m n structures

-- two types as one: the structures in which they are, or none where they can't be
abbrev pub united : PlainType → PlainType → List PlainStructure → Option (List PlainStructure)
united t u structures = types_united (united_within (length structures)) t u structures
