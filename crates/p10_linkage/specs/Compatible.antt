-- Compatible types of two roots (C99 6.2.7): two structures are compatible that have the same tag, or both none, and the same members in
-- order with compatible types; one that isn't complete is compatible with any of its tag.
use Rattle.std.specs.Prelude.{ℕ, zero, suc, ◌*◌, nat_eq, Bool, true, false, ◌&&◌, ◌||◌, if◌then◌else◌, List, [], ◌∷◌, ◌++◌, length, slice_get, Option, Some, None, is_some, bytes_eq}
use Rattle.std.specs.Bool.{beq}
use Rattle.p10_core.specs.Types.{PlainType, void, integer, pointer, array, structure, PlainMember, PlainBody, PlainStructure, body_of}
use Rattle.p10_core.specs.Rows.{same_integer}
use Rattle.p10_linkage.specs.Linkage.{LinkedType, an_object, is_function, parameters_of, known_result, lists_agree, is_none_listed, Linked}
use Rattle.p10_linkage.specs.Uniting.{and_then, tagged_alike}

-- pairs of structures that were compared
abbrev pub Pairs : Type 0
Pairs = List (ℕ × ℕ)

-- whether two structures were
abbrev pub were_met : ℕ → ℕ → Pairs → Bool
were_met m n [] = false
were_met m n ((i, j) ∷ rest) = (nat_eq i m && nat_eq j n) || were_met m n rest

-- whether two structures are one, or were compared
abbrev pub is_settled : ℕ → ℕ → Pairs → Bool
is_settled m n pairs = nat_eq m n || were_met m n pairs

-- members in pairs that have the same names, by what is done with their types
abbrev pub members_compatible : (PlainType → PlainType → Pairs → Option Pairs) → List PlainMember → List PlainMember → Pairs → Option Pairs
members_compatible compare [] [] pairs = Some pairs
members_compatible compare (m ∷ ms) (k ∷ ks) pairs =
    if bytes_eq m.name k.name then and_then (compare m.type k.type pairs) (members_compatible compare ms ks) else None
members_compatible compare ms ks pairs = None

-- the bodies of two structures: one that isn't complete goes with any
abbrev pub bodies_compatible : (PlainType → PlainType → Pairs → Option Pairs) → Option PlainBody → Option PlainBody → Pairs → Option Pairs
bodies_compatible compare (Some a) (Some b) pairs = members_compatible compare a.members b.members pairs
bodies_compatible compare a b pairs = Some pairs

-- two structures that weren't compared before
abbrev pub structures_compatible : (PlainType → PlainType → Pairs → Option Pairs) → List PlainStructure → ℕ → ℕ → Pairs → Option Pairs
structures_compatible compare structures m n pairs =
    if tagged_alike (slice_get structures m) (slice_get structures n)
    then bodies_compatible compare (body_of structures m) (body_of structures n) (pairs ++ (m, n) ∷ []) else None

-- two structures, by what is done with those that weren't compared before
abbrev pub unless_met : (Pairs → Option Pairs) → ℕ → ℕ → Pairs → Option Pairs
unless_met compare m n pairs = if is_settled m n pairs then Some pairs else compare pairs

-- two types, where structures that lie in them are dealt with so; their marks are the same
abbrev pub types_compatible : (ℕ → ℕ → Pairs → Option Pairs) → PlainType → PlainType → Pairs → Option Pairs
types_compatible compare (void c) (void d) pairs = if beq c d then Some pairs else None
types_compatible compare (integer c i) (integer d j) pairs = if beq c d && same_integer i j then Some pairs else None
types_compatible compare (pointer c t) (pointer d u) pairs = if beq c d then types_compatible compare t u pairs else None
types_compatible compare (array c t m) (array d u n) pairs = if nat_eq m n then types_compatible compare t u pairs else None
types_compatible compare (structure c m) (structure d n) pairs = if beq c d then compare m n pairs else None
types_compatible compare t u pairs = None

-- two structures, where so many pairs more may be compared
abbrev pub compatible_within : ℕ → List PlainStructure → ℕ → ℕ → Pairs → Option Pairs
compatible_within zero structures m n pairs = unless_met (λ ps. None) m n pairs
compatible_within (suc more) structures m n pairs =
    unless_met (structures_compatible (types_compatible (compatible_within more structures)) structures m n) m n pairs

-- two types, after pairs that were compared: there are no more pairs than of all structures
abbrev pub compatible_after : List PlainStructure → PlainType → PlainType → Pairs → Option Pairs
compatible_after structures t u pairs =
    types_compatible (compatible_within (length structures * length structures) structures) t u pairs

-- whether two types are compatible
abbrev pub is_compatible : List PlainStructure → PlainType → PlainType → Bool
is_compatible structures t u = is_some (compatible_after structures t u [])

-- whether two types are, as far as both are known
abbrev pub known_compatible : List PlainStructure → Option PlainType → Option PlainType → Bool
known_compatible structures (Some t) (Some u) = is_compatible structures t u
known_compatible structures t u = true

-- whether types of parameters are, in order
abbrev pub parameters_compatible : List PlainStructure → List (Option PlainType) → List (Option PlainType) → Bool
parameters_compatible structures [] [] = true
parameters_compatible structures (t ∷ ts) (u ∷ us) = known_compatible structures t u && parameters_compatible structures ts us
parameters_compatible structures ts us = false

-- whether two declarations of functions are (C99 6.7.5.3p15)
abbrev pub functions_compatible : List PlainStructure → Linked → Linked → Bool
functions_compatible structures before now =
    lists_agree before.defines now.defines before.type now.type
    && (known_compatible structures (known_result before.type) (known_result now.type)
    && (is_none_listed before.type now.type || parameters_compatible structures (parameters_of before.type) (parameters_of now.type)))

-- whether two declarations are, of which one is of no function
abbrev pub objects_compatible : List PlainStructure → LinkedType → LinkedType → Bool
objects_compatible structures (an_object t) (an_object u) = is_compatible structures t u
objects_compatible structures t u = beq (is_function t) (is_function u)

-- whether the types of two declarations are compatible
abbrev pub are_compatible : List PlainStructure → Linked → Linked → Bool
are_compatible structures before now =
    if is_function before.type && is_function now.type then functions_compatible structures before now
    else objects_compatible structures before.type now.type
