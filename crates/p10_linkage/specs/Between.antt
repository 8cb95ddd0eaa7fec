-- Declarations with external linkage of different roots: what they name is one function or object, so their types have to be one (C99
-- 6.2.7).
use Rattle.std.specs.Prelude.{nat_eq, Bool, true, false, not, ◌&&◌, ◌||◌, if◌then◌else◌, List, [], ◌∷◌, ◌++◌, Option, Some, None, bytes_eq}
use Rattle.std.specs.Bool.{beq}
use Rattle.p10_base.specs.declared.codes.SubsetCode.TheVariants as subset
use Rattle.p10_core.specs.Types.{PlainType, PlainStructure}
use Rattle.p10_elabx.specs.First.{Keep}
use Rattle.p10_elabd.specs.Standing.{PlainStanding, refusing}
use Rattle.p10_heads.specs.Heads.{Head, Heads}
use Rattle.p10_linkage.specs.Linkage.{LinkedType, an_object, is_function, parameters_of, known_result, lists_agree, is_none_listed, Linked}
use Rattle.p10_linkage.specs.Compatible.{are_compatible}
use Rattle.p10_linkage.specs.Uniting.{and_then, united}

-- two types as one, as far as both are known
abbrev pub known_united : Option PlainType → Option PlainType → List PlainStructure → Option (List PlainStructure)
known_united (Some t) (Some u) structures = united t u structures
known_united t u structures = Some structures

-- types of parameters as one, in order
abbrev pub parameters_united : List (Option PlainType) → List (Option PlainType) → List PlainStructure → Option (List PlainStructure)
parameters_united [] [] structures = Some structures
parameters_united (t ∷ ts) (u ∷ us) structures = and_then (known_united t u structures) (parameters_united ts us)
parameters_united ts us structures = None

-- the parameters of two declarations of a function as one: where one has `()` there is nothing to compare
abbrev pub listed_united : LinkedType → LinkedType → List PlainStructure → Option (List PlainStructure)
listed_united t u structures =
    if is_none_listed t u then Some structures else parameters_united (parameters_of t) (parameters_of u) structures

-- two declarations of a function as one
abbrev pub functions_united : Linked → Linked → List PlainStructure → Option (List PlainStructure)
functions_united before now structures =
    if lists_agree before.defines now.defines before.type now.type
    then and_then (known_united (known_result before.type) (known_result now.type) structures) (listed_united before.type now.type) else None

-- two declarations as one, of which one is of no function
abbrev pub objects_united : LinkedType → LinkedType → List PlainStructure → Option (List PlainStructure)
objects_united (an_object t) (an_object u) structures = united t u structures
objects_united t u structures = if beq (is_function t) (is_function u) then Some structures else None

-- the types of two declarations as one
abbrev pub linked_united : Linked → Linked → List PlainStructure → Option (List PlainStructure)
linked_united before now structures =
    if is_function before.type && is_function now.type then functions_united before now structures
    else objects_united before.type now.type structures

-- whether a declaration of another root names the same function or object
abbrev pub is_other : Linked → Linked → Bool
is_other before now = not (nat_eq before.root now.root) && (bytes_eq before.name now.name && not (before.internal || now.internal))

-- what two declarations make of the structures, whose types are compatible where they can't become one: where a structure isn't complete
-- in one root, it may be compatible with several that aren't with each other
abbrev pub unless_compatible : Linked → Linked → List PlainStructure → Option (List PlainStructure) → Option (List PlainStructure)
unless_compatible before now structures (Some after) = Some after
unless_compatible before now structures None = if are_compatible structures before now then Some structures else None

-- a declaration with one of another root before it: the structures then, or none
abbrev pub agreed_with : Linked → Linked → List PlainStructure → Option (List PlainStructure)
agreed_with before now structures =
    if is_other before now
    then (if beq before.sensor now.sensor then unless_compatible before now structures (linked_united before now structures) else None)
    else Some structures

-- a declaration with all before it
abbrev pub agreed : List Linked → Linked → List PlainStructure → Option (List PlainStructure)
agreed [] now structures = Some structures
agreed (before ∷ rest) now structures = and_then (agreed_with before now structures) (agreed rest now)

-- what stands after a declaration by the structures then; where there are none it doesn't agree with those of roots before
abbrev pub agreed_noted : Keep → Linked → PlainStanding → Option (List PlainStructure) → PlainStanding
agreed_noted h now s None = refusing h true subset.DefinedTwice now.at s
agreed_noted h now s (Some structures) = record s { scope = record s.scope { structures = structures } }

-- a declaration after those before it
abbrev pub agreeing : Keep → List Linked → Linked → PlainStanding → PlainStanding
agreeing h before now s = agreed_noted h now s (agreed before now s.scope.structures)

-- declarations after those before them
abbrev pub all_agreeing : Keep → List Linked → List Linked → PlainStanding → PlainStanding
all_agreeing h before [] s = s
all_agreeing h before (l ∷ rest) s = all_agreeing h (before ++ l ∷ []) rest (agreeing h before l s)

-- whether a definition of another root has the same name
abbrev pub is_defined_before : List Head → Head → Bool
is_defined_before [] f = false
is_defined_before (g ∷ rest) f =
    (bytes_eq g.name f.name && (not (g.internal || f.internal) && (not (g.in_block || f.in_block) && not (nat_eq g.root f.root)))) || is_defined_before rest f

-- definitions after those before them: no name with external linkage is defined in two roots (C99 6.9p5)
abbrev pub definitions_noted : Keep → List Head → List Head → PlainStanding → PlainStanding
definitions_noted h before [] s = s
definitions_noted h before (f ∷ rest) s =
    definitions_noted h (before ++ f ∷ []) rest (refusing h (is_defined_before before f) subset.DefinedTwice f.at s)

-- what stands after the roots are taken together
unfoldable pub taken_together : Keep → Heads → List Linked → PlainStanding → PlainStanding
taken_together h heads linked s =
    definitions_noted h [] heads.objects (definitions_noted h [] heads.functions (all_agreeing h [] linked s))
