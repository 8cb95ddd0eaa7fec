-- Where roots are taken together structures become one, and stay else as they are.
use Rattle.std.proofs.Common.{◌≡◌, ◌∙◌, sym, refl, ap, subst, arith, ◌≤◌, Bool, true, false, ◌&&◌, List, [], ◌∷◌, ◌++◌, Option, Some, None, is_some, slice_get}
use Rattle.std.specs.Prelude.{if◌then◌else◌}
use Rattle.std.specs.Bool.{beq}
use Rattle.p10_base.specs.declared.at.At.{At}
use Rattle.p10_base.specs.declared.codes.SubsetCode.{SubsetCode}
use Rattle.p10_base.specs.declared.codes.SubsetCode.TheVariants as subset
use Rattle.p10_syn.specs.Trees.{External}
use Rattle.p10_core.specs.Types.{PlainType, void, integer, pointer, array, structure, PlainStructure, members_in}
use Rattle.p10_core.specs.Sizes.{size_of}
use Rattle.p10_core.specs.Rows.{is_complete}
use Rattle.p10_core.specs.Whole.{Surroundings}
use Rattle.p10_core.specs.WholePrograms.{most_bytes, IsWholeType}
use Rattle.p10_core.specs.Completing.{AreBuilt}
use Rattle.p10_core.proofs.Completing.{none_are_built}
use Rattle.p10_elabx.specs.First.{Keep}
use Rattle.p10_elabd.specs.Standing.{PlainStanding, refusing}
use Rattle.p10_heads.specs.Heads.{Head, Heads, heads_of_roots}
use Rattle.p10_linkage.specs.Linkage.{LinkedType, a_function, an_object, unknown_object, a_part_function, is_function, parameters_of, known_result, lists_agree, is_none_listed, Linked}
use Rattle.p10_linkage.specs.Compatible.{are_compatible}
use Rattle.p10_linkage.specs.Uniting.{and_then, united}
use Rattle.p10_linkage.specs.Between.{known_united, parameters_united, listed_united, functions_united, objects_united, linked_united, is_other, unless_compatible, agreed_with, agreed, agreed_noted, agreeing, all_agreeing, is_defined_before, definitions_noted, taken_together}
use Rattle.p10_linkage.proofs.Joining.{IsJoined, StandsWell, IsKept, bare_joined, kept_itself, kept_on}
use Rattle.p10_linkage.proofs.OneType.{united_kept, built_stands, kept_built}
use Rattle.p10_linkage.proofs.LyingAlike.{layout_alike}
use Rattle.p10_elab.specs.Knowledge.{Known}
use Rattle.p10_elab.specs.RootEnds.{nothing_known}
use Rattle.p10_elab.specs.Programs.{known_of, whole_of}
use Rattle.p10_wholeness.specs.Knowing.{KnowMore}
use Rattle.p10_wholeness.proofs.Knowing.{alike_itself}
use Rattle.p10_root_wholeness.specs.Laws.{StructuresAreWhole, structures_of, RootsAreKnown}
use Rattle.p10_root_steps.proofs.Passing.{over_roots}
use Rattle.p10_root_wholeness.proofs.BuildingOutside.{built_outside}

-- where there are structures, they are some structures of which more may be joined
abbrev MaybeKept : List PlainStructure → Option (List PlainStructure) → Type 0
MaybeKept start None = Unit {0}
MaybeKept start (Some ss) = IsKept start ss

-- what joins structures, and leaves them else as they are
abbrev Joins : (List PlainStructure → Option (List PlainStructure)) → Type 0
Joins go = (start ss : List PlainStructure) → IsKept start ss → MaybeKept start (go ss)

maybe_by : (start : List PlainStructure) (o : Option (List PlainStructure)) → ((ss : List PlainStructure) → o ≡ Some ss → IsKept start ss) → MaybeKept start o
maybe_by start None go = tt
maybe_by start (Some ss) go = go ss refl

either_kept : (start : List PlainStructure) (b : Bool) (o p : Option (List PlainStructure)) → MaybeKept start o → MaybeKept start p → MaybeKept start (if b then o else p)
either_kept start true o p h k = h
either_kept start false o p h k = k

then_kept : (start : List PlainStructure) (o : Option (List PlainStructure)) (go : List PlainStructure → Option (List PlainStructure)) → MaybeKept start o → Joins go → MaybeKept start (and_then o go)
then_kept start None go h k = tt
then_kept start (Some ss) go h k = k start ss h

-- ## Types of declarations

types_kept : (t u : PlainType) → Joins (united t u)
types_kept t u start ss k = maybe_by start (united t u ss) (λ ts e. kept_on start ss ts k (united_kept t u ss ts k.stands e).0)

known_kept : (t u : Option PlainType) → Joins (known_united t u)
known_kept (Some t) (Some u) start ss k = types_kept t u start ss k
known_kept (Some t) None start ss k = k
known_kept None u start ss k = k

parameters_kept : (ts us : List (Option PlainType)) → Joins (parameters_united ts us)
parameters_kept [] [] start ss k = k
parameters_kept (t ∷ ts) (u ∷ us) start ss k = then_kept start (known_united t u ss) (parameters_united ts us) (known_kept t u start ss k) (parameters_kept ts us)
parameters_kept [] (u ∷ us) start ss k = tt
parameters_kept (t ∷ ts) [] start ss k = tt

listed_kept : (t u : LinkedType) → Joins (listed_united t u)
listed_kept t u start ss k =
    either_kept start (is_none_listed t u) (Some ss) (parameters_united (parameters_of t) (parameters_of u) ss) k (parameters_kept (parameters_of t) (parameters_of u) start ss k)

functions_kept : (before now : Linked) → Joins (functions_united before now)
functions_kept before now start ss k =
    either_kept start (lists_agree before.defines now.defines before.type now.type) (and_then (known_united (known_result before.type) (known_result now.type) ss) (listed_united before.type now.type)) None
    (then_kept start (known_united (known_result before.type) (known_result now.type) ss) (listed_united before.type now.type) (known_kept (known_result before.type) (known_result now.type) start ss k) (listed_kept before.type now.type)) tt

alike_kept : (t u : LinkedType) (start ss : List PlainStructure) → IsKept start ss → MaybeKept start (if beq (is_function t) (is_function u) then Some ss else None)
alike_kept t u start ss k = either_kept start (beq (is_function t) (is_function u)) (Some ss) None k tt

objects_kept : (t u : LinkedType) → Joins (objects_united t u)
objects_kept (an_object t) (an_object u) start ss k = types_kept t u start ss k
objects_kept (an_object t) (a_function ts r) start ss k = alike_kept (an_object t) (a_function ts r) start ss k
objects_kept (an_object t) (a_part_function p) start ss k = alike_kept (an_object t) (a_part_function p) start ss k
objects_kept (an_object t) unknown_object start ss k = alike_kept (an_object t) unknown_object start ss k
objects_kept (a_function ts r) u start ss k = alike_kept (a_function ts r) u start ss k
objects_kept (a_part_function p) u start ss k = alike_kept (a_part_function p) u start ss k
objects_kept unknown_object u start ss k = alike_kept unknown_object u start ss k

linked_kept : (before now : Linked) → Joins (linked_united before now)
linked_kept before now start ss k =
    either_kept start (is_function before.type && is_function now.type) (functions_united before now ss) (objects_united before.type now.type ss) (functions_kept before now start ss k) (objects_kept before.type now.type start ss k)

-- ## Declarations

unless_kept : (before now : Linked) (start ss : List PlainStructure) (o : Option (List PlainStructure)) → IsKept start ss → MaybeKept start o → MaybeKept start (unless_compatible before now ss o)
unless_kept before now start ss (Some ts) k h = h
unless_kept before now start ss None k h = either_kept start (are_compatible ss before now) (Some ss) None k tt

with_kept : (before now : Linked) → Joins (agreed_with before now)
with_kept before now start ss k =
    let one : Option (List PlainStructure) = unless_compatible before now ss (linked_united before now ss) in
    either_kept start (is_other before now) (if beq before.sensor now.sensor then one else None) (Some ss)
    (either_kept start (beq before.sensor now.sensor) one None (unless_kept before now start ss (linked_united before now ss) k (linked_kept before now start ss k)) tt) k

agreed_kept : (before : List Linked) (now : Linked) → Joins (agreed before now)
agreed_kept [] now start ss k = k
agreed_kept (b ∷ rest) now start ss k = then_kept start (agreed_with b now ss) (agreed rest now) (with_kept b now start ss k) (agreed_kept rest now)

-- what stands has structures of which more may be joined
abbrev KeptFrom : List PlainStructure → PlainStanding → Type 0
KeptFrom start s = IsKept start s.scope.structures

refusing_kept : (start : List PlainStructure) (h : Keep) (b : Bool) (code : SubsetCode) (at : At) (s : PlainStanding) → KeptFrom start s → KeptFrom start (refusing h b code at s)
refusing_kept start h true code at s k = k
refusing_kept start h false code at s k = k

noted_kept : (start : List PlainStructure) (h : Keep) (now : Linked) (s : PlainStanding) (o : Option (List PlainStructure)) → KeptFrom start s → MaybeKept start o → KeptFrom start (agreed_noted h now s o)
noted_kept start h now s None k m = refusing_kept start h true subset.DefinedTwice now.at s k
noted_kept start h now s (Some ss) k m = m

all_kept : (start : List PlainStructure) (h : Keep) (before rest : List Linked) (s : PlainStanding) → KeptFrom start s → KeptFrom start (all_agreeing h before rest s)
all_kept start h before [] s k = k
all_kept start h before (l ∷ rest) s k =
    all_kept start h (before ++ l ∷ []) rest (agreeing h before l s)
    (noted_kept start h l s (agreed before l s.scope.structures) k (agreed_kept before l start s.scope.structures k))

definitions_kept : (start : List PlainStructure) (h : Keep) (before rest : List Head) (s : PlainStanding) → KeptFrom start s → KeptFrom start (definitions_noted h before rest s)
definitions_kept start h before [] s k = k
definitions_kept start h before (f ∷ rest) s k =
    definitions_kept start h (before ++ f ∷ []) rest (refusing h (is_defined_before before f) subset.DefinedTwice f.at s) (refusing_kept start h (is_defined_before before f) subset.DefinedTwice f.at s k)

together_kept : (h : Keep) (heads : Heads) (linked : List Linked) (s : PlainStanding) → StandsWell s.scope.structures → KeptFrom s.scope.structures (taken_together h heads linked s)
unfolding taken_together
together_kept h heads linked s well =
    let start : List PlainStructure = s.scope.structures in
    let t : PlainStanding = all_agreeing h [] linked s in
    definitions_kept start h [] heads.objects (definitions_noted h [] heads.functions t) (definitions_kept start h [] heads.functions t (all_kept start h [] linked s (kept_itself start well)))

-- ## Roots

roots_built : (h : Keep) (roots : List (List (External At))) → AreBuilt (structures_of h roots)
unfolding known_of
roots_built h roots = (built_outside (over_roots h (heads_of_roots 0 roots) nothing_known roots)).built none_are_built

roots_kept : (h : Keep) (roots : List (List (External At))) → IsKept (structures_of h roots) (whole_of h roots).structures
roots_kept h roots =
    let k : Known = known_of h roots in
    together_kept h (heads_of_roots 0 roots) k.linked k.standing (built_stands k.standing.scope.structures (roots_built h roots))

pub structures_are_whole : StructuresAreWhole
structures_are_whole h roots = (kept_built (structures_of h roots) (whole_of h roots).structures (roots_built h roots) (roots_kept h roots)).whole

-- ## What is known

complete_joined : (ss ts : List PlainStructure) → IsJoined ss ts → (t : PlainType) → is_complete ts t ≡ is_complete ss t
complete_joined ss ts j (void c) = refl
complete_joined ss ts j (integer c i) = refl
complete_joined ss ts j (pointer c t) = refl
complete_joined ss ts j (array c t n) = complete_joined ss ts j t
complete_joined ss ts j (structure c n) = ap is_some (j.bodies n)

size_joined : (ss ts : List PlainStructure) → IsJoined ss ts → (t : PlainType) → size_of ts t ≡ size_of ss t
size_joined ss ts j t = (layout_alike ts ss j.long j.bodies t).bytes

type_joined : (ss ts : List PlainStructure) → IsJoined ss ts → (t : PlainType) → IsWholeType ss t → IsWholeType ts t
type_joined ss ts j (void c) h = tt
type_joined ss ts j (integer c i) h = tt
type_joined ss ts j (pointer c t) h = (type_joined ss ts j t h.0, h.1)
type_joined ss ts j (array c t n) h =
    (type_joined ss ts j t h.0, complete_joined ss ts j t ∙ h.1, h.2, subst (λ k. k ≤ most_bytes) (sym (size_joined ss ts j (array c t n))) h.3)
type_joined ss ts j (structure c n) h = omega (arith, h, j.long)

known_joined : (c : Surroundings) (ss ts : List PlainStructure) → IsJoined ss ts → KnowMore (record c { structures = ss }) (record c { structures = ts })
known_joined c ss ts j = record {
  complete = λ t e. complete_joined ss ts j t ∙ e;
  members = λ n m entry is. ap (λ o. slice_get (members_in o) m) (j.bodies n) ∙ is;
  one_type = bare_joined ss ts j;
  variables = λ n v is. is;
  objects = λ n o is. record { seen = o; there = is; type_is = refl; sensor_is = refl };
  functions = λ n f is. record { seen = f; there = is; parameters = alike_itself ts f.parameters; result = refl };
}

pub roots_are_known : RootsAreKnown
roots_are_known = record {
  known = λ h roots c. known_joined c (structures_of h roots) (whole_of h roots).structures (roots_kept h roots).joined;
  types = λ h roots t. type_joined (structures_of h roots) (whole_of h roots).structures (roots_kept h roots).joined t;
  sizes = λ h roots t. size_joined (structures_of h roots) (whole_of h roots).structures (roots_kept h roots).joined t;
}
