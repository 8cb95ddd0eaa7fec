-- Where roots are taken together, structures keep their bodies.
use Rattle.std.proofs.Common.{◌≡◌, Bool, true, false, ◌&&◌, if◌then◌else◌, List, [], ◌∷◌, ◌++◌, Option, Some, None, ◌⊎◌, inl, inr, refl, sym, subst}
use Rattle.std.specs.Bool.{beq}
use Rattle.p10_base.specs.declared.at.At.{At}
use Rattle.p10_base.specs.declared.codes.SubsetCode.{SubsetCode}
use Rattle.p10_base.specs.declared.codes.SubsetCode.TheVariants as subset
use Rattle.p10_core.specs.Types.{PlainType, PlainStructure}
use Rattle.p10_elabx.specs.First.{Keep}
use Rattle.p10_elabd.specs.Standing.{PlainStanding, refusing}
use Rattle.p10_heads.specs.Heads.{Head, Heads}
use Rattle.p10_linkage.specs.Linkage.{LinkedType, a_function, an_object, a_part_function, unknown_object, is_function, parameters_of, known_result, lists_agree, is_none_listed, Linked}
use Rattle.p10_linkage.specs.Compatible.{are_compatible}
use Rattle.p10_linkage.specs.Uniting.{and_then}
use Rattle.p10_linkage.specs.Between.{known_united, parameters_united, listed_united, functions_united, objects_united, linked_united, unless_compatible, is_other, agreed_with, agreed, agreed_noted, agreeing, all_agreeing, is_defined_before, definitions_noted, taken_together}
use Rattle.p10_linkage.proofs.Joining.{StandsWell, IsKept, kept_itself, kept_on}
use Rattle.p10_linkage.proofs.OneType.{some_is, none_is_not, some_if, some_then, united_kept}
use Rattle.p10_declaration_steps.proofs.Steps.{over_refusing}
use Rattle.p10_declaration_renaming.proofs.Growing.{grown}

-- ## Declarations that agree

-- structures that stand well and are the same in the end
itself : (ss rs : List PlainStructure) → StandsWell ss → Some ss ≡ Some rs → IsKept ss rs
itself ss rs w e = subst (IsKept ss) (some_is ss rs e) (kept_itself ss w)

known_kept : (t u : Option PlainType) (ss rs : List PlainStructure) → StandsWell ss → known_united t u ss ≡ Some rs → IsKept ss rs
known_kept (Some t) (Some u) ss rs w e = (united_kept t u ss rs w e).0
known_kept (Some t) None ss rs w e = itself ss rs w e
known_kept None (Some u) ss rs w e = itself ss rs w e
known_kept None None ss rs w e = itself ss rs w e

parameters_kept : (ts us : List (Option PlainType)) (ss rs : List PlainStructure) → StandsWell ss → parameters_united ts us ss ≡ Some rs → IsKept ss rs
parameters_kept [] [] ss rs w e = itself ss rs w e
parameters_kept (t ∷ ts) (u ∷ us) ss rs w e =
    let next : (qs : List PlainStructure) × (known_united t u ss ≡ Some qs) × (parameters_united ts us qs ≡ Some rs) = some_then (known_united t u ss) (parameters_united ts us) rs e in
    let one : IsKept ss next.0 = known_kept t u ss next.0 w next.1 in
    kept_on ss next.0 rs one (parameters_kept ts us next.0 rs one.stands next.2)
parameters_kept [] (u ∷ us) ss rs w e = none_is_not rs e
parameters_kept (t ∷ ts) [] ss rs w e = none_is_not rs e

either_some : {A : Type 0} (t : Bool) (o p : Option A) (y : A) → (if t then o else p) ≡ Some y → (o ≡ Some y) ⊎ (p ≡ Some y)
either_some true o p y e = inl e
either_some false o p y e = inr e

listed_kept : (t u : LinkedType) (ss rs : List PlainStructure) → StandsWell ss → listed_united t u ss ≡ Some rs → IsKept ss rs
listed_kept t u ss rs w e =
    elim (either_some (is_none_listed t u) (Some ss) (parameters_united (parameters_of t) (parameters_of u) ss) rs e) as (λ _. IsKept ss rs) [
      | inl none ↦ itself ss rs w none
      | inr both ↦ parameters_kept (parameters_of t) (parameters_of u) ss rs w both
    ]

functions_kept : (l now : Linked) (ss rs : List PlainStructure) → StandsWell ss → functions_united l now ss ≡ Some rs → IsKept ss rs
functions_kept l now ss rs w e =
    let both : Option (List PlainStructure) = and_then (known_united (known_result l.type) (known_result now.type) ss) (listed_united l.type now.type) in
    let next : (qs : List PlainStructure) × (known_united (known_result l.type) (known_result now.type) ss ≡ Some qs) × (listed_united l.type now.type qs ≡ Some rs) =
    some_then (known_united (known_result l.type) (known_result now.type) ss) (listed_united l.type now.type) rs (some_if (lists_agree l.defines now.defines l.type now.type) both rs e).1 in
    let one : IsKept ss next.0 = known_kept (known_result l.type) (known_result now.type) ss next.0 w next.1 in
    kept_on ss next.0 rs one (listed_kept l.type now.type next.0 rs one.stands next.2)

as_before : (t u : LinkedType) (ss rs : List PlainStructure) → StandsWell ss → (if beq (is_function t) (is_function u) then Some ss else None) ≡ Some rs → IsKept ss rs
as_before t u ss rs w e = itself ss rs w (some_if (beq (is_function t) (is_function u)) (Some ss) rs e).1

objects_kept : (t u : LinkedType) (ss rs : List PlainStructure) → StandsWell ss → objects_united t u ss ≡ Some rs → IsKept ss rs
objects_kept (an_object t) (an_object u) ss rs w e = (united_kept t u ss rs w e).0
objects_kept (an_object t) (a_function ws q) ss rs w e = as_before (an_object t) (a_function ws q) ss rs w e
objects_kept (an_object t) (a_part_function p) ss rs w e = as_before (an_object t) (a_part_function p) ss rs w e
objects_kept (an_object t) unknown_object ss rs w e = as_before (an_object t) unknown_object ss rs w e
objects_kept (a_function vs r) u ss rs w e = as_before (a_function vs r) u ss rs w e
objects_kept (a_part_function p) u ss rs w e = as_before (a_part_function p) u ss rs w e
objects_kept unknown_object u ss rs w e = as_before unknown_object u ss rs w e

linked_kept : (l now : Linked) (ss rs : List PlainStructure) → StandsWell ss → linked_united l now ss ≡ Some rs → IsKept ss rs
linked_kept l now ss rs w e =
    elim (either_some (is_function l.type && is_function now.type) (functions_united l now ss) (objects_united l.type now.type ss) rs e) as (λ _. IsKept ss rs) [
      | inl functions ↦ functions_kept l now ss rs w functions
      | inr objects ↦ objects_kept l.type now.type ss rs w objects
    ]

unless_kept : (l now : Linked) (ss rs : List PlainStructure) (found : Option (List PlainStructure)) → StandsWell ss →
    ((qs : List PlainStructure) → found ≡ Some qs → IsKept ss qs) → unless_compatible l now ss found ≡ Some rs → IsKept ss rs
unless_kept l now ss rs (Some after) w h e = h rs e
unless_kept l now ss rs None w h e = itself ss rs w (some_if (are_compatible ss l now) (Some ss) rs e).1

with_kept : (l now : Linked) (ss rs : List PlainStructure) → StandsWell ss → agreed_with l now ss ≡ Some rs → IsKept ss rs
with_kept l now ss rs w e =
    let found : Option (List PlainStructure) = unless_compatible l now ss (linked_united l now ss) in
    elim (either_some (is_other l now) (if beq l.sensor now.sensor then found else None) (Some ss) rs e) as (λ _. IsKept ss rs) [
      | inl both ↦ unless_kept l now ss rs (linked_united l now ss) w (λ qs. linked_kept l now ss qs w) (some_if (beq l.sensor now.sensor) found rs both).1
      | inr same ↦ itself ss rs w same
    ]

agreed_kept : (ls : List Linked) (now : Linked) (ss rs : List PlainStructure) → StandsWell ss → agreed ls now ss ≡ Some rs → IsKept ss rs
agreed_kept [] now ss rs w e = itself ss rs w e
agreed_kept (l ∷ ls) now ss rs w e =
    let next : (qs : List PlainStructure) × (agreed_with l now ss ≡ Some qs) × (agreed ls now qs ≡ Some rs) = some_then (agreed_with l now ss) (agreed ls now) rs e in
    let one : IsKept ss next.0 = with_kept l now ss next.0 w next.1 in
    kept_on ss next.0 rs one (agreed_kept ls now next.0 rs one.stands next.2)

-- ## All roots

-- what was quiet at the end was so at the start, and structures are kept
pub record Joins (s t : PlainStanding) : Type 0 where
  pub quiet : t.problems ≡ [] → s.problems ≡ []
  pub kept : StandsWell s.scope.structures → IsKept s.scope.structures t.scope.structures

joins_on : (s t u : PlainStanding) → Joins s t → Joins t u → Joins s u
joins_on s t u a b = record {
  quiet = λ e. a.quiet (b.quiet e);
  kept = λ w. kept_on s.scope.structures t.scope.structures u.scope.structures (a.kept w) (b.kept (a.kept w).stands);
}

structures_as_before : (h : Keep) (b : Bool) (code : SubsetCode) (at : At) (s : PlainStanding) → (refusing h b code at s).scope ≡ s.scope
structures_as_before h true code at s = refl
structures_as_before h false code at s = refl

joins_refusing : (h : Keep) (b : Bool) (code : SubsetCode) (at : At) (s : PlainStanding) → Joins s (refusing h b code at s)
joins_refusing h b code at s = record {
  quiet = (grown (over_refusing h b code at s)).quiet;
  kept = λ w. subst (λ c. IsKept s.scope.structures c.structures) (sym (structures_as_before h b code at s)) (kept_itself s.scope.structures w);
}

joins_noted : (h : Keep) (before : List Linked) (now : Linked) (s : PlainStanding) (o : Option (List PlainStructure)) → agreed before now s.scope.structures ≡ o → Joins s (agreed_noted h now s o)
joins_noted h before now s None e = joins_refusing h true subset.DefinedTwice now.at s
joins_noted h before now s (Some rs) e = record { quiet = λ q. q; kept = λ w. agreed_kept before now s.scope.structures rs w e }

joins_all : (h : Keep) (before ls : List Linked) (s : PlainStanding) → Joins s (all_agreeing h before ls s)
joins_all h before [] s = record { quiet = λ q. q; kept = λ w. kept_itself s.scope.structures w }
joins_all h before (l ∷ rest) s =
    joins_on s (agreeing h before l s) (all_agreeing h (before ++ l ∷ []) rest (agreeing h before l s)) (joins_noted h before l s (agreed before l s.scope.structures) refl)
    (joins_all h (before ++ l ∷ []) rest (agreeing h before l s))

joins_definitions : (h : Keep) (before fs : List Head) (s : PlainStanding) → Joins s (definitions_noted h before fs s)
joins_definitions h before [] s = record { quiet = λ q. q; kept = λ w. kept_itself s.scope.structures w }
joins_definitions h before (f ∷ rest) s =
    let b : Bool = is_defined_before before f in
    joins_on s (refusing h b subset.DefinedTwice f.at s) (definitions_noted h (before ++ f ∷ []) rest (refusing h b subset.DefinedTwice f.at s)) (joins_refusing h b subset.DefinedTwice f.at s)
    (joins_definitions h (before ++ f ∷ []) rest (refusing h b subset.DefinedTwice f.at s))

pub joins_together : (h : Keep) (heads : Heads) (linked : List Linked) (s : PlainStanding) → Joins s (taken_together h heads linked s)
unfolding taken_together
joins_together h heads linked s =
    let t : PlainStanding = all_agreeing h [] linked s in
    let u : PlainStanding = definitions_noted h [] heads.functions t in
    joins_on s t (definitions_noted h [] heads.objects u) (joins_all h [] linked s) (joins_on t u (definitions_noted h [] heads.objects u) (joins_definitions h [] heads.functions t) (joins_definitions h [] heads.objects u))
