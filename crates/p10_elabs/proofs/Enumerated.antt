-- Constants of enumerations in specifiers of the code.
use Rattle.std.specs.Prelude.{◌≡◌, List, [], ◌∷◌, ◌++◌, map, refl}
use Rattle.std.proofs.Common.{◌∙◌, ap, sym, rules}
use Rattle.p10_base.specs.declared.at.At.{At}
use Rattle.p10_syn.specs.declared.tree.Declarator.TheViews.{the_lemmas}
use Rattle.p10_syn.specs.declared.tree.Structure.{Structure, Structure', out-Structure, Row_of-Member, end_of-Member, more_of-Member, items-the_row-Member}
use Rattle.p10_syn.specs.declared.tree.Enumeration.{Enumeration, Enumeration', out-Enumeration, Row_of-Enumerator, end_of-Enumerator, more_of-Enumerator, items-the_row-Enumerator}
use Rattle.p10_syn.specs.declared.tree.Member.{Member, Member', out-Member}
use Rattle.p10_syn.specs.declared.tree.Enumerator.{Enumerator, Enumerator', out-Enumerator}
use Rattle.p10_syn.specs.declared.tree.Spec.TheVariants as spec
use Rattle.p10_syn.specs.declared.tree.Spec.{Spec}
use Rattle.p10_syn.specs.Trees.{Identifier, MoreMembers, MoreEnumerators, specifier_row, member_row, enumerator_row}
use Rattle.p10_syn.specs.Built.{identifier_of, specifier_of, structure_of, members_of, member_of, enumeration_of, enumerators_of, enumerator_of}
use Rattle.p10_syn.proofs.Rows.{specifiers_listed}
use Rattle.p10_elabs.specs.Addresses.{constants_of, constants_in, constants_in_members, constants_in_member, constants_named, constant_named}

members_listed : (n : _) (all : Row_of-Member n) → members_of all ≡ member_row (map member_of (items-the_row-Member n all))
members_listed n end_of-Member = refl
members_listed n (more_of-Member x rest) = ap (MoreMembers (member_of x)) (members_listed _ rest)

enumerators_listed : (n : _) (all : Row_of-Enumerator n) → enumerators_of all ≡ enumerator_row (map enumerator_of (items-the_row-Enumerator n all))
enumerators_listed n end_of-Enumerator = refl
enumerators_listed n (more_of-Enumerator x rest) = ap (MoreEnumerators (enumerator_of x)) (enumerators_listed _ rest)

in_structure : (s : Structure) → constants_in (structure_of s) ≡ constants_in_members (member_row (map member_of (out-Structure s).members.items))
in_structure (Structure' at sign tag shape all) = search (rules, the_lemmas, members_listed)

in_enumeration : (e : Enumeration) → constants_in (enumeration_of e) ≡ constants_named (enumerator_row (map enumerator_of (out-Enumeration e).enumerators.items))
in_enumeration (Enumeration' at tag shape all comma) = search (rules, the_lemmas, enumerators_listed)

in_member : (m : Member) → constants_in_member (member_of m) ≡ constants_of (specifier_row (map specifier_of (out-Member m).specs.items))
in_member (Member' at shape specs shape' fields) = search (rules, the_lemmas, specifiers_listed)

pub of_enumerator : (e : Enumerator) → constant_named (enumerator_of e) ≡ identifier_of (out-Enumerator e).name ∷ []
of_enumerator (Enumerator' at x value) = search (rules, the_lemmas)

-- the constants of a structure, put down
pub of_structure : (one : Spec) (s : Structure) (members : List Member) (before after : List (Identifier At)) → one ≡ spec.Structure s → members ≡ (out-Structure s).members.items →
    after ≡ before ++ constants_in_members (member_row (map member_of members)) → after ≡ before ++ constants_in (specifier_of one)
of_structure one s members before after is same put =
    put ∙ ap (λ ms. before ++ constants_in_members (member_row (map member_of ms))) same
    ∙ ap (λ xs. before ++ xs) (sym (in_structure s)) ∙ ap (λ x. before ++ constants_in (specifier_of x)) (sym is)

-- the constants of an enumeration, put down
pub of_enumeration : (one : Spec) (e : Enumeration) (all : List Enumerator) (before after : List (Identifier At)) → one ≡ spec.Enumeration e → all ≡ (out-Enumeration e).enumerators.items →
    after ≡ before ++ constants_named (enumerator_row (map enumerator_of all)) → after ≡ before ++ constants_in (specifier_of one)
of_enumeration one e all before after is same put =
    put ∙ ap (λ es. before ++ constants_named (enumerator_row (map enumerator_of es))) same
    ∙ ap (λ xs. before ++ xs) (sym (in_enumeration e)) ∙ ap (λ x. before ++ constants_in (specifier_of x)) (sym is)

-- the constants of a declaration of members, put down
pub of_member : (m : Member) (specs : List Spec) (before after : List (Identifier At)) → specs ≡ (out-Member m).specs.items →
    after ≡ before ++ constants_of (specifier_row (map specifier_of specs)) → after ≡ before ++ constants_in_member (member_of m)
of_member m specs before after same put =
    put ∙ ap (λ xs. before ++ constants_of (specifier_row (map specifier_of xs))) same ∙ ap (λ xs. before ++ xs) (sym (in_member m))
