-- What parameters and the parts of specifiers declare, as the code goes over them.
use Rattle.std.proofs.Common.{◌≡◌, ℕ, ◌+◌, ◌-◌, ◌<◌, ◌≤◌, List, [], ◌∷◌, length, map, take, take_all, drop, get_or, false, refl, sym, ◌∙◌, ap, rules, arith}
use Rattle.p10_syn.specs.declared.tree.Declarator.TheViews.{the_lemmas}
use Rattle.p10_syn.specs.declared.tree.Parameter.{Parameter}
use Rattle.p10_syn.specs.declared.tree.Structure as structure
use Rattle.p10_syn.specs.declared.tree.Enumeration as enumeration
use Rattle.p10_syn.specs.declared.tree.Member as declaration
use Rattle.p10_syn.specs.declared.tree.Enumerator as constant
use Rattle.p10_syn.specs.declared.tree.Spec.{Spec}
use Rattle.p10_syn.specs.Scopes.{Scope, with_name}
use Rattle.p10_syn.specs.Trees.{Bare, Enumerators, MoreEnumerators, Members, MoreMembers, Parameters, MoreParameters, specifier_row, member_row, enumerator_row, parameter_row}
use Rattle.p10_syn.specs.Bare.{bare_specifier, bare_specifiers, bare_declarator}
use Rattle.p10_syn.specs.Declaring.{after_specifiers, after_specifier, after_members, after_member, after_enumerators, after_enumerator, after_declarator, after_parameter, after_parameters}
use Rattle.p10_syn.specs.Built.{declarator_of, structure_of, enumeration_of, specifiers_of, bare_specifier_of, bare_member_of, bare_enumerator_of, bare_declarator_of, bare_parameter_of}
use Rattle.p10_make.proofs.Rows.{specifiers_items, specifiers_row, members_items, enumerators_items}
use Rattle.p10_pexpr.proofs.Sizes.{specifiers_size, specifier_size, members_size, member_size}

first_and_rest : {A : Type 0} (d x : A) (xs : List A) → 1 ≤ length xs → x ≡ get_or xs 0 d → xs ≡ x ∷ take (length xs - 1) (drop 1 xs)
first_and_rest d x [] some e = absurd (omega (arith, some))
first_and_rest d x (y ∷ xs) some e = ap (λ a. a ∷ xs) (sym e) ∙ ap (λ rest. x ∷ rest) (sym (take_all (length (y ∷ xs) - 1) xs (omega arith)))

-- ## Parameters

parameter_declares : (names : Scope) (x : Parameter) → after_parameter names (bare_parameter_of x) ≡ after_declarator (after_specifiers names (specifier_row (map bare_specifier_of x.specs.items))) (specifier_row (map bare_specifier_of x.specs.items)) (bare_declarator_of x.declarator)
unfolding bare_parameter_of bare_declarator_of
parameter_declares names x = ap (λ ss. after_declarator (after_specifiers names ss) ss (bare_declarator (declarator_of x.declarator))) (specifiers_row x.specs.items)

parameter_next : (names mid now all : Scope) (x : Parameter) (rest : Parameters Bare) → mid ≡ after_specifiers names (specifier_row (map bare_specifier_of x.specs.items)) → now ≡ after_declarator mid (specifier_row (map bare_specifier_of x.specs.items)) (bare_declarator_of x.declarator) →
    after_parameters names (MoreParameters (bare_parameter_of x) rest) ≡ all → after_parameters now rest ≡ all
parameter_next names mid now all x rest specified declared same =
    ap (λ a. after_parameters a rest) (declared ∙ ap (λ a. after_declarator a (specifier_row (map bare_specifier_of x.specs.items)) (bare_declarator_of x.declarator)) specified ∙ sym (parameter_declares names x)) ∙ same

-- the first of these parameters is in scope
pub parameters_go : (d x : Parameter) (rest : List Parameter) (ss ts : List Spec) (names mid now all : Scope) → 1 ≤ length rest → x ≡ get_or rest 0 d → ss ≡ x.specs.items → ts ≡ x.specs.items → mid ≡ after_specifiers names (specifier_row (map bare_specifier_of ss)) →
    now ≡ after_declarator mid (specifier_row (map bare_specifier_of ts)) (bare_declarator_of x.declarator) → after_parameters names (parameter_row (map bare_parameter_of rest)) ≡ all →
    after_parameters now (parameter_row (map bare_parameter_of (take (length rest - 1) (drop 1 rest)))) ≡ all
parameters_go d x rest ss ts names mid now all some is specs again specified declared same =
    parameter_next names mid now all x (parameter_row (map bare_parameter_of (take (length rest - 1) (drop 1 rest))))
    (specified ∙ ap (λ ss. after_specifiers names (specifier_row (map bare_specifier_of ss))) specs)
    (declared ∙ ap (λ ts. after_declarator mid (specifier_row (map bare_specifier_of ts)) (bare_declarator_of x.declarator)) again)
    (ap (λ xs. after_parameters names (parameter_row (map bare_parameter_of xs))) (sym (first_and_rest d x rest some is)) ∙ same)

-- ## Enumerations

enumerator_declares : (names : Scope) (e : constant.Enumerator) → after_enumerator names (bare_enumerator_of e) ≡ with_name names false (constant.out-Enumerator e).name.text.now
unfolding bare_enumerator_of constant.out-Enumerator denote.Hole.Carrier.out
enumerator_declares names (constant.Enumerator' at x value) = refl

enumerator_next : (names now all : Scope) (e : constant.Enumerator) (rest : Enumerators Bare) → now ≡ with_name names false (constant.out-Enumerator e).name.text.now → after_enumerators names (MoreEnumerators (bare_enumerator_of e) rest) ≡ all → after_enumerators now rest ≡ all
enumerator_next names now all e rest declared same = ap (λ a. after_enumerators a rest) (declared ∙ sym (enumerator_declares names e)) ∙ same

-- the first of these constants is in scope
pub enumerators_go : (d x : constant.Enumerator) (rest : List constant.Enumerator) (names now all : Scope) → 1 ≤ length rest → x ≡ get_or rest 0 d → now ≡ with_name names false (constant.out-Enumerator x).name.text.now →
    after_enumerators names (enumerator_row (map bare_enumerator_of rest)) ≡ all → after_enumerators now (enumerator_row (map bare_enumerator_of (take (length rest - 1) (drop 1 rest)))) ≡ all
enumerators_go d x rest names now all some is declared same =
    enumerator_next names now all x (enumerator_row (map bare_enumerator_of (take (length rest - 1) (drop 1 rest)))) declared (ap (λ xs. after_enumerators names (enumerator_row (map bare_enumerator_of xs))) (sym (first_and_rest d x rest some is)) ∙ same)

enumeration_declares : (names : Scope) (e : enumeration.Enumeration) → after_specifier names (bare_specifier (enumeration_of e)) ≡ after_enumerators names (enumerator_row (map bare_enumerator_of (enumeration.out-Enumeration e).enumerators.items))
enumeration_declares names (enumeration.Enumeration' at tag shape all comma) = search (rules, the_lemmas, enumerators_items)

pub enumeration_scope : (names now : Scope) (e : enumeration.Enumeration) → now ≡ after_enumerators names (enumerator_row (map bare_enumerator_of (enumeration.out-Enumeration e).enumerators.items)) → now ≡ after_specifier names (bare_specifier (enumeration_of e))
enumeration_scope names now e declared = declared ∙ sym (enumeration_declares names e)

-- ## Structures

structure_declares : (names : Scope) (s : structure.Structure) → after_specifier names (bare_specifier (structure_of s)) ≡ after_members names (member_row (map bare_member_of (structure.out-Structure s).members.items))
structure_declares names (structure.Structure' at sign tag shape all) = search (rules, the_lemmas, members_items)

pub structure_scope : (names now : Scope) (s : structure.Structure) → now ≡ after_members names (member_row (map bare_member_of (structure.out-Structure s).members.items)) → now ≡ after_specifier names (bare_specifier (structure_of s))
structure_scope names now s declared = declared ∙ sym (structure_declares names s)

structure_size : (s : structure.Structure) → specifier_size (bare_specifier (structure_of s)) ≡ 1 + members_size (member_row (map bare_member_of (structure.out-Structure s).members.items))
structure_size (structure.Structure' at sign tag shape all) = search (rules, the_lemmas, members_items)

pub structure_smaller : (s : structure.Structure) → members_size (member_row (map bare_member_of (structure.out-Structure s).members.items)) < specifier_size (bare_specifier (structure_of s))
structure_smaller s = omega (arith, structure_size s)

-- ## Members

member_declares : (names : Scope) (m : declaration.Member) → after_member names (bare_member_of m) ≡ after_specifiers names (specifier_row (map bare_specifier_of (declaration.out-Member m).specs.items))
unfolding bare_member_of
member_declares names (declaration.Member' at shape specs shape' fields) = search (rules, the_lemmas, specifiers_items)

member_next : (names now all : Scope) (m : declaration.Member) (rest : Members Bare) → now ≡ after_specifiers names (specifier_row (map bare_specifier_of (declaration.out-Member m).specs.items)) → after_members names (MoreMembers (bare_member_of m) rest) ≡ all → after_members now rest ≡ all
member_next names now all m rest declared same = ap (λ a. after_members a rest) (declared ∙ sym (member_declares names m)) ∙ same

member_specs : (m : declaration.Member) → specifiers_size (specifier_row (map bare_specifier_of (declaration.out-Member m).specs.items)) < member_size (bare_member_of m)
unfolding bare_member_of
member_specs (declaration.Member' at shape specs shape' fields) =
    let same : bare_specifiers (specifiers_of specs) ≡ specifier_row (map bare_specifier_of (declaration.out-Member (declaration.Member' at shape specs shape' fields)).specs.items) = search (rules, the_lemmas, specifiers_items) in
    omega (arith, ap specifiers_size same)

-- the constants in the first of these members are in scope
pub members_go : (d x : declaration.Member) (rest : List declaration.Member) (ss : List Spec) (names now all : Scope) → 1 ≤ length rest → x ≡ get_or rest 0 d → ss ≡ (declaration.out-Member x).specs.items → now ≡ after_specifiers names (specifier_row (map bare_specifier_of ss)) →
    after_members names (member_row (map bare_member_of rest)) ≡ all → after_members now (member_row (map bare_member_of (take (length rest - 1) (drop 1 rest)))) ≡ all
members_go d x rest ss names now all some is specs declared same =
    member_next names now all x (member_row (map bare_member_of (take (length rest - 1) (drop 1 rest)))) (declared ∙ ap (λ ss. after_specifiers names (specifier_row (map bare_specifier_of ss))) specs)
    (ap (λ xs. after_members names (member_row (map bare_member_of xs))) (sym (first_and_rest d x rest some is)) ∙ same)

members_first : (d x : declaration.Member) (rest : List declaration.Member) → 1 ≤ length rest → x ≡ get_or rest 0 d → members_size (member_row (map bare_member_of rest)) ≡ 1 + (member_size (bare_member_of x) + members_size (member_row (map bare_member_of (take (length rest - 1) (drop 1 rest)))))
members_first d x rest some is = ap (λ xs. members_size (member_row (map bare_member_of xs))) (first_and_rest d x rest some is)

-- the specifiers of a member are smaller than all members
pub member_smaller : (d x : declaration.Member) (rest : List declaration.Member) (ss : List Spec) (n : ℕ) → 1 ≤ length rest → x ≡ get_or rest 0 d → ss ≡ (declaration.out-Member x).specs.items → members_size (member_row (map bare_member_of rest)) ≤ n → specifiers_size (specifier_row (map bare_specifier_of ss)) < n
member_smaller d x rest ss n some is specs h = omega (arith, h, members_first d x rest some is, member_specs x, ap (λ ss. specifiers_size (specifier_row (map bare_specifier_of ss))) specs)

pub members_smaller : (d x : declaration.Member) (rest : List declaration.Member) (n : ℕ) → 1 ≤ length rest → x ≡ get_or rest 0 d → members_size (member_row (map bare_member_of rest)) ≤ n → members_size (member_row (map bare_member_of (take (length rest - 1) (drop 1 rest)))) ≤ n
members_smaller d x rest n some is h = omega (arith, h, members_first d x rest some is)

-- ## Specifiers

-- the constants in the first of these specifiers are in scope
pub specifiers_go : (d x : Spec) (rest : List Spec) (names now all : Scope) → 1 ≤ length rest → x ≡ get_or rest 0 d → now ≡ after_specifier names (bare_specifier_of x) →
    after_specifiers names (specifier_row (map bare_specifier_of rest)) ≡ all → after_specifiers now (specifier_row (map bare_specifier_of (take (length rest - 1) (drop 1 rest)))) ≡ all
specifiers_go d x rest names now all some is declared same =
    ap (λ a. after_specifiers a (specifier_row (map bare_specifier_of (take (length rest - 1) (drop 1 rest))))) declared
    ∙ ap (λ xs. after_specifiers names (specifier_row (map bare_specifier_of xs))) (sym (first_and_rest d x rest some is)) ∙ same

specifiers_first : (d x : Spec) (rest : List Spec) → 1 ≤ length rest → x ≡ get_or rest 0 d → specifiers_size (specifier_row (map bare_specifier_of rest)) ≡ 1 + (specifier_size (bare_specifier_of x) + specifiers_size (specifier_row (map bare_specifier_of (take (length rest - 1) (drop 1 rest)))))
specifiers_first d x rest some is = ap (λ xs. specifiers_size (specifier_row (map bare_specifier_of xs))) (first_and_rest d x rest some is)

-- a specifier is smaller than all specifiers
pub specifier_smaller : (d x : Spec) (rest : List Spec) (n : ℕ) → 1 ≤ length rest → x ≡ get_or rest 0 d → specifiers_size (specifier_row (map bare_specifier_of rest)) ≤ n → specifier_size (bare_specifier_of x) < n
specifier_smaller d x rest n some is h = omega (arith, h, specifiers_first d x rest some is)

pub specifiers_smaller : (d x : Spec) (rest : List Spec) (n : ℕ) → 1 ≤ length rest → x ≡ get_or rest 0 d → specifiers_size (specifier_row (map bare_specifier_of rest)) ≤ n → specifiers_size (specifier_row (map bare_specifier_of (take (length rest - 1) (drop 1 rest)))) ≤ n
specifiers_smaller d x rest n some is h = omega (arith, h, specifiers_first d x rest some is)
