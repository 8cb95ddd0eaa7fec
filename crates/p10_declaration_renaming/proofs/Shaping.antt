-- What declarators make of types that are the same.
use Rattle.std.proofs.Common.{◌≡◌, refl, subst, ℕ, Bool, true, false, List, [], map, Option, Some, None, option_map, Ok}
use Rattle.p10_base.specs.declared.at.At.{At}
use Rattle.p10_base.specs.declared.codes.SubsetCode.TheVariants as subset
use Rattle.p10_syn.specs.Trees.{Identifier, Qualifier, Expression, Declarator, Named, Unnamed, Pointer, Parenthesised, Array, Function}
use Rattle.p10_core.specs.Types.{PlainType, void, integer, pointer}
use Rattle.p10_core.specs.Rows.{is_void, is_complete}
use Rattle.p10_elabx.specs.First.{Keep, lift, ruled}
use Rattle.p10_elabx.specs.TypeNames.{other_word, has_const_word, length_found, sized_array}
use Rattle.p10_elabx.specs.declared.shape.Length.{Length}
use Rattle.p10_elabd.specs.Standing.{PlainStanding, Passed, passed, refusing}
use Rattle.p10_elabd.specs.Expressions.{value_by}
use Rattle.p10_elabd.specs.declared.declaration.ParameterList.{ParameterList}
use Rattle.p10_elabd.specs.declared.declaration.ParameterList.TheVariants as list_is
use Rattle.p10_elabd.specs.Shapes.{PlainParameter, ListedParameter, DeclaredType, of_type, of_open_array, pointed_to, pointer_declared, element_declared, array_with, array_declared, array_inside, function_inside, result_declared, plain_parameter_type, parameter_declared, among_parameters, before_known, known_parameters, function_of, function_declared}
use Rattle.p10_elabd.specs.Declaring.{with_parameter}
use Rattle.p10_renaming.specs.Renaming.{Pairing, SameType, SameParameterType, same_integer_passed, same_pointer_passed, same_void, same_integer, same_pointer, same_array, same_structure}
use Rattle.p10_expression_renaming.specs.Mapped.{mapped_qualifier, mapped_expression, mapped_declarator}
use Rattle.p10_expression_renaming.specs.Knowing.{same_local, same_unknown_name, IsOneToOne}
use Rattle.p10_expression_renaming.proofs.Finding.{ruled_both}
use Rattle.p10_expression_renaming.proofs.Sameness.{SameName, same_no_name, same_name}
use Rattle.p10_expression_renaming.proofs.Types.{parameter_type}
use Rattle.p10_expression_renaming.proofs.TypeNames.{left, right, has_const_same, marked_pointer, SameLength, length_found_both, sized_array_both}
use Rattle.p10_declaration_renaming.specs.Standings.{Both, SameStanding, AreQuiet, SameParameters, same_no_parameters, same_more_parameters, SameListedParameter, SameListed, same_none_listed, same_more_listed, SameDeclared, same_of_type, same_of_open_array, same_of_function, same_of_part_function}
use Rattle.p10_declaration_renaming.proofs.Boths.{both_map}
use Rattle.p10_declaration_steps.proofs.Shaping.{over_pointed, over_pointer, over_element, over_array_with, over_result, over_parameter, over_with_parameter}
use Rattle.p10_declaration_renaming.proofs.Growing.{as_before, never_joined, grown}
use Rattle.p10_declaration_renaming.proofs.Scopes.{names_inside, tags_inside, entered_same, left_same}
use Rattle.p10_declaration_renaming.proofs.Expressions.{alike_value}
use Rattle.p10_declaration_renaming.proofs.Naming.{declaring_same}
use Rattle.p10_declaration_renaming.proofs.Alike.{Alike, Ends, alike_on, alike_ends, alike_refusing, ends_nothing, ends_passed, ends_unless, ends_else, ends_noted, never_left}

-- ## Pointers

pointed_ends : (R : Pairing) (last : ℕ) (h : Keep) (at name_at to name_to : At) (c d : Bool) → c ≡ d → (s t : PlainStanding) → SameStanding R last s t → {x y : DeclaredType} → SameDeclared R x y
    → Ends R last (SameDeclared R) (pointed_to h at name_at c x s) (pointed_to h to name_to d y t)
pointed_ends R last h at name_at to name_to c d e s t know (same_of_type {t = u} {u = v} k) =
    ends_else R last (SameDeclared R) h subset.BadPointer subset.BadPointer at to (is_void u) (is_void v) (passed (of_type (pointer c u)) s) (passed (of_type (pointer d v)) t) s t
    (ends_passed R last (SameDeclared R) (of_type (pointer c u)) (of_type (pointer d v)) s t (same_of_type (marked_pointer R c d e k)) know)
pointed_ends R last h at name_at to name_to c d e s t know (same_of_open_array k) = λ quiet. never_left last h subset.IncompleteType name_at s _ quiet
pointed_ends R last h at name_at to name_to c d e s t know (same_of_function k) = ends_nothing R last (SameDeclared R) s t know
pointed_ends R last h at name_at to name_to c d e s t know (same_of_part_function k) = ends_nothing R last (SameDeclared R) s t know

-- a word that isn't `const` is noted
pointer_told : (h : Keep) (at name_at : At) (qualifiers : List (Qualifier At)) (r : At) → other_word qualifiers ≡ Some r → (m : Option DeclaredType) (s : PlainStanding) → (pointer_declared h at name_at qualifiers m s).after.problems ≡ [] → ⊥
pointer_told h at name_at qualifiers r e None s = rw e (λ none. never_joined h s.problems (record { code = subset.BadSpecifier; at = r }) [] none)
pointer_told h at name_at qualifiers r e (Some d) s =
    rw e (λ none. never_joined h s.problems (record { code = subset.BadSpecifier; at = r }) [] ((grown (over_pointed h at name_at (has_const_word qualifiers) d (refusing h true subset.BadSpecifier r s))).quiet none))

pointer_by_ends : (R : Pairing) (last : ℕ) (h : Keep) (at name_at to name_to : At) (these others : List (Qualifier At)) → has_const_word these ≡ has_const_word others → (o q : Option At) → other_word these ≡ o → other_word others ≡ q
    → (m n : Option DeclaredType) → Both (SameDeclared R) m n → (s t : PlainStanding) → SameStanding R last s t → Ends R last (SameDeclared R) (pointer_declared h at name_at these m s) (pointer_declared h to name_to others n t)
pointer_by_ends R last h at name_at to name_to these others same (Some r) q e d m n k s t know = λ quiet. absurd (pointer_told h at name_at these r e m s quiet.left)
pointer_by_ends R last h at name_at to name_to these others same None (Some r) e d m n k s t know = λ quiet. absurd (pointer_told h to name_to others r d n t quiet.right)
pointer_by_ends R last h at name_at to name_to these others same None None e d None None k s t know = rw (e, d) (ends_nothing R last (SameDeclared R) s t know)
pointer_by_ends R last h at name_at to name_to these others same None None e d (Some x) (Some y) k s t know =
    rw (e, d) (pointed_ends R last h at name_at to name_to (has_const_word these) (has_const_word others) same s t know k)
pointer_by_ends R last h at name_at to name_to these others same None None e d None (Some y) k s t know = absurd k
pointer_by_ends R last h at name_at to name_to these others same None None e d (Some x) None k s t know = absurd k

pub alike_pointer : {B : Type 0} (R : Pairing) (last : ℕ) (h : Keep) (at name_at to name_to : At) (all : List (Qualifier (At × At))) (m n : Option DeclaredType) (s t : PlainStanding) → (B → Both (SameDeclared R) m n) → Alike B R last s t
    → Alike (B × Both (SameDeclared R) (pointer_declared h at name_at (map (mapped_qualifier left) all) m s).made (pointer_declared h to name_to (map (mapped_qualifier right) all) n t).made) R last
    (pointer_declared h at name_at (map (mapped_qualifier left) all) m s).after (pointer_declared h to name_to (map (mapped_qualifier right) all) n t).after
alike_pointer R last h at name_at to name_to all m n s t k a =
    let these : List (Qualifier At) = map (mapped_qualifier left) all in
    let others : List (Qualifier At) = map (mapped_qualifier right) all in
    alike_ends R last (SameDeclared R) s t (pointer_declared h at name_at these m s) (pointer_declared h to name_to others n t) (grown (over_pointer h at name_at these m s)) (grown (over_pointer h to name_to others n t))
    (λ b know. pointer_by_ends R last h at name_at to name_to these others (has_const_same all) (other_word these) (other_word others) refl refl m n (k b) s t know) a

-- ## Arrays

element_ends : (R : Pairing) (last : ℕ) (h : Keep) (name_at name_to : At) (m n : Option DeclaredType) → Both (SameDeclared R) m n → (s t : PlainStanding) → SameStanding R last s t
    → Ends R last (SameType R) (element_declared h name_at m s) (element_declared h name_to n t)
element_ends R last h name_at name_to None None k s t know = ends_nothing R last (SameType R) s t know
element_ends R last h name_at name_to None (Some y) k s t know = absurd k
element_ends R last h name_at name_to (Some x) None k s t know = absurd k
element_ends R last h name_at name_to (Some x) (Some y) k s t know = by_declared k
  where
    by_declared : {x y : DeclaredType} → SameDeclared R x y → Ends R last (SameType R) (element_declared h name_at (Some x) s) (element_declared h name_to (Some y) t)
    by_declared (same_of_type {t = u} {u = v} k) =
        ends_unless R last (SameType R) h subset.IncompleteType subset.IncompleteType name_at name_to (is_complete s.scope.structures u) (is_complete t.scope.structures v) (passed u s) (passed v t) s t
        (λ e d. ends_passed R last (SameType R) u v s t k know)
    by_declared (same_of_open_array k) = λ quiet. never_left last h subset.IncompleteType name_at s _ quiet
    by_declared (same_of_function k) = ends_nothing R last (SameType R) s t know
    by_declared (same_of_part_function k) = ends_nothing R last (SameType R) s t know

pub alike_element : {B : Type 0} (R : Pairing) (last : ℕ) (h : Keep) (name_at name_to : At) (m n : Option DeclaredType) (s t : PlainStanding) → (B → Both (SameDeclared R) m n) → Alike B R last s t
    → Alike (B × Both (SameType R) (element_declared h name_at m s).made (element_declared h name_to n t).made) R last (element_declared h name_at m s).after (element_declared h name_to n t).after
alike_element R last h name_at name_to m n s t k a =
    alike_ends R last (SameType R) s t (element_declared h name_at m s) (element_declared h name_to n t) (grown (over_element h name_at m s)) (grown (over_element h name_to n t))
    (λ b know. element_ends R last h name_at name_to m n (k b) s t know) a

array_with_ends : (R : Pairing) (last : ℕ) (h : Keep) (m n : Option PlainType) → Both (SameType R) m n → (k l : Option Length) → Both SameLength k l → (s t : PlainStanding) → SameStanding R last s t
    → Ends R last (SameDeclared R) (array_with h m k s) (array_with h n l t)
array_with_ends R last h None None i k l j s t know = ends_nothing R last (SameDeclared R) s t know
array_with_ends R last h None (Some v) i k l j s t know = absurd i
array_with_ends R last h (Some u) None i k l j s t know = absurd i
array_with_ends R last h (Some u) (Some v) i None None j s t know = ends_nothing R last (SameDeclared R) s t know
array_with_ends R last h (Some u) (Some v) i None (Some y) j s t know = absurd j
array_with_ends R last h (Some u) (Some v) i (Some x) None j s t know = absurd j
array_with_ends R last h (Some u) (Some v) i (Some x) (Some y) j s t know =
    ends_noted R last (SameDeclared R) h (lift (ruled (sized_array s.scope.structures u x) (λ w. Ok (of_type w)))) (lift (ruled (sized_array t.scope.structures v y) (λ w. Ok (of_type w)))) s t
    (ruled_both (SameType R) (SameDeclared R) (sized_array s.scope.structures u x) (sized_array t.scope.structures v y) (λ w. Ok (of_type w)) (λ w. Ok (of_type w)) (sized_array_both R s.scope.structures t.scope.structures u v i x y j)
    (λ a b c. same_of_type c)) know

pub alike_array : {B : Type 0} (R : Pairing) → IsOneToOne R → (last : ℕ) (h : Keep) (e : Expression (At × At)) (p q : Passed PlainType) → (B → Both (SameType R) p.made q.made) → Alike B R last p.after q.after
    → Alike (B × Both (SameDeclared R) (array_declared h (mapped_expression left e) p).made (array_declared h (mapped_expression right e) q).made) R last
    (array_declared h (mapped_expression left e) p).after (array_declared h (mapped_expression right e) q).after
alike_array R one last h e p q k a =
    let m : Passed Length = value_by h p.after (mapped_expression left e) length_found in
    let n : Passed Length = value_by h q.after (mapped_expression right e) length_found in
    λ quiet.
    let x = alike_ends R last (SameDeclared R) m.after n.after (array_with h p.made m.made m.after) (array_with h q.made n.made n.after) (grown (over_array_with h p.made m.made m.after)) (grown (over_array_with h q.made n.made n.after))
    (λ b know. array_with_ends R last h p.made q.made (k b.0) m.made n.made b.1 m.after n.after know) (alike_value R one last h SameLength e length_found length_found p.after q.after (λ b v w j. length_found_both R v w j) a) quiet in
    ((x.0.0.0, x.0.1), x.1)

pub open_both : (R : Pairing) (m n : Option PlainType) → Both (SameType R) m n → Both (SameDeclared R) (option_map of_open_array m) (option_map of_open_array n)
open_both R m n h = both_map (SameType R) (SameDeclared R) of_open_array of_open_array (λ t u k. same_of_open_array k) m n h

pub alike_array_inside : {B : Type 0} (R : Pairing) (last : ℕ) (h : Keep) (name_at name_to : At) (lacking : Bool) (d : Declarator (At × At)) (s t : PlainStanding) → Alike B R last s t
    → Alike B R last (array_inside h name_at lacking (mapped_declarator left d) s) (array_inside h name_to lacking (mapped_declarator right d) t)
alike_array_inside R last h name_at name_to lacking (Named x) s t a = a
alike_array_inside R last h name_at name_to lacking (Unnamed at) s t a = a
alike_array_inside R last h name_at name_to lacking (Pointer at qualifiers d) s t a = alike_refusing R last h lacking lacking subset.IncompleteType subset.IncompleteType name_at name_to s t a
alike_array_inside R last h name_at name_to lacking (Parenthesised at d) s t a = alike_array_inside R last h name_at name_to lacking d s t a
alike_array_inside R last h name_at name_to lacking (Array at d brackets length) s t a = alike_refusing R last h lacking lacking subset.IncompleteType subset.IncompleteType name_at name_to s t a
alike_array_inside R last h name_at name_to lacking (Function at d parentheses all more) s t a = λ q. never_left last h subset.IncompleteType name_at s _ q

-- ## Functions

pub alike_function_inside : {B : Type 0} (R : Pairing) (last : ℕ) (h : Keep) (name_at name_to : At) (d : Declarator (At × At)) (s t : PlainStanding) → Alike B R last s t
    → Alike B R last (function_inside h name_at (mapped_declarator left d) s) (function_inside h name_to (mapped_declarator right d) t)
alike_function_inside R last h name_at name_to (Named x) s t a = a
alike_function_inside R last h name_at name_to (Unnamed at) s t a = a
alike_function_inside R last h name_at name_to (Pointer at qualifiers d) s t a = λ q. never_left last h subset.BadPointer at.0 s _ q
alike_function_inside R last h name_at name_to (Parenthesised at d) s t a = alike_function_inside R last h name_at name_to d s t a
alike_function_inside R last h name_at name_to (Array at d brackets length) s t a = λ q. never_left last h subset.IncompleteType name_at s _ q
alike_function_inside R last h name_at name_to (Function at d parentheses all more) s t a = λ q. never_left last h subset.IncompleteType name_at s _ q

result_ends : (R : Pairing) (last : ℕ) (h : Keep) (at name_at to name_to : At) (s t : PlainStanding) → SameStanding R last s t → {x y : DeclaredType} → SameDeclared R x y
    → Ends R last (SameType R) (result_declared h at name_at (Some x) s) (result_declared h to name_to (Some y) t)
result_ends R last h at name_at to name_to s t know (same_of_type (same_void {c = c})) = ends_passed R last (SameType R) (void c) (void c) s t same_void know
result_ends R last h at name_at to name_to s t know (same_of_type (same_integer {c = c} {kind = i})) = ends_passed R last (SameType R) (integer c i) (integer c i) s t same_integer know
result_ends R last h at name_at to name_to s t know (same_of_type (same_pointer {c = c} {t = u} {u = v} k)) = ends_passed R last (SameType R) (pointer c u) (pointer c v) s t (same_pointer k) know
result_ends R last h at name_at to name_to s t know (same_of_type (same_array k)) = λ quiet. never_left last h subset.IncompleteType name_at s _ quiet
result_ends R last h at name_at to name_to s t know (same_of_type (same_structure paired)) = λ quiet. never_left last h subset.StructurePassed at s _ quiet
result_ends R last h at name_at to name_to s t know (same_of_open_array k) = λ quiet. never_left last h subset.IncompleteType name_at s _ quiet
result_ends R last h at name_at to name_to s t know (same_of_function k) = ends_nothing R last (SameType R) s t know
result_ends R last h at name_at to name_to s t know (same_of_part_function k) = ends_nothing R last (SameType R) s t know

results_end : (R : Pairing) (last : ℕ) (h : Keep) (at name_at to name_to : At) (m n : Option DeclaredType) → Both (SameDeclared R) m n → (s t : PlainStanding) → SameStanding R last s t
    → Ends R last (SameType R) (result_declared h at name_at m s) (result_declared h to name_to n t)
results_end R last h at name_at to name_to None None k s t know = ends_nothing R last (SameType R) s t know
results_end R last h at name_at to name_to (Some x) (Some y) k s t know = result_ends R last h at name_at to name_to s t know k
results_end R last h at name_at to name_to None (Some y) k s t know = absurd k
results_end R last h at name_at to name_to (Some x) None k s t know = absurd k

pub alike_result : {B : Type 0} (R : Pairing) (last : ℕ) (h : Keep) (at name_at to name_to : At) (m n : Option DeclaredType) (s t : PlainStanding) → (B → Both (SameDeclared R) m n) → Alike B R last s t
    → Alike (B × Both (SameType R) (result_declared h at name_at m s).made (result_declared h to name_to n t).made) R last (result_declared h at name_at m s).after (result_declared h to name_to n t).after
alike_result R last h at name_at to name_to m n s t k a =
    alike_ends R last (SameType R) s t (result_declared h at name_at m s) (result_declared h to name_to n t) (grown (over_result h at name_at m s)) (grown (over_result h to name_to n t))
    (λ b know. results_end R last h at name_at to name_to m n (k b) s t know) a

pub alike_among : {B : Type 0} (R : Pairing) (last : ℕ) (s t : PlainStanding) → Alike B R last s t → Alike B R last (among_parameters s) (among_parameters t)
alike_among R last s t a = alike_on R last s t (among_parameters s) (among_parameters t) (as_before s) (as_before t) (λ b know q. entered_same R last s.scope t.scope know) a

before_known_both : (R : Pairing) (p q : ListedParameter) → SameListedParameter R p q → (m n : Option PlainType) → Both (SameParameterType R) m n → (ps qs : Option (List PlainParameter)) → Both (SameParameters R) ps qs
    → Both (SameParameters R) (before_known p m ps) (before_known q n qs)
before_known_both R p q h (Some u) (Some v) k (Some ps) (Some qs) i = same_more_parameters (record { name = h.name; type = k }) i
before_known_both R p q h (Some u) (Some v) k None None i = tt
before_known_both R p q h (Some u) (Some v) k None (Some qs) i = absurd i
before_known_both R p q h (Some u) (Some v) k (Some ps) None i = absurd i
before_known_both R p q h None None k ps qs i = tt
before_known_both R p q h None (Some v) k ps qs i = absurd k
before_known_both R p q h (Some u) None k ps qs i = absurd k

known_both : (R : Pairing) {ps qs : List ListedParameter} → SameListed R ps qs → Both (SameParameters R) (known_parameters ps) (known_parameters qs)
known_both R same_none_listed = same_no_parameters
known_both R (same_more_listed {p = p} {q = q} {ps = ps} {qs = qs} h rest) = before_known_both R p q h p.type q.type h.type (known_parameters ps) (known_parameters qs) (known_both R rest)

function_of_both : (R : Pairing) (last : ℕ) (list : ParameterList) (m n : Option PlainType) → Both (SameType R) m n → (before after : List ListedParameter) → SameListed R before after → (ps qs : Option (List PlainParameter)) → Both (SameParameters R) ps qs
    → (s t : PlainStanding) → SameStanding R last s t → SameDeclared R (function_of list m before ps s.scope) (function_of list n after qs t.scope)
function_of_both R last list_is.Variadic m n k before after l ps qs i s t know = same_of_part_function (record { parameters = l; list = refl; result = k })
function_of_both R last list_is.Empty m n k before after l ps qs i s t know = same_of_part_function (record { parameters = l; list = refl; result = k })
function_of_both R last list_is.Fixed None None k before after l ps qs i s t know = same_of_part_function (record { parameters = l; list = refl; result = tt })
function_of_both R last list_is.Fixed None (Some v) k before after l ps qs i s t know = absurd k
function_of_both R last list_is.Fixed (Some u) None k before after l ps qs i s t know = absurd k
function_of_both R last list_is.Fixed (Some u) (Some v) k before after l None None i s t know = same_of_part_function (record { parameters = l; list = refl; result = k })
function_of_both R last list_is.Fixed (Some u) (Some v) k before after l None (Some qs) i s t know = absurd i
function_of_both R last list_is.Fixed (Some u) (Some v) k before after l (Some ps) None i s t know = absurd i
function_of_both R last list_is.Fixed (Some u) (Some v) k before after l (Some ps) (Some qs) i s t know =
    same_of_function (record { parameters = i; result = k; names = names_inside R last s.scope t.scope know; tags = tags_inside R last s.scope t.scope know })

pub alike_function : {B : Type 0} (R : Pairing) (last : ℕ) (list other : ParameterList) → list ≡ other → (m n : Option PlainType) (before after : List ListedParameter) (s t : PlainStanding) → (B → Both (SameType R) m n) → (B → SameListed R before after) → Alike B R last s t
    → Alike (B × Both (SameDeclared R) (function_declared list m before s).made (function_declared other n after t).made) R last (function_declared list m before s).after (function_declared other n after t).after
alike_function {B = B} R last list other e m n before after s t k i a =
    subst (λ x. Alike (B × Both (SameDeclared R) (function_declared list m before s).made (function_declared x n after t).made) R last (function_declared list m before s).after (function_declared x n after t).after) e
    (alike_ends R last (SameDeclared R) s t (function_declared list m before s) (function_declared list n after t) (as_before s) (as_before t)
    (λ b know q. (function_of_both R last list m n (k b) before after (i b) (known_parameters before) (known_parameters after) (known_both R (i b)) s t know, left_same R last s.scope t.scope know)) a)

-- ## Parameters

plain_parameter_ends : (R : Pairing) (last : ℕ) (h : Keep) (at name_at to name_to : At) (s t : PlainStanding) → SameStanding R last s t → {u v : PlainType} → SameType R u v
    → Ends R last (SameParameterType R) (plain_parameter_type h at name_at u s) (plain_parameter_type h to name_to v t)
plain_parameter_ends R last h at name_at to name_to s t know same_void = λ quiet. never_left last h subset.IncompleteType name_at s _ quiet
plain_parameter_ends R last h at name_at to name_to s t know (same_integer {c = c} {kind = i}) = ends_passed R last (SameParameterType R) (integer c i) (integer c i) s t same_integer_passed know
plain_parameter_ends R last h at name_at to name_to s t know (same_pointer {c = c} {t = u} {u = v} k) = ends_passed R last (SameParameterType R) (pointer c u) (pointer c v) s t (same_pointer_passed k) know
plain_parameter_ends R last h at name_at to name_to s t know (same_array {t = u} {u = v} k) = ends_passed R last (SameParameterType R) (pointer false u) (pointer false v) s t (same_pointer_passed k) know
plain_parameter_ends R last h at name_at to name_to s t know (same_structure paired) = λ quiet. never_left last h subset.StructurePassed at s _ quiet

parameter_ends : (R : Pairing) (last : ℕ) (h : Keep) (at name_at to name_to : At) (s t : PlainStanding) → SameStanding R last s t → {x y : DeclaredType} → SameDeclared R x y
    → Ends R last (SameParameterType R) (parameter_declared h at name_at (Some x) s) (parameter_declared h to name_to (Some y) t)
parameter_ends R last h at name_at to name_to s t know (same_of_type k) = plain_parameter_ends R last h at name_at to name_to s t know k
parameter_ends R last h at name_at to name_to s t know (same_of_open_array {t = u} {u = v} k) = ends_passed R last (SameParameterType R) (pointer false u) (pointer false v) s t (same_pointer_passed k) know
parameter_ends R last h at name_at to name_to s t know (same_of_function k) = ends_nothing R last (SameParameterType R) s t know
parameter_ends R last h at name_at to name_to s t know (same_of_part_function k) = ends_nothing R last (SameParameterType R) s t know

parameters_end : (R : Pairing) (last : ℕ) (h : Keep) (at name_at to name_to : At) (m n : Option DeclaredType) → Both (SameDeclared R) m n → (s t : PlainStanding) → SameStanding R last s t
    → Ends R last (SameParameterType R) (parameter_declared h at name_at m s) (parameter_declared h to name_to n t)
parameters_end R last h at name_at to name_to None None k s t know = ends_nothing R last (SameParameterType R) s t know
parameters_end R last h at name_at to name_to (Some x) (Some y) k s t know = parameter_ends R last h at name_at to name_to s t know k
parameters_end R last h at name_at to name_to None (Some y) k s t know = absurd k
parameters_end R last h at name_at to name_to (Some x) None k s t know = absurd k

pub alike_parameter : {B : Type 0} (R : Pairing) (last : ℕ) (h : Keep) (at name_at to name_to : At) (m n : Option DeclaredType) (s t : PlainStanding) → (B → Both (SameDeclared R) m n) → Alike B R last s t
    → Alike (B × Both (SameParameterType R) (parameter_declared h at name_at m s).made (parameter_declared h to name_to n t).made) R last (parameter_declared h at name_at m s).after (parameter_declared h to name_to n t).after
alike_parameter R last h at name_at to name_to m n s t k a =
    alike_ends R last (SameParameterType R) s t (parameter_declared h at name_at m s) (parameter_declared h to name_to n t) (grown (over_parameter h at name_at m s)) (grown (over_parameter h to name_to n t))
    (λ b know. parameters_end R last h at name_at to name_to m n (k b) s t know) a

with_parameter_same : (R : Pairing) (last : ℕ) (h : Keep) (i : ℕ) {a b : Option (Identifier At)} → SameName a b → (m n : Option PlainType) → Both (SameParameterType R) m n → (s t : PlainStanding) → SameStanding R last s t
    → AreQuiet last (with_parameter h i a m s) (with_parameter h i b n t) → SameStanding R last (with_parameter h i a m s) (with_parameter h i b n t)
with_parameter_same R last h i same_no_name m n k s t know q = know
with_parameter_same R last h i (same_name {at = at} {to = to} {name = name}) None None k s t know q = declaring_same R last h name at to same_unknown_name s t know q
with_parameter_same R last h i (same_name {at = at} {to = to} {name = name}) (Some u) (Some v) k s t know q = declaring_same R last h name at to (same_local (parameter_type R k)) s t know q
with_parameter_same R last h i same_name None (Some v) k s t know q = absurd k
with_parameter_same R last h i same_name (Some u) None k s t know q = absurd k

-- a name that a parameter declares
pub alike_with_parameter : {B : Type 0} (R : Pairing) (last : ℕ) (h : Keep) (i : ℕ) (a b : Option (Identifier At)) → SameName a b → (m n : Option PlainType) (s t : PlainStanding) → (B → Both (SameParameterType R) m n) → Alike B R last s t
    → Alike B R last (with_parameter h i a m s) (with_parameter h i b n t)
alike_with_parameter R last h i a b same m n s t k alike =
    alike_on R last s t (with_parameter h i a m s) (with_parameter h i b n t) (grown (over_with_parameter h i a m s)) (grown (over_with_parameter h i b n t)) (λ c know q. with_parameter_same R last h i same m n (k c) s t know q) alike
