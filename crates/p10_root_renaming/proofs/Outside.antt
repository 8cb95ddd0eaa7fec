-- In the same words declarations outside of functions declare the same.
use Rattle.std.proofs.Common.{◌≡◌, refl, ℕ, ◌&&◌, ◌||◌, not, Bool, true, false, List, [], ◌∷◌, ◌++◌, map, Option, Some, None, option_map, subst}
use Rattle.std.specs.Prelude.{if◌then◌else◌}
use Rattle.p10_base.specs.Words.{Text}
use Rattle.p10_base.specs.declared.at.At.{At}
use Rattle.p10_base.specs.declared.codes.SubsetCode.TheVariants as subset
use Rattle.p10_syn.specs.Trees.{Identifier, Initializer, InitDeclarator, Declaration}
use Rattle.p10_core.specs.Types.{PlainType, array, unqualified}
use Rattle.p10_core.specs.Rows.{same, is_complete, is_void}
use Rattle.p10_core.specs.Typed.{PlainInitializer}
use Rattle.p10_elabx.specs.First.{Keep}
use Rattle.p10_elabd.specs.Standing.{PlainStanding, Passed, passed, refusing}
use Rattle.p10_elabd.specs.Words.{storage_of, is_volatile}
use Rattle.p10_elabd.specs.declared.site.Site.TheVariants as site_is
use Rattle.p10_elabd.specs.declared.site.Storage.{Storage}
use Rattle.p10_elabd.specs.Shapes.{PlainParameter, FunctionType, ListedParameter, PartFunction, DeclaredType, of_type, of_open_array, name_in, declares_open_array}
use Rattle.p10_elabd.specs.Declaring.{declarator_passed, based}
use Rattle.p10_elabd.specs.Initializers.{elements_given}
use Rattle.p10_elabd.specs.declared.lifetime.Lifetime.TheVariants as life_is
use Rattle.p10_heads.specs.Heads.{Heads, number_in}
use Rattle.p10_linkage.specs.Linkage.{LinkedType, an_object, unknown_object, Linked, is_static}
use Rattle.p10_elabs.specs.Addresses.{constants_of}
use Rattle.p10_elabs.specs.Locals.{specified_in, makes_sensors, no_initializer, typedef_passed, filled_array, is_written, brackets_of, initialized_by}
use Rattle.p10_elabs.specs.LocalDeclarations.{is_typedef}
use Rattle.p10_elab.specs.Knowledge.{Known, linked_of, with_linked, with_standing, without_linkage}
use Rattle.p10_elab.specs.Outer.{is_site, with_defined, is_extern, with_tentative, object_declared, before_in, composite_of, composite, gets_length, open_outside, array_outside, outer_type, object_outside, function_type, part_type, prototype_declared, object_by_type, object_by_form, by_type_outside, outer_named, outer_declarators, main_constants, declared_outside}
use Rattle.p10_renaming.specs.Renaming.{Pairing, passing, SameType, SameParameterType, same_void, same_integer, same_pointer, same_array, same_structure}
use Rattle.p10_expression_renaming.specs.Mapped.{mapped_declarator}
use Rattle.p10_expression_renaming.specs.MappedStatements.{mapped_initializer, mapped_init_declarator, mapped_declaration}
use Rattle.p10_expression_renaming.specs.Knowing.{SameParameterTypes, same_no_parameter_types, same_more_parameter_types, IsOneToOne}
use Rattle.p10_expression_renaming.proofs.Finding.{by_same}
use Rattle.p10_expression_renaming.proofs.Sameness.{SameName, same_no_name, same_name}
use Rattle.p10_expression_renaming.proofs.Types.{one_same, unqualified_same, parameter_type, parameter_passed, unqualified_parameter}
use Rattle.p10_expression_renaming.proofs.TypeNames.{left, right}
use Rattle.p10_declaration_renaming.specs.Standings.{Both, SameStanding, AreQuiet, SameParameters, same_no_parameters, same_more_parameters, SameFunctionType, SameListed, same_none_listed, same_more_listed, SamePartFunction, SameDeclared, same_of_type, same_of_open_array, same_of_function, same_of_part_function}
use Rattle.p10_declaration_renaming.proofs.Boths.{both_map}
use Rattle.p10_declaration_renaming.proofs.Alike.{Ends, quiet_before, ends_nothing, ends_passed, ends_unless}
use Rattle.p10_declaration_renaming.proofs.Naming.{name_in_same}
use Rattle.p10_declaration_renaming.proofs.Declaring.{declarators_renamed}
use Rattle.p10_declaration_renaming.proofs.Texts.{elements_same}
use Rattle.p10_statement_renaming.proofs.Declarations.{storage_same, word_same, named_at, refusing_same, specified_both, initial_both, no_initial_same, filled_ends, typedef_done_same}
use Rattle.p10_root_renaming.specs.Roots.{SameKnownTypes, same_none_known, same_more_known, SameLinkedType, same_a_function, same_an_object, same_a_part_function, same_unknown_object, SameLinked, SameHeads, SameKnown}
use Rattle.p10_root_renaming.specs.Laws.{DeclarationsRenamed}
use Rattle.p10_root_renaming.proofs.Linking.{before_same, linked_same, with_linked_same}
use Rattle.p10_root_steps.proofs.Parts.{over_defined, over_object_outside}
use Rattle.p10_root_steps.proofs.Passing.{over_after_type, over_outer_named, over_outside}
use Rattle.p10_declaration_renaming.proofs.Growing.{grown}
use Rattle.p10_root_renaming.proofs.GrowingOutside.{grown_outside}

-- what is known after parts of both roots that are the same
abbrev pub Agree : Pairing → ℕ → Known → Known → Type 0
Agree R last k j = AreQuiet last k.standing j.standing → SameKnown R last k j

pub known_at : (R : Pairing) (last : ℕ) (k j : Known) (s t : PlainStanding) → SameKnown R last k j → SameStanding R last s t → SameKnown R last (with_standing k s) (with_standing j t)
known_at R last k j s t know stand = record { standing = stand; root = know.root; linked = know.linked; functions = know.functions }

-- ## Types of objects

composite_either : (R : Pairing) → IsOneToOne R → {t u : PlainType} → SameType R t u → {a b : LinkedType} → SameLinkedType R a b → Both (SameType R) (composite_of t a) (composite_of u b)
composite_either R one {t = t} {u = u} h (same_an_object (same_array {c = c} {t = x} {u = y} {n = n} k)) =
    by_same (Both (SameType R)) (same t x) (same u y) (one_same R one h k) (Some (array c x n)) None (Some (array c y n)) None (same_array k) tt
composite_either R one h (same_an_object same_void) = tt
composite_either R one h (same_an_object same_integer) = tt
composite_either R one h (same_an_object (same_pointer k)) = tt
composite_either R one h (same_an_object (same_structure paired)) = tt
composite_either R one h (same_a_function ks k) = tt
composite_either R one h (same_a_part_function p) = tt
composite_either R one h same_unknown_object = tt

composite_same : (R : Pairing) → IsOneToOne R → {t u : PlainType} → SameType R t u → (a b : Option Linked) → Both (SameLinked R) a b → Both (SameType R) (composite t a) (composite u b)
composite_same R one h None None k = tt
composite_same R one h (Some l) (Some m) k = composite_either R one h k.type
composite_same R one h None (Some m) k = absurd k
composite_same R one h (Some l) None k = absurd k

-- what has an initialiser at the one place has it at the other
written_both : (i : Option (Initializer (At × At))) → is_written (option_map (mapped_initializer left) i) ≡ is_written (option_map (mapped_initializer right) i)
written_both None = refl
written_both (Some i) = refl

array_ends : (R : Pairing) → IsOneToOne R → (last : ℕ) (h : Keep) (at to brackets others : At) (text : Text) (t u : PlainType) → SameType R t u → (i : Option (Initializer (At × At))) (o q : Option PlainType) → Both (SameType R) o q → (s v : PlainStanding) → SameStanding R last s v
    → Ends R last (SameType R) (array_outside h (named_at at text) brackets t (option_map (mapped_initializer left) i) o s) (array_outside h (named_at to text) others u (option_map (mapped_initializer right) i) q v)
array_ends R one last h at to brackets others text t u k i (Some x) (Some y) j s v know = ends_passed R last (SameType R) x y s v j know
array_ends R one last h at to brackets others text t u k None None None j s v know = ends_nothing R last (SameType R) s v know
array_ends R one last h at to brackets others text t u k (Some i) None None j s v know =
    subst (λ n. Ends R last (SameType R) (array_outside h (named_at at text) brackets t (Some (mapped_initializer left i)) None s) (filled_array h (named_at to text) others u (mapped_initializer right i) n v))
    (elements_same R k i) (filled_ends R one last h at to brackets others text t u k i (elements_given t (mapped_initializer left i)) s v know)
array_ends R one last h at to brackets others text t u k i None (Some y) j s v know = absurd j
array_ends R one last h at to brackets others text t u k i (Some x) None j s v know = absurd j

outer_ends : (R : Pairing) → IsOneToOne R → (last : ℕ) (h : Keep) (at to brackets others : At) (text : Text) (w : Storage) (i : Option (Initializer (At × At))) (a b : Option Linked) → Both (SameLinked R) a b → (d e : DeclaredType) → SameDeclared R d e → (s v : PlainStanding) → SameStanding R last s v
    → Ends R last (SameType R) (outer_type h (named_at at text) brackets w (option_map (mapped_initializer left) i) a d s) (outer_type h (named_at to text) others w (option_map (mapped_initializer right) i) b e v)
outer_ends R one last h at to brackets others text w i a b before d e (same_of_type {t = t} {u = u} k) s v know =
    ends_unless R last (SameType R) h subset.IncompleteType subset.IncompleteType at to
    (is_complete s.scope.structures t || not (is_written (option_map (mapped_initializer left) i) || (is_static w || is_void t))) (is_complete v.scope.structures u || not (is_written (option_map (mapped_initializer right) i) || (is_static w || is_void u)))
    (passed t s) (passed u v) s v (λ x y. ends_passed R last (SameType R) t u s v k know)
outer_ends R one last h at to brackets others text w i a b before d e (same_of_open_array {t = t} {u = u} k) s v know =
    array_ends R one last h at to brackets others text t u k i (composite t a) (composite u b) (composite_same R one k a b before) s v know
outer_ends R one last h at to brackets others text w i a b before d e (same_of_function k) s v know = ends_nothing R last (SameType R) s v know
outer_ends R one last h at to brackets others text w i a b before d e (same_of_part_function p) s v know = ends_nothing R last (SameType R) s v know

-- ## Objects

-- tentative definitions and definitions of objects are free
tentative_same : (R : Pairing) (last : ℕ) (x y : Identifier At) (t u : PlainType) (s : Storage) (i e : Option (Initializer At)) (k j : Known) → SameKnown R last k j → SameKnown R last (with_tentative x t s i k) (with_tentative y u s e j)
tentative_same R last x y t u s i e k j know = by_tests (is_written i || is_extern s) (is_written e || is_extern s)
  where
    by_tests : (b c : Bool) → SameKnown R last (if b then k else record k { tentative = k.tentative ++ record { name = x; type = t } ∷ [] }) (if c then j else record j { tentative = j.tentative ++ record { name = y; type = u } ∷ [] })
    by_tests true true = know
    by_tests true false = record { standing = know.standing; root = know.root; linked = know.linked; functions = know.functions }
    by_tests false true = record { standing = know.standing; root = know.root; linked = know.linked; functions = know.functions }
    by_tests false false = record { standing = know.standing; root = know.root; linked = know.linked; functions = know.functions }

-- a root with an object more
more_defined : (R : Pairing) (last : ℕ) (heads : Heads) (l : Linked) (x : Identifier At) (t : PlainType) (o : Option PlainInitializer) (k j : Known) → SameKnown R last k j → SameKnown R last (with_defined heads l x t o k) j
more_defined R last heads l x t None k j know = know
more_defined R last heads l x t (Some i) k j know = by_test (is_site heads x)
  where
    by_test : (b : Bool) → SameKnown R last (if b then record k { objects = k.objects ++ record { number = number_in heads.objects l.root l.internal l.name; name = x; type = t; initializer = i; sensor = l.sensor } ∷ [] } else k) j
    by_test true = record { standing = know.standing; root = know.root; linked = know.linked; functions = know.functions }
    by_test false = know

defined_there : (R : Pairing) (last : ℕ) (heads : Heads) (m : Linked) (y : Identifier At) (u : PlainType) (q : Option PlainInitializer) (k j : Known) → SameKnown R last k j → SameKnown R last k (with_defined heads m y u q j)
defined_there R last heads m y u None k j know = know
defined_there R last heads m y u (Some i) k j know = by_test (is_site heads y)
  where
    by_test : (b : Bool) → SameKnown R last k (if b then record j { objects = j.objects ++ record { number = number_in heads.objects m.root m.internal m.name; name = y; type = u; initializer = i; sensor = m.sensor } ∷ [] } else j)
    by_test true = record { standing = know.standing; root = know.root; linked = know.linked; functions = know.functions }
    by_test false = know

object_same : (R : Pairing) → IsOneToOne R → (last : ℕ) (h : Keep) (heads others : Heads) → SameHeads heads others → (at to : At) (text : Text) (t u : PlainType) → SameType R t u → (s : Storage) (sensor : Bool) (i : Option (Initializer (At × At))) (k j : Known) → SameKnown R last k j
    → Agree R last (object_declared h heads (named_at at text) t s sensor (option_map (mapped_initializer left) i) k) (object_declared h others (named_at to text) u s sensor (option_map (mapped_initializer right) i) j)
object_same R one last h heads others same at to text t u n s sensor i k j know quiet =
    let these : Option (Initializer At) = option_map (mapped_initializer left) i in
    let those : Option (Initializer At) = option_map (mapped_initializer right) i in
    let l : Linked = linked_of k (named_at at text) (an_object t) s (is_written these) sensor in
    let m : Linked = linked_of j (named_at to text) (an_object u) s (is_written those) sensor in
    let a : Known = with_tentative (named_at at text) t s these (with_linked h heads l k) in
    let b : Known = with_tentative (named_at to text) u s those (with_linked h others m j) in
    let inside : SameKnown R last a b =
    tentative_same R last (named_at at text) (named_at to text) t u s these those (with_linked h heads l k) (with_linked h others m j)
    (with_linked_same R last h heads others same l m (linked_same R last at to text s (is_written these) (is_written those) sensor (written_both i) (same_an_object n) k j know) k j know) in
    let p : Passed PlainInitializer = initialized_by h life_is.Static t these a.standing in
    let q : Passed PlainInitializer = initialized_by h life_is.Static u those b.standing in
    let r = initial_both R one last h life_is.Static t u n i a.standing b.standing (λ x. inside.standing)
    (quiet_before last p.after q.after (with_defined heads l (named_at at text) t p.made (with_standing a p.after)).standing (with_defined others m (named_at to text) u q.made (with_standing b q.after)).standing
    (grown (over_defined h heads l (named_at at text) t p.made (with_standing a p.after))) (grown (over_defined h others m (named_at to text) u q.made (with_standing b q.after))) quiet) in
    more_defined R last heads l (named_at at text) t p.made (with_standing a p.after) (with_defined others m (named_at to text) u q.made (with_standing b q.after))
    (defined_there R last others m (named_at to text) u q.made (with_standing a p.after) (with_standing b q.after) (known_at R last a b p.after q.after inside r.1.1))

object_made : (R : Pairing) → IsOneToOne R → (last : ℕ) (h : Keep) (heads others : Heads) → SameHeads heads others → (at to : At) (text : Text) (s : Storage) (sensor : Bool) (i : Option (Initializer (At × At))) (k j : Known) → SameKnown R last k j
    → (o q : Option PlainType) → Both (SameType R) o q → (v w : PlainStanding) → SameStanding R last v w
    → Agree R last (object_outside h heads (named_at at text) s sensor (option_map (mapped_initializer left) i) k (record { made = o; after = v })) (object_outside h others (named_at to text) s sensor (option_map (mapped_initializer right) i) j (record { made = q; after = w }))
object_made R one last h heads others same at to text s sensor i k j know (Some t) (Some u) n v w stand =
    object_same R one last h heads others same at to text t u n s sensor i (with_standing k v) (with_standing j w) (known_at R last k j v w know stand)
object_made R one last h heads others same at to text s sensor i k j know None None n v w stand = λ quiet.
    let a : Known = with_standing k v in
    let b : Known = with_standing j w in
    let these : Bool = is_written (option_map (mapped_initializer left) i) in
    let those : Bool = is_written (option_map (mapped_initializer right) i) in
    let inside : SameKnown R last a b = known_at R last k j v w know stand in
    with_linked_same R last h heads others same (linked_of a (named_at at text) unknown_object s these sensor) (linked_of b (named_at to text) unknown_object s those sensor)
    (linked_same R last at to text s these those sensor (written_both i) same_unknown_object a b inside) a b inside
object_made R one last h heads others same at to text s sensor i k j know None (Some u) n v w stand = absurd n
object_made R one last h heads others same at to text s sensor i k j know (Some t) None n v w stand = absurd n

-- ## Declarators

by_type_same : (R : Pairing) → IsOneToOne R → (last : ℕ) (h : Keep) (heads others : Heads) → SameHeads heads others → (s : Storage) (sensor : Bool) (at to : At) (text : Text) (d : InitDeclarator (At × At)) (k j : Known) → SameKnown R last k j
    → (o q : Option DeclaredType) → Both (SameDeclared R) o q → Agree R last (object_by_type h heads s sensor (named_at at text) (mapped_init_declarator left d) k o) (object_by_type h others s sensor (named_at to text) (mapped_init_declarator right d) j q)
by_type_same R one last h heads others same s sensor at to text d k j know None None n = λ quiet.
    let these : Bool = is_written (option_map (mapped_initializer left) d.initial) in
    let those : Bool = is_written (option_map (mapped_initializer right) d.initial) in
    with_linked_same R last h heads others same (linked_of k (named_at at text) unknown_object s these sensor) (linked_of j (named_at to text) unknown_object s those sensor)
    (linked_same R last at to text s these those sensor (written_both d.initial) same_unknown_object k j know) k j know
by_type_same R one last h heads others same s sensor at to text d k j know (Some x) (Some y) n = λ quiet.
    let these : Option (Initializer At) = option_map (mapped_initializer left) d.initial in
    let those : Option (Initializer At) = option_map (mapped_initializer right) d.initial in
    let a : At = brackets_of (mapped_declarator left d.declarator) in
    let b : At = brackets_of (mapped_declarator right d.declarator) in
    let p : Passed PlainType = outer_type h (named_at at text) a s these (before_in k (named_at at text)) x k.standing in
    let q : Passed PlainType = outer_type h (named_at to text) b s those (before_in j (named_at to text)) y j.standing in
    let r = outer_ends R one last h at to a b text s d.initial (before_in k (named_at at text)) (before_in j (named_at to text)) (before_same R last k j know text) x y n k.standing j.standing know.standing
    (quiet_before last p.after q.after (object_outside h heads (named_at at text) s sensor these k p).standing (object_outside h others (named_at to text) s sensor those j q).standing
    (grown (over_object_outside h heads (named_at at text) s sensor these k p.made p.after)) (grown (over_object_outside h others (named_at to text) s sensor those j q.made q.after)) quiet) in
    object_made R one last h heads others same at to text s sensor d.initial k j know p.made q.made r.0 p.after q.after r.1 quiet
by_type_same R one last h heads others same s sensor at to text d k j know None (Some y) n = absurd n
by_type_same R one last h heads others same s sensor at to text d k j know (Some x) None n = absurd n

open_same : (R : Pairing) (last : ℕ) (h : Keep) (b c m n : Bool) (at to : At) (s t : PlainStanding) → SameStanding R last s t → SameStanding R last (if b then s else refusing h m subset.IncompleteType at s) (if c then t else refusing h n subset.IncompleteType to t)
open_same R last h true true m n at to s t know = know
open_same R last h true false m n at to s t know = refusing_same R last h false n subset.IncompleteType subset.IncompleteType at to s t know
open_same R last h false true m n at to s t know = refusing_same R last h m false subset.IncompleteType subset.IncompleteType at to s t know
open_same R last h false false m n at to s t know = refusing_same R last h m n subset.IncompleteType subset.IncompleteType at to s t know

by_form_same : (R : Pairing) → IsOneToOne R → (last : ℕ) (h : Keep) (heads others : Heads) → SameHeads heads others → (s : Storage) (sensor : Bool) (at to : At) (text : Text) (d : InitDeclarator (At × At)) (k j : Known) → SameKnown R last k j
    → (o q : Option DeclaredType) → Both (SameDeclared R) o q → Agree R last (object_by_form h heads s sensor (named_at at text) (mapped_init_declarator left d) k o) (object_by_form h others s sensor (named_at to text) (mapped_init_declarator right d) j q)
by_form_same R one last h heads others same s sensor at to text d k j know o q n =
    let a : InitDeclarator At = mapped_init_declarator left d in
    let b : InitDeclarator At = mapped_init_declarator right d in
    let v : PlainStanding = open_outside h (named_at at text) a (before_in k (named_at at text)) o k.standing in
    let w : PlainStanding = open_outside h (named_at to text) b (before_in j (named_at to text)) q j.standing in
    by_type_same R one last h heads others same s sensor at to text d (with_standing k v) (with_standing j w)
    (known_at R last k j v w know
    (open_same R last h (gets_length (before_in k (named_at at text)) o) (gets_length (before_in j (named_at to text)) q)
    (declares_open_array a.declarator && not (is_written a.initial)) (declares_open_array b.declarator && not (is_written b.initial)) at to k.standing j.standing know.standing)) o q n

pub parameter_types_same : (R : Pairing) → IsOneToOne R → {ps qs : List PlainParameter} → SameParameters R ps qs → SameParameterTypes (passing R) (map (λ p. unqualified p.type) ps) (map (λ p. unqualified p.type) qs)
parameter_types_same R one same_no_parameters = same_no_parameter_types
parameter_types_same R one (same_more_parameters h rest) = same_more_parameter_types (unqualified_parameter (passing R) (parameter_passed R one h.type)) (parameter_types_same R one rest)

pub function_type_same : (R : Pairing) → IsOneToOne R → {f g : FunctionType} → SameFunctionType R f g → SameLinkedType R (function_type f) (function_type g)
function_type_same R one h = same_a_function (parameter_types_same R one h.parameters) h.result

listed_types_same : (R : Pairing) {ps qs : List ListedParameter} → SameListed R ps qs → SameKnownTypes R (map (λ p. option_map unqualified p.type) ps) (map (λ p. option_map unqualified p.type) qs)
listed_types_same R same_none_listed = same_none_known
listed_types_same R (same_more_listed {p = p} {q = q} h rest) = same_more_known (both_map (SameParameterType R) (SameType R) unqualified unqualified (λ t u k. unqualified_same R (parameter_type R k)) p.type q.type h.type) (listed_types_same R rest)

pub part_type_same : (R : Pairing) {f g : PartFunction} → SamePartFunction R f g → SameLinkedType R (part_type f) (part_type g)
part_type_same R h = same_a_part_function (record { parameters = listed_types_same R h.parameters; list = h.list; result = h.result })

prototype_same : (R : Pairing) → IsOneToOne R → (last : ℕ) (h : Keep) (heads others : Heads) → SameHeads heads others → (at to : At) (text : Text) (t u : LinkedType) → SameLinkedType R t u → (s : Storage) (i : Option (Initializer (At × At))) (k j : Known) → SameKnown R last k j
    → Agree R last (prototype_declared h heads (named_at at text) t s (option_map (mapped_initializer left) i) k) (prototype_declared h others (named_at to text) u s (option_map (mapped_initializer right) i) j)
prototype_same R one last h heads others same at to text t u n s i k j know quiet =
    let l : Linked = linked_of k (named_at at text) t s false false in
    let m : Linked = linked_of j (named_at to text) u s false false in
    let a : Known = with_linked h heads l k in
    let b : Known = with_linked h others m j in
    let inside : SameKnown R last a b = with_linked_same R last h heads others same l m (linked_same R last at to text s false false false refl n k j know) k j know in
    known_at R last a b (no_initializer h (option_map (mapped_initializer left) i) a.standing) (no_initializer h (option_map (mapped_initializer right) i) b.standing) inside (no_initial_same R one last h i a.standing b.standing inside.standing quiet)

declared_same : (R : Pairing) → IsOneToOne R → (last : ℕ) (h : Keep) (heads others : Heads) → SameHeads heads others → (s : Storage) (sensor : Bool) (at to : At) (text : Text) (d : InitDeclarator (At × At)) (k j : Known) → SameKnown R last k j
    → (o q : Option DeclaredType) → Both (SameDeclared R) o q → Agree R last (by_type_outside h heads s sensor (named_at at text) (mapped_init_declarator left d) k o) (by_type_outside h others s sensor (named_at to text) (mapped_init_declarator right d) j q)
declared_same R one last h heads others same s sensor at to text d k j know None None n = by_form_same R one last h heads others same s sensor at to text d k j know None None tt
declared_same R one last h heads others same s sensor at to text d k j know (Some x) (Some y) (same_of_type {t = t} {u = u} n) =
    by_form_same R one last h heads others same s sensor at to text d k j know (Some (of_type t)) (Some (of_type u)) (same_of_type n)
declared_same R one last h heads others same s sensor at to text d k j know (Some x) (Some y) (same_of_open_array {t = t} {u = u} n) =
    by_form_same R one last h heads others same s sensor at to text d k j know (Some (of_open_array t)) (Some (of_open_array u)) (same_of_open_array n)
declared_same R one last h heads others same s sensor at to text d k j know (Some x) (Some y) (same_of_function {f = f} {g = g} n) =
    prototype_same R one last h heads others same at to text (function_type f) (function_type g) (function_type_same R one n) s d.initial k j know
declared_same R one last h heads others same s sensor at to text d k j know (Some x) (Some y) (same_of_part_function {f = f} {g = g} n) =
    prototype_same R one last h heads others same at to text (part_type f) (part_type g) (part_type_same R n) s d.initial k j know
declared_same R one last h heads others same s sensor at to text d k j know None (Some y) n = absurd n
declared_same R one last h heads others same s sensor at to text d k j know (Some x) None n = absurd n

-- a typedef, or what has linkage
typedef_or : (R : Pairing) → IsOneToOne R → (last : ℕ) (h : Keep) (heads others : Heads) → SameHeads heads others → (s : Storage) (sensor : Bool) (at to : At) (text : Text) (d : InitDeclarator (At × At)) (k j : Known) (v w : PlainStanding) → SameStanding R last v w
    → SameKnown R last k j → (o q : Option DeclaredType) → Both (SameDeclared R) o q → (b : Bool)
    → Agree R last (if b then without_linkage (named_at at text) (no_initializer h (option_map (mapped_initializer left) d.initial) (typedef_passed h (named_at at text) (mapped_declarator left d.declarator) o v)) k else by_type_outside h heads s sensor (named_at at text) (mapped_init_declarator left d) (with_standing k v) o)
    (if b then without_linkage (named_at to text) (no_initializer h (option_map (mapped_initializer right) d.initial) (typedef_passed h (named_at to text) (mapped_declarator right d.declarator) q w)) j else by_type_outside h others s sensor (named_at to text) (mapped_init_declarator right d) (with_standing j w) q)
typedef_or R one last h heads others same s sensor at to text d k j v w stand know o q n false =
    declared_same R one last h heads others same s sensor at to text d (with_standing k v) (with_standing j w) (known_at R last k j v w know stand) o q n
typedef_or R one last h heads others same s sensor at to text d k j v w stand know o q n true = λ quiet. record {
  standing = typedef_done_same R one last h at to text d o q n v w stand quiet;
  root = know.root;
  linked = know.linked;
  functions = know.functions;
}

named_same : (R : Pairing) → IsOneToOne R → (last : ℕ) (h : Keep) (heads others : Heads) → SameHeads heads others → (s : Storage) (sensor : Bool) (t u : Option PlainType) → Both (SameType R) t u → (k j : Known) → SameKnown R last k j → (d : InitDeclarator (At × At))
    → (x y : Option (Identifier At)) → SameName x y → Agree R last (outer_named h heads s sensor t k (mapped_init_declarator left d) x) (outer_named h others s sensor u j (mapped_init_declarator right d) y)
named_same R one last h heads others same s sensor t u n k j know d x y same_no_name = λ quiet. know
named_same R one last h heads others same s sensor t u n k j know d x y (same_name {at = at} {to = to} {name = text}) = λ quiet.
    let a : InitDeclarator At = mapped_init_declarator left d in
    let b : InitDeclarator At = mapped_init_declarator right d in
    let p : Passed DeclaredType = declarator_passed h at (based t k.standing) a.declarator in
    let q : Passed DeclaredType = declarator_passed h to (based u j.standing) b.declarator in
    let r = declarators_renamed R one last h k.standing j.standing at to t u (λ x. n) d.declarator (λ x. know.standing)
    (quiet_before last p.after q.after
    (if is_typedef s then without_linkage (named_at at text) (no_initializer h a.initial (typedef_passed h (named_at at text) a.declarator p.made p.after)) k else by_type_outside h heads s sensor (named_at at text) a (with_standing k p.after) p.made).standing
    (if is_typedef s then without_linkage (named_at to text) (no_initializer h b.initial (typedef_passed h (named_at to text) b.declarator q.made q.after)) j else by_type_outside h others s sensor (named_at to text) b (with_standing j q.after) q.made).standing
    (grown_outside (over_after_type h heads s sensor (named_at at text) a k p.after p.made (is_typedef s))) (grown_outside (over_after_type h others s sensor (named_at to text) b j q.after q.made (is_typedef s))) quiet) in
    typedef_or R one last h heads others same s sensor at to text d k j p.after q.after r.1.1 know p.made q.made r.1.0 (is_typedef s) quiet

-- with what the specifiers name
abbrev Agreeing : Pairing → ℕ → Option PlainType → Option PlainType → Known → Known → Type 0
Agreeing R last t u k j = AreQuiet last k.standing j.standing → Both (SameType R) t u × SameKnown R last k j

declarators_same : (R : Pairing) → IsOneToOne R → (last : ℕ) (h : Keep) (heads others : Heads) → SameHeads heads others → (s : Storage) (sensor : Bool) (t u : Option PlainType) (k j : Known) → Agreeing R last t u k j → (all : List (InitDeclarator (At × At)))
    → Agreeing R last t u (outer_declarators h heads s sensor t k (map (mapped_init_declarator left) all)) (outer_declarators h others s sensor u j (map (mapped_init_declarator right) all))
declarators_same R one last h heads others same s sensor t u k j a [] = a
declarators_same R one last h heads others same s sensor t u k j a (d ∷ rest) =
    let x : Known = outer_named h heads s sensor t k (mapped_init_declarator left d) (name_in (mapped_declarator left d.declarator)) in
    let y : Known = outer_named h others s sensor u j (mapped_init_declarator right d) (name_in (mapped_declarator right d.declarator)) in
    declarators_same R one last h heads others same s sensor t u x y
    (λ quiet.
    let b = a (quiet_before last k.standing j.standing x.standing y.standing (grown_outside (over_outer_named h heads s sensor t k (mapped_init_declarator left d) (name_in (mapped_declarator left d.declarator))))
    (grown_outside (over_outer_named h others s sensor u j (mapped_init_declarator right d) (name_in (mapped_declarator right d.declarator)))) quiet) in
    (b.0, named_same R one last h heads others same s sensor t u b.0 k j b.1 d (name_in (mapped_declarator left d.declarator)) (name_in (mapped_declarator right d.declarator)) (name_in_same d.declarator) quiet)) rest

pub declarations_renamed : DeclarationsRenamed
unfolding declared_outside
declarations_renamed R one last h heads others same k j d start quiet =
    let a : Declaration At = mapped_declaration left d in
    let b : Declaration At = mapped_declaration right d in
    let t : Passed PlainType = specified_in h true site_is.Outside k.standing a in
    let u : Passed PlainType = specified_in h true site_is.Outside j.standing b in
    let m : Known = record k { standing = t.after; mains = k.mains ++ main_constants (constants_of a.specifiers) } in
    let n : Known = record j { standing = u.after; mains = j.mains ++ main_constants (constants_of b.specifiers) } in
    let before : AreQuiet last k.standing j.standing = quiet_before last k.standing j.standing (declared_outside h heads k a).standing (declared_outside h others j b).standing (grown_outside (over_outside h heads k a)) (grown_outside (over_outside h others j b)) quiet in
    let know : SameKnown R last k j = start before in
    let begun : Agreeing R last t.made u.made m n = λ x.
    let r = specified_both R one last h true site_is.Outside k.standing j.standing d (λ y. know.standing) x in
    (r.1.0, record { standing = r.1.1; root = know.root; linked = know.linked; functions = know.functions }) in
    let law : Agreeing R last t.made u.made (outer_declarators h heads (storage_of a.specifiers) (makes_sensors a) t.made m a.declarators) (outer_declarators h others (storage_of b.specifiers) (makes_sensors b) u.made n b.declarators) =
    subst (λ x. Agreeing R last t.made u.made (outer_declarators h heads (storage_of a.specifiers) (makes_sensors a) t.made m a.declarators) (outer_declarators h others x (makes_sensors b) u.made n b.declarators)) (storage_same d.specifiers)
    (subst (λ x. Agreeing R last t.made u.made (outer_declarators h heads (storage_of a.specifiers) (makes_sensors a) t.made m a.declarators) (outer_declarators h others (storage_of a.specifiers) x u.made n b.declarators)) (word_same is_volatile d.specifiers)
    (declarators_same R one last h heads others same (storage_of a.specifiers) (makes_sensors a) t.made u.made m n begun d.declarators)) in
    (before, (tt, (law quiet).1))
