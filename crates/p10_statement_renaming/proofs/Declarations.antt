-- In the same words declarations in blocks become the same in both bodies.
use Rattle.std.proofs.Common.{◌≡◌, ℕ, ◌+◌, ◌*◌, Bool, true, false, not, ◌&&◌, ◌||◌, List, [], ◌∷◌, ◌++◌, map, length, Option, Some, None, option_map, refl, ap, subst}
use Rattle.std.specs.Prelude.{if◌then◌else◌, nat_le}
use Rattle.p10_base.specs.Words.{Text}
use Rattle.p10_base.specs.declared.at.At.{At}
use Rattle.p10_base.specs.declared.codes.SubsetCode.{SubsetCode}
use Rattle.p10_base.specs.declared.codes.SubsetCode.TheVariants as subset
use Rattle.p10_syn.specs.declared.sign.Sign.{Sign}
use Rattle.p10_syn.specs.Trees.{Identifier, Specifiers, NoSpecifiers, MoreSpecifiers, Keyword, Typedef, Structure, Enumeration, Declarator, Named, Unnamed, Pointer, Parenthesised, Array, Function, Initializer, InitDeclarator, Declaration}
use Rattle.p10_core.specs.Types.{PlainType, array}
use Rattle.p10_core.specs.Sizes.{size_of}
use Rattle.p10_core.specs.Rows.{is_complete}
use Rattle.p10_core.specs.Typed.{PlainStatement, statement, declare, PlainInitializer, PlainVariable}
use Rattle.p10_core.specs.WholePrograms.{most_bytes, is_among}
use Rattle.p10_elabx.specs.First.{Keep}
use Rattle.p10_elabx.specs.Scopes.{Meaning, local, object, entered}
use Rattle.p10_elabx.specs.TypeNames.{declarator_place}
use Rattle.p10_elabd.specs.Standing.{PlainStanding, Passed, passed, refusing}
use Rattle.p10_elabd.specs.Words.{storage_by, storage_from, storage_of, has_word, is_volatile}
use Rattle.p10_elabd.specs.declared.site.Site.{Site}
use Rattle.p10_elabd.specs.declared.site.Storage.{Storage}
use Rattle.p10_elabd.specs.declared.site.Storage.TheVariants as storage_is
use Rattle.p10_elabd.specs.Blocks.{is_taken, declaring}
use Rattle.p10_elabd.specs.Shapes.{DeclaredType, name_in, function_from, declares_function, declares_open_array}
use Rattle.p10_elabd.specs.Declaring.{specified, declarator_passed, based}
use Rattle.p10_elabd.specs.Initializers.{elements_given, initialized}
use Rattle.p10_elabd.specs.declared.lifetime.Lifetime.{Lifetime}
use Rattle.p10_elabd.specs.declared.lifetime.Lifetime.TheVariants as life_is
use Rattle.p10_heads.specs.Heads.{number_at}
use Rattle.p10_elabs.specs.Locals.{Frame, Local, with_standing, declares_sensors, volatile_noted, allowed_by, is_one, is_none, is_alone, specified_in, makes_sensors, no_initializer, unknown_in, typedef_of, typedef_passed, counted_array, awaiting, awaited, measured, filled_array, is_written, object_type, brackets_of, initialized_by}
use Rattle.p10_elabs.specs.LocalDeclarations.{Declaring, is_frame_variable, with_variable, variable_item, variable_where, with_object, object_item, object_where, no_items, declared_object, object_in_block, prototype_passed, by_storage, is_prototype, local_named, local_declarators, declared_locally}
use Rattle.p10_renaming.specs.Renaming.{Pairing, SameType, same_array, SameInitializer, same_not_initialized, SameStatement, same_statement, same_declare, same_declare_static, SameVariables, same_no_variables, same_more_variables}
use Rattle.p10_expression_renaming.specs.Mapped.{mapped_specifiers, mapped_declarator}
use Rattle.p10_expression_renaming.specs.MappedStatements.{mapped_initializer, mapped_init_declarator, mapped_declaration}
use Rattle.p10_expression_renaming.specs.Knowing.{SameMeaning, same_local, same_object, same_named_type, same_unknown_name, IsOneToOne}
use Rattle.p10_expression_renaming.proofs.Sameness.{SameName, same_no_name, same_name}
use Rattle.p10_expression_renaming.proofs.Types.{is_scalar_same, size_same}
use Rattle.p10_expression_renaming.proofs.TypeNames.{left, right}
use Rattle.p10_declaration_renaming.specs.Standings.{Both, SameStanding, AreQuiet, Passes, SameDeclared, same_of_type, same_of_open_array, same_of_function, same_of_part_function}
use Rattle.p10_declaration_renaming.proofs.Growing.{never_joined, grown}
use Rattle.p10_declaration_renaming.proofs.Scopes.{scope_same, declared_same, entered_same, left_same}
use Rattle.p10_declaration_renaming.proofs.Alike.{Ends, quiet_before, ends_nothing, ends_passed, ends_unless}
use Rattle.p10_declaration_renaming.proofs.Naming.{name_in_same}
use Rattle.p10_declaration_renaming.proofs.Declaring.{specifiers_renamed, declarators_renamed}
use Rattle.p10_declaration_renaming.proofs.Texts.{elements_same}
use Rattle.p10_declaration_renaming.proofs.Initializing.{initializers_renamed, surplus_leads}
use Rattle.p10_statement_renaming.specs.Bodies.{SameFrame, SameLocal, SameParts, same_no_parts, same_more_parts}
use Rattle.p10_statement_renaming.specs.Laws.{BlocksRenamed}
use Rattle.p10_statement_steps.proofs.Typing.{over_volatile, over_measured}
use Rattle.p10_statement_steps.proofs.Declaring.{over_with_object, over_prototype, over_variable_where, over_object_where, over_after_declarator, over_local_named, over_locally}
use Rattle.p10_statement_renaming.proofs.Growing.{grown_in_block}

-- ## Words

storage_from_same : (found : Storage) (all : Specifiers (At × At)) → storage_from found (mapped_specifiers left all) ≡ storage_from found (mapped_specifiers right all)
storage_from_same found NoSpecifiers = refl
storage_from_same found (MoreSpecifiers (Keyword at word) rest) = storage_from_same (storage_by found word) rest
storage_from_same found (MoreSpecifiers (Typedef name) rest) = storage_from_same found rest
storage_from_same found (MoreSpecifiers (Structure at word tag members) rest) = storage_from_same found rest
storage_from_same found (MoreSpecifiers (Enumeration at tag constants comma) rest) = storage_from_same found rest

pub storage_same : (all : Specifiers (At × At)) → storage_of (mapped_specifiers left all) ≡ storage_of (mapped_specifiers right all)
storage_same all = storage_from_same storage_is.Unnamed all

pub word_same : (test : Sign → Bool) (all : Specifiers (At × At)) → has_word test (mapped_specifiers left all) ≡ has_word test (mapped_specifiers right all)
word_same test NoSpecifiers = refl
word_same test (MoreSpecifiers (Keyword at word) rest) = ap (λ b. test word || b) (word_same test rest)
word_same test (MoreSpecifiers (Typedef name) rest) = word_same test rest
word_same test (MoreSpecifiers (Structure at word tag members) rest) = word_same test rest
word_same test (MoreSpecifiers (Enumeration at tag constants comma) rest) = word_same test rest

pub function_same : (found : Bool) (d : Declarator (At × At)) → function_from found (mapped_declarator left d) ≡ function_from found (mapped_declarator right d)
function_same found (Named name) = refl
function_same found (Unnamed at) = refl
function_same found (Pointer at qualifiers d) = function_same false d
function_same found (Parenthesised at d) = function_same found d
function_same found (Array at d brackets length) = function_same false d
function_same found (Function at d parentheses all dots) = function_same true d

one_same : (all : Specifiers (At × At)) → is_one (mapped_specifiers left all) ≡ is_one (mapped_specifiers right all)
one_same NoSpecifiers = refl
one_same (MoreSpecifiers one NoSpecifiers) = refl
one_same (MoreSpecifiers one (MoreSpecifiers other rest)) = refl

none_same : (all : List (InitDeclarator (At × At))) → is_none (map (mapped_init_declarator left) all) ≡ is_none (map (mapped_init_declarator right) all)
none_same [] = refl
none_same (d ∷ rest) = refl

alone_same : (d : Declaration (At × At)) → is_alone (mapped_declaration left d) ≡ is_alone (mapped_declaration right d)
alone_same d = λ i. one_same d.specifiers i && none_same d.declarators i

-- ## What stands

pub refusing_same : (R : Pairing) (last : ℕ) (h : Keep) (b c : Bool) (code other : SubsetCode) (at to : At) (s t : PlainStanding) → SameStanding R last s t → SameStanding R last (refusing h b code at s) (refusing h c other to t)
refusing_same R last h true true code other at to s t know = know
refusing_same R last h true false code other at to s t know = know
refusing_same R last h false true code other at to s t know = know
refusing_same R last h false false code other at to s t know = know

-- a name in its place
abbrev pub named_at : At → Text → Identifier At
named_at at text = record { place = at; name = text }

pub declaring_same : (R : Pairing) (last : ℕ) (h : Keep) (at to : At) (text : Text) {a b : Meaning} → SameMeaning R a b → (s t : PlainStanding) → SameStanding R last s t → SameStanding R last (declaring h (named_at at text) a s) (declaring h (named_at to text) b t)
declaring_same R last h at to text m s t know =
    let u : PlainStanding = refusing h (is_taken s.scope text) subset.DefinedTwice at s in
    let v : PlainStanding = refusing h (is_taken t.scope text) subset.DefinedTwice to t in
    declared_same R last u.scope v.scope (refusing_same R last h (is_taken s.scope text) (is_taken t.scope text) subset.DefinedTwice subset.DefinedTwice at to s t know) text m

pub unknown_same : (R : Pairing) (last : ℕ) (h : Keep) (at to : At) (text : Text) (s t : PlainStanding) → SameStanding R last s t → SameStanding R last (unknown_in h (named_at at text) s) (unknown_in h (named_at to text) t)
unknown_same R last h at to text s t know = declaring_same R last h at to text same_unknown_name s t know

pub volatile_same : (R : Pairing) (last : ℕ) (h : Keep) (may might : Bool) (all : Specifiers (At × At)) (s t : PlainStanding) → SameStanding R last s t → SameStanding R last (volatile_noted h may (mapped_specifiers left all) s) (volatile_noted h might (mapped_specifiers right all) t)
volatile_same R last h may might NoSpecifiers s t know = know
volatile_same R last h may might (MoreSpecifiers (Keyword at word) rest) s t know =
    volatile_same R last h may might rest (refusing h (is_volatile word && not may) subset.BadSpecifier at.0 s) (refusing h (is_volatile word && not might) subset.BadSpecifier at.1 t)
    (refusing_same R last h (is_volatile word && not may) (is_volatile word && not might) subset.BadSpecifier subset.BadSpecifier at.0 at.1 s t know)
volatile_same R last h may might (MoreSpecifiers (Typedef name) rest) s t know = volatile_same R last h may might rest s t know
volatile_same R last h may might (MoreSpecifiers (Structure at word tag members) rest) s t know = volatile_same R last h may might rest s t know
volatile_same R last h may might (MoreSpecifiers (Enumeration at tag constants comma) rest) s t know = volatile_same R last h may might rest s t know

pub specified_both : (R : Pairing) → IsOneToOne R → (last : ℕ) (h : Keep) (outside : Bool) (site : Site) (s t : PlainStanding) (d : Declaration (At × At))
    → Passes R last (SameType R) s t (specified_in h outside site s (mapped_declaration left d)) (specified_in h outside site t (mapped_declaration right d))
specified_both R one last h outside site s t d start quiet =
    let these : Specifiers At = mapped_specifiers left d.specifiers in
    let others : Specifiers At = mapped_specifiers right d.specifiers in
    let p : Passed PlainType = specified h site (allowed_by (mapped_declaration left d)) (is_alone (mapped_declaration left d)) s these in
    let q : Passed PlainType = specified h site (allowed_by (mapped_declaration right d)) (is_alone (mapped_declaration right d)) t others in
    let may : Bool = declares_sensors outside p.made (mapped_declaration left d) in
    let might : Bool = declares_sensors outside q.made (mapped_declaration right d) in
    let law : Passes R last (SameType R) s t p q =
    subst (λ b. Passes R last (SameType R) s t p (specified h site (allowed_by (mapped_declaration right d)) b t others)) (alone_same d)
    (specifiers_renamed R one last h site (allowed_by (mapped_declaration left d)) (allowed_by (mapped_declaration right d)) (is_alone (mapped_declaration left d)) s t d.specifiers) in
    let r = law start (quiet_before last p.after q.after (volatile_noted h may these p.after) (volatile_noted h might others q.after) (grown (over_volatile h may these p.after)) (grown (over_volatile h might others q.after)) quiet) in
    (r.0, (r.1.0, volatile_same R last h may might d.specifiers p.after q.after r.1.1))

-- ## Initialisers

pub initial_both : (R : Pairing) → IsOneToOne R → (last : ℕ) (h : Keep) (life : Lifetime) (t u : PlainType) → SameType R t u → (i : Option (Initializer (At × At))) (s v : PlainStanding)
    → Passes R last (SameInitializer R) s v (initialized_by h life t (option_map (mapped_initializer left) i) s) (initialized_by h life u (option_map (mapped_initializer right) i) v)
initial_both R one last h life t u k None s v start quiet = (quiet, (same_not_initialized, start quiet))
initial_both R one last h life t u k (Some i) s v start quiet = initializers_renamed R one last h life s v t u k i start quiet

pub no_initial_same : (R : Pairing) → IsOneToOne R → (last : ℕ) (h : Keep) (i : Option (Initializer (At × At))) (s t : PlainStanding) → SameStanding R last s t
    → AreQuiet last (no_initializer h (option_map (mapped_initializer left) i) s) (no_initializer h (option_map (mapped_initializer right) i) t)
    → SameStanding R last (no_initializer h (option_map (mapped_initializer left) i) s) (no_initializer h (option_map (mapped_initializer right) i) t)
no_initial_same R one last h None s t know quiet = know
no_initial_same R one last h (Some i) s t know quiet = (surplus_leads R one last h s t i (λ q. know) quiet).1.1

-- ## Types of objects

typedef_same : (R : Pairing) (last : ℕ) (h : Keep) (at to : At) (text : Text) (o q : Option DeclaredType) → Both (SameDeclared R) o q → (s t : PlainStanding) → SameStanding R last s t
    → SameStanding R last (typedef_of h (named_at at text) o s) (typedef_of h (named_at to text) q t)
typedef_same R last h at to text None None k s t know = unknown_same R last h at to text s t know
typedef_same R last h at to text (Some a) (Some b) (same_of_type k) s t know = declaring_same R last h at to text (same_named_type k) s t know
typedef_same R last h at to text (Some a) (Some b) (same_of_open_array k) s t know = unknown_same R last h at to text s t know
typedef_same R last h at to text (Some a) (Some b) (same_of_function k) s t know = unknown_same R last h at to text s t know
typedef_same R last h at to text (Some a) (Some b) (same_of_part_function k) s t know = unknown_same R last h at to text s t know
typedef_same R last h at to text None (Some b) k s t know = absurd k
typedef_same R last h at to text (Some a) None k s t know = absurd k

counted_ends : (R : Pairing) (last : ℕ) (h : Keep) (at to : At) (t u : PlainType) → SameType R t u → (n : ℕ) (s v : PlainStanding) → SameStanding R last s v → Ends R last (SameType R) (counted_array h at t n s) (counted_array h to u n v)
counted_ends R last h at to t u k n s v know =
    ends_unless R last (SameType R) h subset.BadLength subset.BadLength at to (nat_le (n * size_of s.scope.structures t) most_bytes) (nat_le (n * size_of v.scope.structures u) most_bytes) (passed (array false t n) s) (passed (array false u n) v) s v
    (λ e d. ends_passed R last (SameType R) (array false t n) (array false u n) s v (same_array k) know)

awaited_same : (R : Pairing) → IsOneToOne R → (last : ℕ) (h : Keep) (at to : At) (text : Text) (t u : PlainType) → SameType R t u → (whole other : PlainType) → SameType R whole other → (i : Initializer (At × At)) (s v : PlainStanding) → SameStanding R last s v
    → AreQuiet last (awaited h (named_at at text) t whole (mapped_initializer left i) s) (awaited h (named_at to text) u other (mapped_initializer right i) v)
    → SameStanding R last (awaited h (named_at at text) t whole (mapped_initializer left i) s) (awaited h (named_at to text) u other (mapped_initializer right i) v)
awaited_same R one last h at to text t u k whole other j i s v know quiet =
    let a : PlainStanding = awaiting (named_at at text) t s in
    let b : PlainStanding = awaiting (named_at to text) u v in
    let inside : SameStanding R last a b = declared_same R last (entered s.scope) (entered v.scope) (entered_same R last s.scope v.scope know) text (same_local (same_array k)) in
    let p : Passed PlainInitializer = initialized h life_is.Automatic whole a (mapped_initializer left i) in
    let q : Passed PlainInitializer = initialized h life_is.Automatic other b (mapped_initializer right i) in
    let r = initializers_renamed R one last h life_is.Automatic a b whole other j i (λ x. inside) (record { left = quiet.left; right = quiet.right; few = quiet.few }) in
    left_same R last p.after.scope q.after.scope r.1.1

measured_ends : (R : Pairing) → IsOneToOne R → (last : ℕ) (h : Keep) (at to : At) (text : Text) (t u : PlainType) → SameType R t u → (i : Initializer (At × At)) (o q : Option PlainType) → Both (SameType R) o q → (s v : PlainStanding) → SameStanding R last s v
    → Ends R last (SameType R) (measured h (named_at at text) t (mapped_initializer left i) o s) (measured h (named_at to text) u (mapped_initializer right i) q v)
measured_ends R one last h at to text t u k i None None j s v know = ends_nothing R last (SameType R) s v know
measured_ends R one last h at to text t u k i (Some whole) (Some other) j s v know = λ quiet. (j, awaited_same R one last h at to text t u k whole other j i s v know quiet)
measured_ends R one last h at to text t u k i None (Some other) j s v know = absurd j
measured_ends R one last h at to text t u k i (Some whole) None j s v know = absurd j

pub filled_ends : (R : Pairing) → IsOneToOne R → (last : ℕ) (h : Keep) (at to brackets others : At) (text : Text) (t u : PlainType) → SameType R t u → (i : Initializer (At × At)) (n : Option ℕ) (s v : PlainStanding) → SameStanding R last s v
    → Ends R last (SameType R) (filled_array h (named_at at text) brackets t (mapped_initializer left i) n s) (filled_array h (named_at to text) others u (mapped_initializer right i) n v)
filled_ends R one last h at to brackets others text t u k i None s v know = λ quiet. (tt, (surplus_leads R one last h s v i (λ q. know) quiet).1.1)
filled_ends R one last h at to brackets others text t u k i (Some n) s v know = λ quiet.
    let p : Passed PlainType = counted_array h brackets t n s in
    let q : Passed PlainType = counted_array h others u n v in
    let m : Passed PlainType = measured h (named_at at text) t (mapped_initializer left i) p.made p.after in
    let c : Passed PlainType = measured h (named_at to text) u (mapped_initializer right i) q.made q.after in
    let r = counted_ends R last h brackets others t u k n s v know
    (quiet_before last p.after q.after m.after c.after (grown (over_measured h (named_at at text) t (mapped_initializer left i) p.made p.after)) (grown (over_measured h (named_at to text) u (mapped_initializer right i) q.made q.after)) quiet) in
    measured_ends R one last h at to text t u k i p.made q.made r.0 p.after q.after r.1 quiet

object_ends : (R : Pairing) → IsOneToOne R → (last : ℕ) (h : Keep) (at to brackets others : At) (text : Text) (a b : DeclaredType) → SameDeclared R a b → (i : Option (Initializer (At × At))) (s v : PlainStanding) → SameStanding R last s v
    → Ends R last (SameType R) (object_type h (named_at at text) brackets a (option_map (mapped_initializer left) i) s) (object_type h (named_at to text) others b (option_map (mapped_initializer right) i) v)
object_ends R one last h at to brackets others text a b (same_of_type {t = t} {u = u} k) i s v know =
    ends_unless R last (SameType R) h subset.IncompleteType subset.IncompleteType at to (is_complete s.scope.structures t) (is_complete v.scope.structures u) (passed t s) (passed u v) s v (λ e d. ends_passed R last (SameType R) t u s v k know)
object_ends R one last h at to brackets others text a b (same_of_open_array k) None s v know = ends_nothing R last (SameType R) s v know
object_ends R one last h at to brackets others text a b (same_of_open_array {t = t} {u = u} k) (Some i) s v know =
    subst (λ n. Ends R last (SameType R) (filled_array h (named_at at text) brackets t (mapped_initializer left i) (elements_given t (mapped_initializer left i)) s) (filled_array h (named_at to text) others u (mapped_initializer right i) n v))
    (elements_same R k i) (filled_ends R one last h at to brackets others text t u k i (elements_given t (mapped_initializer left i)) s v know)
object_ends R one last h at to brackets others text a b (same_of_function k) i s v know = ends_nothing R last (SameType R) s v know
object_ends R one last h at to brackets others text a b (same_of_part_function k) i s v know = ends_nothing R last (SameType R) s v know

declared_ends : (R : Pairing) → IsOneToOne R → (last : ℕ) (h : Keep) (at to brackets others : At) (text : Text) (o q : Option DeclaredType) → Both (SameDeclared R) o q → (i : Option (Initializer (At × At))) (s v : PlainStanding) → SameStanding R last s v
    → Ends R last (SameType R) (declared_object h (named_at at text) brackets o (option_map (mapped_initializer left) i) s) (declared_object h (named_at to text) others q (option_map (mapped_initializer right) i) v)
declared_ends R one last h at to brackets others text None None k i s v know = ends_nothing R last (SameType R) s v know
declared_ends R one last h at to brackets others text (Some a) (Some b) k i s v know = object_ends R one last h at to brackets others text a b k i s v know
declared_ends R one last h at to brackets others text None (Some b) k i s v know = absurd k
declared_ends R one last h at to brackets others text (Some a) None k i s v know = absurd k

in_block_ends : (R : Pairing) → IsOneToOne R → (last : ℕ) (h : Keep) (at to : At) (text : Text) (d : InitDeclarator (At × At)) (o q : Option DeclaredType) → Both (SameDeclared R) o q → (s v : PlainStanding) → SameStanding R last s v
    → Ends R last (SameType R) (object_in_block h (named_at at text) (mapped_init_declarator left d) o s) (object_in_block h (named_at to text) (mapped_init_declarator right d) q v)
in_block_ends R one last h at to text d o q k s v know =
    let a : InitDeclarator At = mapped_init_declarator left d in
    let b : InitDeclarator At = mapped_init_declarator right d in
    let m : Bool = declares_open_array a.declarator && not (is_written a.initial) in
    let n : Bool = declares_open_array b.declarator && not (is_written b.initial) in
    declared_ends R one last h at to (brackets_of a.declarator) (brackets_of b.declarator) text o q k d.initial (refusing h m subset.IncompleteType at s) (refusing h n subset.IncompleteType to v)
    (refusing_same R last h m n subset.IncompleteType subset.IncompleteType at to s v know)

-- ## Variables

-- what a declaration becomes, where nothing is refused
abbrev Becomes : Pairing → ℕ → Declaring → Declaring → Type 0
Becomes R last p q = AreQuiet last p.after.standing q.after.standing → SameParts R p.items q.items × SameLocal R last p.after q.after

stood : (R : Pairing) (last : ℕ) (l k : Local) (s t : PlainStanding) → SameLocal R last l k → SameStanding R last s t → SameLocal R last (with_standing l s) (with_standing k t)
stood R last l k s t know stand = record { standing = stand; count = know.count; variables = know.variables; loops = know.loops }

pub variables_more : (R : Pairing) {vs ws : List PlainVariable} → SameVariables R vs ws → (at to : At) (text : Text) (t u : PlainType) → SameType R t u → (bytes others : ℕ) → bytes ≡ others → (frame other : Bool) → frame ≡ other
    → SameVariables R (vs ++ record { name = text; type = t; bytes = bytes; frame = frame; span = at.span } ∷ []) (ws ++ record { name = text; type = u; bytes = others; frame = other; span = to.span } ∷ [])
variables_more R (same_more_variables k rest) at to text t u h bytes others e frame other d = same_more_variables k (variables_more R rest at to text t u h bytes others e frame other d)
variables_more R same_no_variables at to text t u h bytes others e frame other d =
    subst (λ b. SameVariables R (record { name = text; type = t; bytes = bytes; frame = frame; span = at.span } ∷ []) (record { name = text; type = u; bytes = others; frame = b; span = to.span } ∷ [])) d
    (subst (λ n. SameVariables R (record { name = text; type = t; bytes = bytes; frame = frame; span = at.span } ∷ []) (record { name = text; type = u; bytes = n; frame = frame; span = to.span } ∷ [])) e (same_more_variables h same_no_variables))

local_same : (R : Pairing) (n m : ℕ) → n ≡ m → (frame other : Bool) → frame ≡ other → {t u : PlainType} → SameType R t u → SameMeaning R (local n t frame) (local m u other)
local_same R n m e frame other d {t = t} {u = u} h = subst (λ b. SameMeaning R (local n t frame) (local m u b)) d (subst (λ i. SameMeaning R (local n t frame) (local i u frame)) e (same_local h))

pub frame_same : (R : Pairing) (f g : Frame) → SameFrame R f g → (n m : ℕ) → n ≡ m → {t u : PlainType} → SameType R t u → is_frame_variable f n t ≡ is_frame_variable g m u
frame_same R f g same n m e h = λ i. is_scalar_same R h i && not (is_among (e i) (same.taken i))

with_variable_same : (R : Pairing) (last : ℕ) (h : Keep) (f g : Frame) → SameFrame R f g → (at to : At) (text : Text) (t u : PlainType) → SameType R t u → (l k : Local) → SameLocal R last l k
    → SameLocal R last (with_variable h f (named_at at text) t l) (with_variable h g (named_at to text) u k)
with_variable_same R last h f g same at to text t u j l k know =
    let frames : is_frame_variable f l.count t ≡ is_frame_variable g k.count u = frame_same R f g same l.count k.count know.count j in
    record {
      standing = declaring_same R last h at to text (local_same R l.count k.count know.count (is_frame_variable f l.count t) (is_frame_variable g k.count u) frames j) l.standing k.standing know.standing;
      count = ap (λ n. n + 1) know.count;
      variables = variables_more R know.variables at to text t u j (size_of l.standing.scope.structures t) (size_of k.standing.scope.structures u)
          (size_same R l.standing.scope.structures k.standing.scope.structures (scope_same R last l.standing.scope k.standing.scope know.standing).structures j)
          (is_frame_variable f l.count t) (is_frame_variable g k.count u) frames;
      loops = know.loops;
    }

variable_part : (R : Pairing) (at to : At) (n m : ℕ) → n ≡ m → (o q : Option PlainInitializer) → Both (SameInitializer R) o q → Both (SameStatement R) (variable_item at n o) (variable_item to m q)
variable_part R at to n m e None None k = tt
variable_part R at to n m e (Some i) (Some j) k = subst (λ x. SameStatement R (statement at (declare n i)) (statement to (declare x j))) e (same_statement (same_declare k))
variable_part R at to n m e None (Some j) k = absurd k
variable_part R at to n m e (Some i) None k = absurd k

variable_both : (R : Pairing) → IsOneToOne R → (last : ℕ) (h : Keep) (f g : Frame) → SameFrame R f g → (place other at to : At) (text : Text) (i : Option (Initializer (At × At))) (o q : Option PlainType) → Both (SameType R) o q → (l k : Local) → SameLocal R last l k
    → Becomes R last (variable_where h f place (named_at at text) (option_map (mapped_initializer left) i) o l) (variable_where h g other (named_at to text) (option_map (mapped_initializer right) i) q k)
variable_both R one last h f g same place other at to text i None None j l k know = λ quiet. (
  same_more_parts tt same_no_parts,
  record {
    standing = unknown_same R last h at to text l.standing k.standing know.standing;
    count = ap (λ n. n + 1) know.count;
    variables = know.variables;
    loops = know.loops;
  },
)
variable_both R one last h f g same place other at to text i (Some t) (Some u) j l k know = λ quiet.
    let m : Local = with_variable h f (named_at at text) t l in
    let n : Local = with_variable h g (named_at to text) u k in
    let p : Passed PlainInitializer = initialized_by h life_is.Automatic t (option_map (mapped_initializer left) i) m.standing in
    let q : Passed PlainInitializer = initialized_by h life_is.Automatic u (option_map (mapped_initializer right) i) n.standing in
    let inside : SameLocal R last m n = with_variable_same R last h f g same at to text t u j l k know in
    let r = initial_both R one last h life_is.Automatic t u j i m.standing n.standing (λ x. inside.standing) quiet in
    (same_more_parts (variable_part R place other l.count k.count know.count p.made q.made r.1.0) same_no_parts, stood R last m n p.after q.after inside r.1.1)
variable_both R one last h f g same place other at to text i None (Some u) j l k know = absurd j
variable_both R one last h f g same place other at to text i (Some t) None j l k know = absurd j

-- ## Objects of static lifetime

object_part : (R : Pairing) (at to : At) (n m : ℕ) (o q : Option PlainInitializer) → Both (SameInitializer R) o q → Both (SameStatement R) (object_item at n o) (object_item to m q)
object_part R at to n m None None k = tt
object_part R at to n m (Some i) (Some j) k = same_statement same_declare_static
object_part R at to n m None (Some j) k = absurd k
object_part R at to n m (Some i) None k = absurd k

-- objects are free
with_object_same : (R : Pairing) (last : ℕ) (f g : Frame) (n m : ℕ) (x y : Identifier At) (t u : PlainType) (sensor other : Bool) (o q : Option PlainInitializer) (l k : Local) → SameLocal R last l k
    → SameLocal R last (with_object f n x t sensor o l) (with_object g m y u other q k)
with_object_same R last f g n m x y t u sensor other None None l k know = know
with_object_same R last f g n m x y t u sensor other (Some i) None l k know = record { standing = know.standing; count = know.count; variables = know.variables; loops = know.loops }
with_object_same R last f g n m x y t u sensor other None (Some j) l k know = record { standing = know.standing; count = know.count; variables = know.variables; loops = know.loops }
with_object_same R last f g n m x y t u sensor other (Some i) (Some j) l k know = record { standing = know.standing; count = know.count; variables = know.variables; loops = know.loops }

object_both : (R : Pairing) → IsOneToOne R → (last : ℕ) (h : Keep) (f g : Frame) (place other at to : At) (text : Text) (sensor : Bool) (i : Option (Initializer (At × At))) (o q : Option PlainType) → Both (SameType R) o q → (l k : Local) → SameLocal R last l k
    → Becomes R last (object_where h f place (named_at at text) sensor (option_map (mapped_initializer left) i) o l) (object_where h g other (named_at to text) sensor (option_map (mapped_initializer right) i) q k)
object_both R one last h f g place other at to text sensor i None None j l k know = λ quiet.
    (same_more_parts tt same_no_parts, stood R last l k (unknown_in h (named_at at text) l.standing) (unknown_in h (named_at to text) k.standing) know (unknown_same R last h at to text l.standing k.standing know.standing))
object_both R one last h f g place other at to text sensor i (Some t) (Some u) j l k know = λ quiet.
    let a : ℕ = number_at f.heads.objects at in
    let b : ℕ = number_at g.heads.objects to in
    let s : PlainStanding = declaring h (named_at at text) (object a t sensor) l.standing in
    let v : PlainStanding = declaring h (named_at to text) (object b u sensor) k.standing in
    let p : Passed PlainInitializer = initialized_by h life_is.Static t (option_map (mapped_initializer left) i) s in
    let q : Passed PlainInitializer = initialized_by h life_is.Static u (option_map (mapped_initializer right) i) v in
    let m : Local = with_standing l p.after in
    let n : Local = with_standing k q.after in
    let inside : SameStanding R last s v = declaring_same R last h at to text (same_object j) l.standing k.standing know.standing in
    let r = initial_both R one last h life_is.Static t u j i s v (λ x. inside)
    (quiet_before last p.after q.after (with_object f a (named_at at text) t sensor p.made m).standing (with_object g b (named_at to text) u sensor q.made n).standing
    (grown (over_with_object h f a (named_at at text) t sensor p.made m)) (grown (over_with_object h g b (named_at to text) u sensor q.made n)) quiet) in (
      same_more_parts (object_part R place other a b p.made q.made r.1.0) same_no_parts,
      with_object_same R last f g a b (named_at at text) (named_at to text) t u sensor sensor p.made q.made m n (stood R last l k p.after q.after know r.1.1),
    )
object_both R one last h f g place other at to text sensor i None (Some u) j l k know = absurd j
object_both R one last h f g place other at to text sensor i (Some t) None j l k know = absurd j

-- ## Declarators

-- what stands after a typedef
pub typedef_done_same : (R : Pairing) → IsOneToOne R → (last : ℕ) (h : Keep) (at to : At) (text : Text) (d : InitDeclarator (At × At)) (o q : Option DeclaredType) → Both (SameDeclared R) o q → (s t : PlainStanding) → SameStanding R last s t
    → AreQuiet last (no_initializer h (option_map (mapped_initializer left) d.initial) (typedef_passed h (named_at at text) (mapped_declarator left d.declarator) o s))
    (no_initializer h (option_map (mapped_initializer right) d.initial) (typedef_passed h (named_at to text) (mapped_declarator right d.declarator) q t))
    → SameStanding R last (no_initializer h (option_map (mapped_initializer left) d.initial) (typedef_passed h (named_at at text) (mapped_declarator left d.declarator) o s))
    (no_initializer h (option_map (mapped_initializer right) d.initial) (typedef_passed h (named_at to text) (mapped_declarator right d.declarator) q t))
typedef_done_same R one last h at to text d o q j s t know quiet =
    let a : Declarator At = mapped_declarator left d.declarator in
    let b : Declarator At = mapped_declarator right d.declarator in
    let u : PlainStanding = refusing h (declares_function a) subset.BadSpecifier (declarator_place a) s in
    let v : PlainStanding = refusing h (declares_function b) subset.BadSpecifier (declarator_place b) t in
    let x : PlainStanding = refusing h (declares_open_array a) subset.IncompleteType at u in
    let y : PlainStanding = refusing h (declares_open_array b) subset.IncompleteType to v in
    let one_row : SameStanding R last u v = refusing_same R last h (declares_function a) (declares_function b) subset.BadSpecifier subset.BadSpecifier (declarator_place a) (declarator_place b) s t know in
    let two_rows : SameStanding R last x y = refusing_same R last h (declares_open_array a) (declares_open_array b) subset.IncompleteType subset.IncompleteType at to u v one_row in
    no_initial_same R one last h d.initial (typedef_of h (named_at at text) o x) (typedef_of h (named_at to text) q y) (typedef_same R last h at to text o q j x y two_rows) quiet

storage_both : (R : Pairing) → IsOneToOne R → (last : ℕ) (h : Keep) (f g : Frame) → SameFrame R f g → (place other : At) (s : Storage) (sensor : Bool) (at to : At) (text : Text) (d : InitDeclarator (At × At)) (l k : Local) → SameLocal R last l k
    → (o q : Option DeclaredType) → Both (SameDeclared R) o q → Becomes R last (by_storage h f place s sensor (named_at at text) (mapped_init_declarator left d) l o) (by_storage h g other s sensor (named_at to text) (mapped_init_declarator right d) k q)
storage_both R one last h f g same place other storage_is.Typedef sensor at to text d l k know o q j = λ quiet.
    let s : PlainStanding = no_initializer h (option_map (mapped_initializer left) d.initial) (typedef_passed h (named_at at text) (mapped_declarator left d.declarator) o l.standing) in
    let t : PlainStanding = no_initializer h (option_map (mapped_initializer right) d.initial) (typedef_passed h (named_at to text) (mapped_declarator right d.declarator) q k.standing) in
    (same_no_parts, stood R last l k s t know (typedef_done_same R one last h at to text d o q j l.standing k.standing know.standing quiet))
storage_both R one last h f g same place other storage_is.Static sensor at to text d l k know o q j = λ quiet.
    let t : Passed PlainType = object_in_block h (named_at at text) (mapped_init_declarator left d) o l.standing in
    let u : Passed PlainType = object_in_block h (named_at to text) (mapped_init_declarator right d) q k.standing in
    let r = in_block_ends R one last h at to text d o q j l.standing k.standing know.standing
    (quiet_before last t.after u.after (object_where h f place (named_at at text) sensor (option_map (mapped_initializer left) d.initial) t.made (with_standing l t.after)).after.standing
    (object_where h g other (named_at to text) sensor (option_map (mapped_initializer right) d.initial) u.made (with_standing k u.after)).after.standing
    (grown (over_object_where h f place (named_at at text) sensor (option_map (mapped_initializer left) d.initial) t.made (with_standing l t.after)))
    (grown (over_object_where h g other (named_at to text) sensor (option_map (mapped_initializer right) d.initial) u.made (with_standing k u.after))) quiet) in
    object_both R one last h f g place other at to text sensor d.initial t.made u.made r.0 (with_standing l t.after) (with_standing k u.after) (stood R last l k t.after u.after know r.1) quiet
storage_both R one last h f g same place other storage_is.Unnamed sensor at to text d l k know o q j = λ quiet.
    let t : Passed PlainType = object_in_block h (named_at at text) (mapped_init_declarator left d) o l.standing in
    let u : Passed PlainType = object_in_block h (named_at to text) (mapped_init_declarator right d) q k.standing in
    let r = in_block_ends R one last h at to text d o q j l.standing k.standing know.standing
    (quiet_before last t.after u.after (variable_where h f place (named_at at text) (option_map (mapped_initializer left) d.initial) t.made (with_standing l t.after)).after.standing
    (variable_where h g other (named_at to text) (option_map (mapped_initializer right) d.initial) u.made (with_standing k u.after)).after.standing
    (grown (over_variable_where h f place (named_at at text) (option_map (mapped_initializer left) d.initial) t.made (with_standing l t.after)))
    (grown (over_variable_where h g other (named_at to text) (option_map (mapped_initializer right) d.initial) u.made (with_standing k u.after))) quiet) in
    variable_both R one last h f g same place other at to text d.initial t.made u.made r.0 (with_standing l t.after) (with_standing k u.after) (stood R last l k t.after u.after know r.1) quiet
storage_both R one last h f g same place other storage_is.Extern sensor at to text d l k know o q j = λ quiet.
    (same_no_parts, stood R last l k (unknown_in h (named_at at text) l.standing) (unknown_in h (named_at to text) k.standing) know (unknown_same R last h at to text l.standing k.standing know.standing))

-- a prototype in a block is refused
prototype_or : (R : Pairing) → IsOneToOne R → (last : ℕ) (h : Keep) (f g : Frame) → SameFrame R f g → (place other : At) (s : Storage) (sensor : Bool) (at to : At) (text : Text) (d : InitDeclarator (At × At)) (l k : Local) → SameLocal R last l k
    → (o q : Option DeclaredType) → Both (SameDeclared R) o q → (b c : Bool)
    → Becomes R last (if b then prototype_passed h (named_at at text) (mapped_init_declarator left d) l else by_storage h f place s sensor (named_at at text) (mapped_init_declarator left d) l o)
    (if c then prototype_passed h (named_at to text) (mapped_init_declarator right d) k else by_storage h g other s sensor (named_at to text) (mapped_init_declarator right d) k q)
prototype_or R one last h f g same place other s sensor at to text d l k know o q j false false = storage_both R one last h f g same place other s sensor at to text d l k know o q j
prototype_or R one last h f g same place other s sensor at to text d l k know o q j false true = λ quiet.
    absurd (never_joined h k.standing.problems (record { code = subset.BadSpecifier; at = declarator_place (mapped_declarator right d.declarator) }) [] ((grown (over_prototype h (named_at to text) (mapped_init_declarator right d) k)).quiet quiet.right))
prototype_or R one last h f g same place other s sensor at to text d l k know o q j true c = λ quiet.
    absurd (never_joined h l.standing.problems (record { code = subset.BadSpecifier; at = declarator_place (mapped_declarator left d.declarator) }) [] ((grown (over_prototype h (named_at at text) (mapped_init_declarator left d) l)).quiet quiet.left))

named_both : (R : Pairing) → IsOneToOne R → (last : ℕ) (h : Keep) (f g : Frame) → SameFrame R f g → (place other : At) (s : Storage) (sensor : Bool) (t u : Option PlainType) → Both (SameType R) t u → (l k : Local) → SameLocal R last l k → (d : InitDeclarator (At × At))
    → (x y : Option (Identifier At)) → SameName x y → Becomes R last (local_named h f place s sensor t l (mapped_init_declarator left d) x) (local_named h g other s sensor u k (mapped_init_declarator right d) y)
named_both R one last h f g same place other s sensor t u j l k know d x y same_no_name = λ quiet. (same_no_parts, know)
named_both R one last h f g same place other s sensor t u j l k know d x y (same_name {at = at} {to = to} {name = text}) = λ quiet.
    let a : InitDeclarator At = mapped_init_declarator left d in
    let b : InitDeclarator At = mapped_init_declarator right d in
    let p : Passed DeclaredType = declarator_passed h at (based t l.standing) a.declarator in
    let q : Passed DeclaredType = declarator_passed h to (based u k.standing) b.declarator in
    let m : Local = with_standing l p.after in
    let n : Local = with_standing k q.after in
    let r = declarators_renamed R one last h l.standing k.standing at to t u (λ x. j) d.declarator (λ x. know.standing)
    (quiet_before last p.after q.after (if is_prototype s a.declarator then prototype_passed h (named_at at text) a m else by_storage h f place s sensor (named_at at text) a m p.made).after.standing
    (if is_prototype s b.declarator then prototype_passed h (named_at to text) b n else by_storage h g other s sensor (named_at to text) b n q.made).after.standing
    (grown_in_block (over_after_declarator h f place s sensor (named_at at text) a m p.made (is_prototype s a.declarator))) (grown_in_block (over_after_declarator h g other s sensor (named_at to text) b n q.made (is_prototype s b.declarator))) quiet) in
    prototype_or R one last h f g same place other s sensor at to text d m n (stood R last l k p.after q.after know r.1.1) p.made q.made r.1.0 (is_prototype s a.declarator) (is_prototype s b.declarator) quiet

parts_joined : (R : Pairing) {a b c d : List (Option PlainStatement)} → SameParts R a b → SameParts R c d → SameParts R (a ++ c) (b ++ d)
parts_joined R same_no_parts more = more
parts_joined R (same_more_parts k rest) more = same_more_parts k (parts_joined R rest more)

-- with what the specifiers name
abbrev Becoming : Pairing → ℕ → Option PlainType → Option PlainType → Declaring → Declaring → Type 0
Becoming R last t u p q = AreQuiet last p.after.standing q.after.standing → Both (SameType R) t u × (SameParts R p.items q.items × SameLocal R last p.after q.after)

declarators_both : (R : Pairing) → IsOneToOne R → (last : ℕ) (h : Keep) (f g : Frame) → SameFrame R f g → (place other : At) (s : Storage) (sensor : Bool) (t u : Option PlainType) (p q : Declaring) → Becoming R last t u p q → (all : List (InitDeclarator (At × At)))
    → Becoming R last t u (local_declarators h f place s sensor t p (map (mapped_init_declarator left) all)) (local_declarators h g other s sensor u q (map (mapped_init_declarator right) all))
declarators_both R one last h f g same place other s sensor t u p q a [] = a
declarators_both R one last h f g same place other s sensor t u p q a (d ∷ rest) =
    let x : Declaring = local_named h f place s sensor t p.after (mapped_init_declarator left d) (name_in (mapped_declarator left d.declarator)) in
    let y : Declaring = local_named h g other s sensor u q.after (mapped_init_declarator right d) (name_in (mapped_declarator right d.declarator)) in
    declarators_both R one last h f g same place other s sensor t u (record { items = p.items ++ x.items; after = x.after }) (record { items = q.items ++ y.items; after = y.after })
    (λ quiet.
    let b = a (quiet_before last p.after.standing q.after.standing x.after.standing y.after.standing (grown_in_block (over_local_named h f place s sensor t p.after (mapped_init_declarator left d) (name_in (mapped_declarator left d.declarator))))
    (grown_in_block (over_local_named h g other s sensor u q.after (mapped_init_declarator right d) (name_in (mapped_declarator right d.declarator)))) quiet) in
    let c = named_both R one last h f g same place other s sensor t u b.0 p.after q.after b.1.1 d (name_in (mapped_declarator left d.declarator)) (name_in (mapped_declarator right d.declarator)) (name_in_same d.declarator) quiet in
    (b.0, (parts_joined R b.1.0 c.0, c.1))) rest

pub blocks_renamed : BlocksRenamed
unfolding declared_locally
blocks_renamed R one last h f g same site l k d start quiet =
    let a : Declaration At = mapped_declaration left d in
    let b : Declaration At = mapped_declaration right d in
    let t : Passed PlainType = specified_in h false site l.standing a in
    let u : Passed PlainType = specified_in h false site k.standing b in
    let m : Local = with_standing l t.after in
    let n : Local = with_standing k u.after in
    let before : AreQuiet last l.standing k.standing = quiet_before last l.standing k.standing (declared_locally h f site l a).after.standing (declared_locally h g site k b).after.standing (grown_in_block (over_locally h f site l a)) (grown_in_block (over_locally h g site k b)) quiet in
    let begun : Becoming R last t.made u.made (no_items m) (no_items n) = λ x.
    let r = specified_both R one last h false site l.standing k.standing d (λ y. (start y).standing) x in
    (r.1.0, (same_no_parts, stood R last l k t.after u.after (start r.0) r.1.1)) in
    let law : Becoming R last t.made u.made (local_declarators h f a.place (storage_of a.specifiers) (makes_sensors a) t.made (no_items m) a.declarators) (local_declarators h g b.place (storage_of b.specifiers) (makes_sensors b) u.made (no_items n) b.declarators) =
    subst (λ x. Becoming R last t.made u.made (local_declarators h f a.place (storage_of a.specifiers) (makes_sensors a) t.made (no_items m) a.declarators) (local_declarators h g b.place x (makes_sensors b) u.made (no_items n) b.declarators)) (storage_same d.specifiers)
    (subst (λ x. Becoming R last t.made u.made (local_declarators h f a.place (storage_of a.specifiers) (makes_sensors a) t.made (no_items m) a.declarators) (local_declarators h g b.place (storage_of a.specifiers) x u.made (no_items n) b.declarators)) (word_same is_volatile d.specifiers)
    (declarators_both R one last h f g same a.place b.place (storage_of a.specifiers) (makes_sensors a) t.made u.made (no_items m) (no_items n) begun d.declarators)) in
    (before, (law quiet).1)
