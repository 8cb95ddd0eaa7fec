-- The functions of a typed program are those that its trees define, with the names of their definitions.
use Rattle.std.proofs.Common.{◌≡◌, ℕ, zero, suc, ◌+◌, ◌≤◌, Bool, true, false, ◌||◌, if◌then◌else◌, cond, List, [], ◌∷◌, ◌++◌, Option, Some, None, refl, sym, ap, ◌∙◌, subst, arith}
use Rattle.std.specs.Prelude.{slice_get, codes}
use Rattle.std.specs.List.{AllByRecursion, position_from}
use Rattle.std.specs.Option.{unwrap_or}
use Rattle.std.proofs.lemmas.Option.{same_Some, none-some}
use Rattle.std.proofs.lemmas.Slice.Eq.{bytes_eq-Decides}
use Rattle.p10_base.specs.declared.at.At.{At}
use Rattle.p10_syn.specs.Trees.{Identifier, Initializer, InitDeclarator, Declaration, Definition, Statements, External, Outer, Defines}
use Rattle.p10_core.specs.Types.{PlainType}
use Rattle.p10_core.specs.Typed.{PlainInitializer, PlainFunction, PlainStatement, PlainProgram}
use Rattle.p10_cert.specs.Lines.{is_name}
use Rattle.p10_elabx.specs.declared.problem.Problem.{Problem}
use Rattle.p10_elabx.specs.First.{Keep, only_first}
use Rattle.p10_elabd.specs.declared.site.Storage.{Storage}
use Rattle.p10_elabd.specs.declared.site.Site.TheVariants as site_is
use Rattle.p10_elabd.specs.declared.lifetime.Lifetime.TheVariants as life_is
use Rattle.p10_elabd.specs.Words.{storage_of}
use Rattle.p10_elabd.specs.Declaring.{specified, declarator_passed, based}
use Rattle.p10_elabd.specs.Standing.{Passed}
use Rattle.p10_elabd.specs.Shapes.{FunctionType, DeclaredType, of_type, of_open_array, of_function, of_part_function, name_in}
use Rattle.p10_elabs.specs.LocalDeclarations.{is_typedef}
use Rattle.p10_elabs.specs.Addresses.{addresses_taken, constants_of}
use Rattle.p10_elabs.specs.Locals.{Frame, Local, specified_in, makes_sensors, no_initializer, typedef_passed, is_written, brackets_of, initialized_by}
use Rattle.p10_elabs.specs.Statements.{in_nothing, Block', no_items_yet, items_done}
use Rattle.p10_heads.specs.Heads.{Heads, number_in, heads_of_roots}
use Rattle.p10_heads.specs.Roots.{root_follows, with_first, roots_of}
use Rattle.p10_linkage.specs.Linkage.{an_object, Linked, is_main_name}
use Rattle.p10_program.specs.Mains.{missing_main}
use Rattle.p10_elab.specs.Knowledge.{Known, with_standing, with_linked, linked_of, without_linkage}
use Rattle.p10_elab.specs.Outer.{is_site, with_defined, is_extern, with_tentative, object_declared, before_in, open_outside, outer_type, object_outside, object_by_type, object_by_form, function_type, by_type_outside, outer_named, outer_declarators, main_constants, declared_outside, names_noted, body_begun, function_made, body_done, function_by_type, allowed_at_definition, function_named, defined_outside}
use Rattle.p10_elab.specs.RootEnds.{known_after, known_after_all, root_begun, root_passed, roots_passed, nothing_known}
use Rattle.p10_elab.specs.Programs.{program, main_among, known_of, whole_of, elaborated}
use Rattle.p10_elab.specs.Laws.{IsAccepted}
use Rattle.p10_elab.proofs.Answers.{answers_have_causes}
use Rattle.p10_derived_texts.specs.Naming.{AreNamed}
use Rattle.p10_names.specs.Defining.{HasName}

-- ## Declarations make no functions

if_same : (b : Bool) (x y : Known) (functions : List PlainFunction) → x.functions ≡ functions → y.functions ≡ functions → (if b then x else y).functions ≡ functions
if_same true x y functions e f = e
if_same false x y functions e f = f

defined_same : (heads : Heads) (l : Linked) (name : Identifier At) (t : PlainType) (o : Option PlainInitializer) (k : Known) → (with_defined heads l name t o k).functions ≡ k.functions
defined_same heads l name t None k = refl
defined_same heads l name t (Some i) k = if_same (is_site heads name) _ k k.functions refl refl

made_same : (h : Keep) (heads : Heads) (name : Identifier At) (t : PlainType) (s : Storage) (sensor : Bool) (i : Option (Initializer At)) (k : Known) → (object_declared h heads name t s sensor i k).functions ≡ k.functions
made_same h heads name t s sensor i k =
    let l : Linked = linked_of k name (an_object t) s (is_written i) sensor in
    let m : Known = with_tentative name t s i (with_linked h heads l k) in
    let p : Passed PlainInitializer = initialized_by h life_is.Static t i m.standing in
    defined_same heads l name t p.made (with_standing m p.after) ∙ if_same (is_written i || is_extern s) (with_linked h heads l k) _ k.functions refl refl

object_same : (h : Keep) (heads : Heads) (name : Identifier At) (s : Storage) (sensor : Bool) (i : Option (Initializer At)) (k : Known) (t : Passed PlainType) → (object_outside h heads name s sensor i k t).functions ≡ k.functions
object_same h heads name s sensor i k t = by_made t.made
  where
    by_made : (o : Option PlainType) → (object_outside h heads name s sensor i k (record t { made = o })).functions ≡ k.functions
    by_made None = refl
    by_made (Some u) = made_same h heads name u s sensor i (with_standing k t.after)

typed_same : (h : Keep) (heads : Heads) (s : Storage) (sensor : Bool) (name : Identifier At) (d : InitDeclarator At) (k : Known) (o : Option DeclaredType) → (object_by_type h heads s sensor name d k o).functions ≡ k.functions
typed_same h heads s sensor name d k None = refl
typed_same h heads s sensor name d k (Some t) =
    object_same h heads name s sensor d.initial k (outer_type h name (brackets_of d.declarator) s d.initial (before_in k name) t k.standing)

formed_same : (h : Keep) (heads : Heads) (s : Storage) (sensor : Bool) (name : Identifier At) (d : InitDeclarator At) (k : Known) (o : Option DeclaredType) → (object_by_form h heads s sensor name d k o).functions ≡ k.functions
formed_same h heads s sensor name d k o = typed_same h heads s sensor name d (with_standing k (open_outside h name d (before_in k name) o k.standing)) o

type_same : (h : Keep) (heads : Heads) (s : Storage) (sensor : Bool) (name : Identifier At) (d : InitDeclarator At) (k : Known) (o : Option DeclaredType) → (by_type_outside h heads s sensor name d k o).functions ≡ k.functions
type_same h heads s sensor name d k None = formed_same h heads s sensor name d k None
type_same h heads s sensor name d k (Some (of_function f)) = refl
type_same h heads s sensor name d k (Some (of_part_function f)) = refl
type_same h heads s sensor name d k (Some (of_type t)) = formed_same h heads s sensor name d k (Some (of_type t))
type_same h heads s sensor name d k (Some (of_open_array t)) = formed_same h heads s sensor name d k (Some (of_open_array t))

named_same : (h : Keep) (heads : Heads) (s : Storage) (sensor : Bool) (t : Option PlainType) (k : Known) (d : InitDeclarator At) (o : Option (Identifier At)) → (outer_named h heads s sensor t k d o).functions ≡ k.functions
named_same h heads s sensor t k d None = refl
named_same h heads s sensor t k d (Some name) =
    let j : Passed DeclaredType = declarator_passed h name.place (based t k.standing) d.declarator in
    if_same (is_typedef s) (without_linkage name (no_initializer h d.initial (typedef_passed h name d.declarator j.made j.after)) k) (by_type_outside h heads s sensor name d (with_standing k j.after) j.made) k.functions refl
    (type_same h heads s sensor name d (with_standing k j.after) j.made)

declarators_same : (h : Keep) (heads : Heads) (s : Storage) (sensor : Bool) (t : Option PlainType) (k : Known) (ds : List (InitDeclarator At)) → (outer_declarators h heads s sensor t k ds).functions ≡ k.functions
declarators_same h heads s sensor t k [] = refl
declarators_same h heads s sensor t k (d ∷ ds) =
    declarators_same h heads s sensor t (outer_named h heads s sensor t k d (name_in d.declarator)) ds ∙ named_same h heads s sensor t k d (name_in d.declarator)

declaration_same : (h : Keep) (heads : Heads) (k : Known) (d : Declaration At) → (declared_outside h heads k d).functions ≡ k.functions
unfolding declared_outside
declaration_same h heads k d =
    let t : Passed PlainType = specified_in h true site_is.Outside k.standing d in
    declarators_same h heads (storage_of d.specifiers) (makes_sensors d) t.made (record k { standing = t.after; mains = k.mains ++ main_constants (constants_of d.specifiers) }) d.declarators

-- ## Definitions

-- a function has a name of C
abbrev HasCName : PlainFunction → Type 0
HasCName f = is_name f.name ≡ true

-- so has each that is known
abbrev AreCNamed : Known → Type 0
AreCNamed k = AllByRecursion HasCName k.functions

both_named : (xs ys : List PlainFunction) → AllByRecursion HasCName xs → AllByRecursion HasCName ys → AllByRecursion HasCName (xs ++ ys)
both_named [] ys h k = k
both_named (x ∷ xs) ys h k = (h.0, both_named xs ys h.1 k)

made_named : (l : Linked) (t : FunctionType) (after : Local) (o : Option (List PlainStatement)) (at : At) → is_name l.name ≡ true → AllByRecursion HasCName (function_made l t after o at)
made_named l t after None at e = tt
made_named l t after (Some ss) at e = (e, tt)

body_named : (h : Keep) (heads : Heads) (l : Linked) (t : FunctionType) (body : Statements At) (k : Known) → is_name l.name ≡ true → AreCNamed k → AreCNamed (body_done h heads l t body k)
body_named h heads l t body k e n =
    let f : Frame = record { heads = heads; taken = addresses_taken t.parameters body; number = number_in heads.functions l.root l.internal l.name; result = t.result } in
    let b : Block' = items_done h f (is_main_name l.name) in_nothing (no_items_yet (body_begun f t (names_noted h t.parameters k.standing))) body in
    both_named k.functions (function_made l t b.after b.made l.at) n (made_named l t b.after b.made l.at e)

type_named : (h : Keep) (heads : Heads) (s : Storage) (d : Definition At) (name : Identifier At) (k : Known) (o : Option DeclaredType) → is_name name.name ≡ true → AreCNamed k → AreCNamed (function_by_type h heads s d name k o)
type_named h heads s d name k None e n = n
type_named h heads s d name k (Some (of_function f)) e n =
    let l : Linked = linked_of k name (function_type f) s true false in body_named h heads l f d.body (with_linked h heads l k) e n
type_named h heads s d name k (Some (of_type t)) e n = n
type_named h heads s d name k (Some (of_open_array t)) e n = n
type_named h heads s d name k (Some (of_part_function f)) e n = n

function_has : (h : Keep) (heads : Heads) (d : Definition At) (k : Known) (t : Option PlainType) (o : Option (Identifier At)) → ((x : Identifier At) → o ≡ Some x → is_name x.name ≡ true) → AreCNamed k → AreCNamed (function_named h heads d k t o)
function_has h heads d k t None e n = n
function_has h heads d k t (Some name) e n =
    let j : Passed DeclaredType = declarator_passed h name.place (based t k.standing) d.declarator in
    type_named h heads (storage_of d.specifiers) d name (with_standing k j.after) j.made (e name refl) n

definition_has : (h : Keep) (heads : Heads) (k : Known) (d : Definition At) → ((x : Identifier At) → name_in d.declarator ≡ Some x → is_name x.name ≡ true) → AreCNamed k → AreCNamed (defined_outside h heads k d)
unfolding defined_outside
definition_has h heads k d e n =
    let t : Passed PlainType = specified h site_is.OfDefinition (allowed_at_definition d) false k.standing d.specifiers in
    function_has h heads d (record k { standing = t.after; mains = k.mains ++ main_constants (constants_of d.specifiers) }) t.made (name_in d.declarator) e n

-- ## Roots

one_has : (h : Keep) (heads : Heads) (k : Known) (e : External At) → HasName e → AreCNamed k → AreCNamed (known_after h heads k e)
one_has h heads k (Outer at d) e n = subst (AllByRecursion HasCName) (sym (declaration_same h heads k d)) n
one_has h heads k (Defines d) e n = definition_has h heads k d e n

all_have : (h : Keep) (heads : Heads) (k : Known) (es : List (External At)) → AllByRecursion HasName es → AreCNamed k → AreCNamed (known_after_all h heads k es)
all_have h heads k [] e n = n
all_have h heads k (x ∷ es) e n = all_have h heads (known_after h heads k x) es e.1 (one_has h heads k x e.0 n)

roots_have : (h : Keep) (heads : Heads) (k : Known) (roots : List (List (External At))) → AllByRecursion (AllByRecursion HasName) roots → AreCNamed k → AreCNamed (roots_passed h heads k roots)
roots_have h heads k [] e n = n
roots_have h heads k (root ∷ rest) e n = roots_have h heads (root_passed h heads k root) rest e.1 (all_have h heads (root_begun k) root e.0 n)

first_has : (e : External At) (roots : List (List (External At))) → HasName e → AllByRecursion (AllByRecursion HasName) roots → AllByRecursion (AllByRecursion HasName) (with_first e roots)
first_has e [] n h = ((n, tt), tt)
first_has e (root ∷ rest) n h = ((n, h.0), h.1)

cut_has : (es : List (External At)) → AllByRecursion HasName es → AllByRecursion (AllByRecursion HasName) (roots_of es)
cut_has [] h = tt
cut_has (e ∷ rest) h = by_test (root_follows rest) (cut_has rest h.1)
  where
    by_test : (b : Bool) → AllByRecursion (AllByRecursion HasName) (roots_of rest) → AllByRecursion (AllByRecursion HasName) (if b then (e ∷ []) ∷ roots_of rest else with_first e (roots_of rest))
    by_test true k = ((h.0, tt), k)
    by_test false k = first_has e (roots_of rest) h.0 k

known_has : (h : Keep) (es : List (External At)) → AllByRecursion HasName es → AreCNamed (known_of h (roots_of es))
unfolding known_of
known_has h es n = roots_have h (heads_of_roots 0 (roots_of es)) nothing_known (roots_of es) (cut_has es n) tt

-- ## `main`

main_is_there : (o : Option ℕ) (ps : List Problem) → missing_main o ps ≡ [] → (n : ℕ) × (o ≡ Some n)
main_is_there None [] e = absurd cc
main_is_there None (r ∷ rest) e = absurd cc
main_is_there (Some n) ps e = (n, refl)

position_low : {A : Type 0} (test : A → Bool) (i : ℕ) (xs : List A) (n : ℕ) → position_from test i xs ≡ Some n → i ≤ n
position_low test i [] n e = absurd (none-some _ e)
position_low test i (x ∷ xs) n e = by_test (test x) e (position_low test (i + 1) xs n)
  where
    by_test : (b : Bool) → cond b (Some i) (position_from test (i + 1) xs) ≡ Some n → (position_from test (i + 1) xs ≡ Some n → i + 1 ≤ n) → i ≤ n
    by_test true e k = let same : i ≡ n = same_Some _ _ e in omega (arith, same)
    by_test false e k = let low : i + 1 ≤ n = k e in omega (arith, low)

position_passes : {A : Type 0} (test : A → Bool) (i : ℕ) (xs : List A) (n k : ℕ) (x : A) → position_from test i xs ≡ Some n → n ≡ i + k → slice_get xs k ≡ Some x → test x ≡ true
position_passes test i [] n k x e s there = absurd (none-some _ there)
position_passes test i (y ∷ xs) n zero x e s there = by_test (test y) refl e
  where
    by_test : (b : Bool) → test y ≡ b → cond b (Some i) (position_from test (i + 1) xs) ≡ Some n → test x ≡ true
    by_test true q e = ap test (sym (same_Some _ _ there)) ∙ q
    by_test false q e = let low : i + 1 ≤ n = position_low test (i + 1) xs n e in absurd (omega (arith, low, s))
position_passes test i (y ∷ xs) n (suc k) x e s there = by_test (test y) e (λ e. position_passes test (i + 1) xs n k x e (omega (arith, s)) there)
  where
    by_test : (b : Bool) → cond b (Some i) (position_from test (i + 1) xs) ≡ Some n → (position_from test (i + 1) xs ≡ Some n → test x ≡ true) → test x ≡ true
    by_test true e k1 = let same : i ≡ n = same_Some _ _ e in absurd (omega (arith, same, s))
    by_test false e k1 = k1 e

-- ## Programs

name_at : (fs : List PlainFunction) → AllByRecursion HasCName fs → (n : ℕ) (f : PlainFunction) → slice_get fs n ≡ Some f → is_name f.name ≡ true
name_at [] h n f e = absurd (none-some _ e)
name_at (g ∷ fs) h zero f e = subst HasCName (same_Some _ _ e) h.0
name_at (g ∷ fs) h (suc n) f e = name_at fs h.1 n f e

main_named : (fs : List PlainFunction) (n : ℕ) → main_among fs ≡ Some n → (f : PlainFunction) → slice_get fs (unwrap_or (main_among fs) 0) ≡ Some f → f.name ≡ codes "main"
main_named fs n e f there =
    let at_main : slice_get fs n ≡ Some f = ap (λ o. slice_get fs (unwrap_or o 0)) (sym e) ∙ there in
    (bytes_eq-Decides f.name (codes "main")).0 (position_passes (λ (g : PlainFunction). is_main_name g.name) 0 fs n n f e (omega arith) at_main)

whole_named : (h : Keep) (es : List (External At)) → AllByRecursion HasName es → (p : PlainProgram) → IsAccepted h (roots_of es) p → AreNamed (whole_of h (roots_of es))
whole_named h es n p a =
    let main = main_is_there (main_among (known_of h (roots_of es)).functions) _ a.no_row.main in
    record {
      names = λ i f there. name_at (known_of h (roots_of es)).functions (known_has h es n) i f there;
      main_is = λ f there. main_named (known_of h (roots_of es)).functions main.0 main.1 f there;
    }

-- what trees come to has names of C where their definitions have
pub elaborated_named : (es : List (External At)) (p : PlainProgram) → AllByRecursion HasName es → elaborated es ≡ program p → AreNamed p
elaborated_named es p n e =
    let a : IsAccepted only_first (roots_of es) p = answers_have_causes.accepted only_first es p e in
    subst AreNamed a.is (whole_named only_first es n p a)
