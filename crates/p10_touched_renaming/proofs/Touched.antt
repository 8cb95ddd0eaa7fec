-- Bodies that differ leave what is known outside of them the same.
use Rattle.std.proofs.Common.{◌≡◌, ◌∙◌, ℕ, zero, suc, ◌+◌, ◌<◌, ◌≤◌, true, false, List, [], ◌∷◌, ◌++◌, length, length-append, le_refl, Option, Some, None, refl, sym, subst, arith}
use Rattle.std.specs.Prelude.{slice_get}
use Rattle.std.proofs.lemmas.Option.{slice_get_within}
use Rattle.p10_base.specs.Words.{Text}
use Rattle.p10_base.specs.declared.at.At.{At}
use Rattle.p10_syn.specs.Trees.{Identifier, Declarator, Definition, Statements}
use Rattle.p10_core.specs.Types.{PlainType, PlainStructure}
use Rattle.p10_core.specs.Typed.{PlainFunction, PlainStatement}
use Rattle.p10_core.specs.Completing.{AreBuilt}
use Rattle.p10_elabx.specs.First.{Keep}
use Rattle.p10_elabx.specs.Scopes.{PlainScope}
use Rattle.p10_elabd.specs.Standing.{PlainStanding, Passed}
use Rattle.p10_elabd.specs.Words.{storage_of}
use Rattle.p10_elabd.specs.declared.site.Site.TheVariants as site_is
use Rattle.p10_elabd.specs.declared.site.Storage.{Storage}
use Rattle.p10_elabd.specs.Shapes.{FunctionType, DeclaredType, of_type, of_function, name_in}
use Rattle.p10_elabd.specs.Declaring.{specified, declarator_passed, based}
use Rattle.p10_heads.specs.Heads.{Heads, number_in}
use Rattle.p10_linkage.specs.Linkage.{Linked, is_main_name}
use Rattle.p10_elabs.specs.Addresses.{addresses_taken, constants_of}
use Rattle.p10_elabs.specs.Locals.{Frame, Local}
use Rattle.p10_elabs.specs.Statements.{in_nothing, Block', no_items_yet, items_done}
use Rattle.p10_elab.specs.Knowledge.{Known, linked_of, with_linked, with_standing}
use Rattle.p10_elab.specs.Outer.{names_noted, body_begun, function_type, main_constants, function_made, body_done, function_by_type, allowed_at_definition, function_named, defined_outside}
use Rattle.p10_block_structures.specs.Laws.{AreNewTags}
use Rattle.p10_renaming.specs.Renaming.{Pairing, passing, SameType}
use Rattle.p10_expression_renaming.specs.Mapped.{mapped_declarator}
use Rattle.p10_expression_renaming.specs.Knowing.{SameBindings, IsOneToOne}
use Rattle.p10_expression_renaming.proofs.Sameness.{SameName, same_no_name, same_name}
use Rattle.p10_expression_renaming.proofs.TypeNames.{left, right}
use Rattle.p10_declaration_renaming.specs.Standings.{Both, SameStructure, SameTables, SameWholeScope, SameStanding, AreQuiet, SameFunctionType, SameDeclared, same_of_type, same_of_open_array, same_of_function, same_of_part_function}
use Rattle.p10_declaration_renaming.proofs.Boths.{both_by}
use Rattle.p10_declaration_renaming.proofs.Growing.{Grows, as_before, grows_on, grows_specified}
use Rattle.p10_declaration_renaming.proofs.Alike.{quiet_before}
use Rattle.p10_declaration_renaming.proofs.Naming.{name_in_same}
use Rattle.p10_declaration_renaming.proofs.Declaring.{specifiers_renamed, declarators_renamed}
use Rattle.p10_statement_renaming.proofs.Declarations.{storage_same, named_at}
use Rattle.p10_pairing_laws.proofs.Scopes.{parameter_types_stay}
use Rattle.p10_root_renaming.specs.Roots.{SameLinkedType, same_a_function, SameLinked, SameHeads, function_names, SameKnown}
use Rattle.p10_root_renaming.proofs.Linking.{linked_same, with_linked_same}
use Rattle.p10_root_renaming.proofs.Outside.{known_at, parameter_types_same}
use Rattle.p10_root_renaming.proofs.Functions.{names_append}
use Rattle.p10_root_renaming.proofs.GrowingOutside.{grows_function}
use Rattle.p10_touched_renaming.specs.Touched.{first_with, second_with, up_to_parameters, declarator_begun, before_parameters, declarator_made, before_body, after_body}
use Rattle.p10_touched_renaming.specs.Laws.{TouchedRenamed}
use Rattle.p10_touched_renaming.proofs.Heads.{based_no_function, Kept, HeadEnds, declarator_ends}
use Rattle.p10_touched_renaming.proofs.Begun.{parameters_begin, grows_up_to, grows_from_parameters}
use Rattle.p10_touched_renaming.proofs.Leaving.{linked_structures, body_kept}

-- ## Functions more

-- one function more
abbrev pub OneMore : List PlainFunction → List PlainFunction → Type 0
OneMore after before = length after ≡ length before + 1

pub not_more : {C : Type 0} (fs : List PlainFunction) → OneMore fs fs → C
not_more fs e = absurd (omega (arith, e))

-- the names of functions with one more
more_names : (fs : List PlainFunction) (l : Linked) (t : FunctionType) (b : Local) (o : Option (List PlainStatement)) → OneMore (fs ++ function_made l t b o l.at) fs → function_names (fs ++ function_made l t b o l.at) ≡ function_names fs ++ l.name ∷ []
more_names fs l t b None e = absurd (let d : length (fs ++ []) ≡ length fs + 0 = length-append fs [] in omega (arith, e, d))
more_names fs l t b (Some ss) e = names_append fs (function_made l t b (Some ss) l.at)

-- ## Bodies

-- the names of the functions then
body_names : (h : Keep) (heads : Heads) (l : Linked) (t : FunctionType) (body : Statements At) (k : Known) → OneMore (body_done h heads l t body k).functions k.functions
    → function_names (body_done h heads l t body k).functions ≡ function_names k.functions ++ l.name ∷ []
body_names h heads l t body k e =
    let f : Frame = record { heads = heads; taken = addresses_taken t.parameters body; number = number_in heads.functions l.root l.internal l.name; result = t.result } in
    let b : Block' = items_done h f (is_main_name l.name) in_nothing (no_items_yet (body_begun f t (names_noted h t.parameters k.standing))) body in
    more_names k.functions l t b.after b.made e

not_past : {C : Type 0} (xs : List PlainStructure) (n : ℕ) → slice_get xs n ≡ None → n < length xs → C
not_past [] n e low = absurd (omega (arith, low))
not_past (x ∷ xs) zero e low = absurd cc
not_past (x ∷ xs) (suc n) e low = not_past xs n e (omega (arith, low))

there_by : (R : Pairing) (these others : List PlainStructure) (n m : ℕ) (a b : Option PlainStructure) → slice_get these n ≡ a → slice_get others m ≡ b → Both (SameStructure R) a b → n < length these → m < length others
there_by R these others n m None None e d k low = not_past these n e low
there_by R these others n m (Some x) (Some y) e d k low = slice_get_within others m y d
there_by R these others n m None (Some y) e d k low = absurd k
there_by R these others n m (Some x) None e d k low = absurd k

-- structures that are paired are there in both programs
pub there_too : (R : Pairing) (these others : List PlainStructure) → SameTables R these others → (n m : ℕ) → R.used n m ≡ true → n < length these → m < length others
there_too R these others know n m paired low = there_by R these others n m (slice_get these n) (slice_get others m) refl refl (know.entries n m paired) low

-- what is known of a scope from which another one is kept, of which structures after a number may differ
narrowed : (R : Pairing) (last start other : ℕ) (s t u v : PlainScope) → SameWholeScope R last s t → ((n m : ℕ) → R.used n m ≡ true → (n < start) × (m < other)) → Kept start s u → Kept other t v
    → AreBuilt u.structures → AreBuilt v.structures → SameWholeScope R (length u.structures) u v
narrowed R last start other s t u v know low x y built other_built = record {
  tables = record {
    entries = λ n m paired. let l = low n m paired in both_by (SameStructure R) (x.structures n l.0) (y.structures m l.1) (know.tables.entries n m paired);
    built = built;
    other_built = other_built;
  };
  names = subst (λ ns. SameBindings R ns v.names) (sym x.again.names) (subst (λ ns. SameBindings R s.names ns) (sym y.again.names) know.names);
  tags = subst (λ ns. SameBindings R ns v.tags) (sym x.again.tags) (subst (λ ns. SameBindings R s.tags ns) (sym y.again.tags) know.tags);
  floors = x.again.floors ∙ (know.floors ∙ sym y.again.floors);
  next = λ i below. absurd (omega (arith, below));
}

bodies_skipped : (R : Pairing) (last start other_start : ℕ) (h : Keep) (heads others : Heads) (l m : Linked) → SameLinked R l m → (t u : FunctionType) (one other : Statements At) (k j : Known) → SameKnown R last k j
    → ((n m : ℕ) → R.used n m ≡ true → (n < start) × (m < other_start)) → AreNewTags start t.tags → AreNewTags other_start u.tags → start ≤ length k.standing.scope.structures → other_start ≤ length j.standing.scope.structures
    → OneMore (body_done h heads l t one k).functions k.functions → OneMore (body_done h others m u other j).functions j.functions
    → AreBuilt (body_done h heads l t one k).standing.scope.structures → AreBuilt (body_done h others m u other j).standing.scope.structures
    → SameKnown R (length (body_done h heads l t one k).standing.scope.structures) (body_done h heads l t one k) (body_done h others m u other j)
bodies_skipped R last start other_start h heads others l m linked t u one other k j know low fresh other_fresh more other_more made other_made built other_built = record {
  standing = narrowed R last start other_start k.standing.scope j.standing.scope (body_done h heads l t one k).standing.scope (body_done h others m u other j).standing.scope know.standing low
      (body_kept h heads l t one k start fresh more) (body_kept h others m u other j other_start other_fresh other_more) built other_built;
  root = know.root;
  linked = know.linked;
  functions = body_names h heads l t one k made ∙ ((λ i. know.functions i ++ linked.name i ∷ []) ∙ sym (body_names h others m u other j other_made));
}

-- ## Heads

-- what a function becomes after its head, and what is asked of it
abbrev Skips : Pairing → Known → Known → Known → Known → Type 0
Skips R k j a b =
    OneMore a.functions k.functions → OneMore b.functions j.functions → AreBuilt a.standing.scope.structures → AreBuilt b.standing.scope.structures → SameKnown R (length a.standing.scope.structures) a b

-- types that two declarators made of the same
of_types : (R : Pairing) (o q : Option DeclaredType) (t u : PlainType) → Both (SameDeclared R) o q → o ≡ Some (of_type t) → q ≡ Some (of_type u) → SameType R t u
of_types R o q t u h e d = type_in (subst (λ x. Both (SameDeclared R) (Some (of_type t)) x) d (subst (λ x. Both (SameDeclared R) x q) e h))
  where
    type_in : SameDeclared R (of_type t) (of_type u) → SameType R t u
    type_in (same_of_type k) = k

module _ (S R : Pairing) (one : IsOneToOne S) (passes : (n m : ℕ) → S.passed n m ≡ true → R.passed n m ≡ true) (h : Keep) (heads others : Heads) (same : SameHeads heads others) where
  -- two functions whose heads are the same, up to their parameters by the one pairing and whole by the other one
  function_met : (last : ℕ) (p q : Passed DeclaredType) (u v : PlainStanding) (k j : Known) → SameKnown R last (with_standing k p.after) (with_standing j q.after) → Both (SameDeclared R) p.made q.made
      → ((n m : ℕ) → R.used n m ≡ true → n < length p.after.scope.structures) → SameTables S u.scope.structures v.scope.structures → (f g : FunctionType) → SameFunctionType S f g → HeadEnds p f u → HeadEnds q g v
      → (s : Storage) (d : Definition (At × At)) (first second : Statements At) (at to : At) (text : Text)
      → Skips R (with_standing k u) (with_standing j v) (function_by_type h heads s (first_with d first) (named_at at text) (with_standing k u) (Some (of_function f)))
      (function_by_type h others s (second_with d second) (named_at to text) (with_standing j v) (Some (of_function g)))
  function_met last p q u v k j know both below tables f g n x y s d first second at to text = λ made other_made built other_built.
      let start : ℕ = length p.after.scope.structures in
      let other_start : ℕ = length q.after.scope.structures in
      let low : (n m : ℕ) → R.used n m ≡ true → (n < start) × (m < other_start) = λ n m paired.
      (below n m paired, there_too R p.after.scope.structures q.after.scope.structures know.standing.tables n m paired (below n m paired)) in
      let m : Known = with_standing k u in
      let c : Known = with_standing j v in
      let head : SameKnown R (length u.scope.structures) m c = record {
        standing = narrowed R last start other_start p.after.scope q.after.scope u.scope v.scope know.standing low x.kept y.kept tables.built tables.other_built;
        root = know.root;
        linked = know.linked;
        functions = know.functions;
      } in
      let parameters = parameter_types_stay (passing S) (passing R) (record { used = passes; passed = passes }) (parameter_types_same S one n.parameters) in
      let type : SameLinkedType R (function_type f) (function_type g) = same_a_function parameters (of_types R p.made q.made f.result g.result both x.result y.result) in
      let l : Linked = linked_of m (named_at at text) (function_type f) s true false in
      let i : Linked = linked_of c (named_at to text) (function_type g) s true false in
      let linked : SameLinked R l i = linked_same R (length u.scope.structures) at to text s true true false refl type m c head in
      let a : Known = with_linked h heads l m in
      let b : Known = with_linked h others i c in
      bodies_skipped R (length u.scope.structures) start other_start h heads others l i linked f g first second a b (with_linked_same R (length u.scope.structures) h heads others same l i linked m c head) low x.fresh y.fresh
      (subst (λ (ss : List PlainStructure). start ≤ length ss) (sym (linked_structures h heads l m)) x.more) (subst (λ (ss : List PlainStructure). other_start ≤ length ss) (sym (linked_structures h others i c)) y.more)
      made other_made built other_built

  by_type : (last : ℕ) (p q : Passed DeclaredType) (u v : PlainStanding) (k j : Known) → SameKnown R last (with_standing k p.after) (with_standing j q.after) → Both (SameDeclared R) p.made q.made
      → ((n m : ℕ) → R.used n m ≡ true → n < length p.after.scope.structures) → SameTables S u.scope.structures v.scope.structures
      → (o r : Option DeclaredType) → Both (SameDeclared S) o r → ((f : FunctionType) → o ≡ Some (of_function f) → HeadEnds p f u) → ((g : FunctionType) → r ≡ Some (of_function g) → HeadEnds q g v)
      → (s : Storage) (d : Definition (At × At)) (first second : Statements At) (at to : At) (text : Text)
      → Skips R (with_standing k u) (with_standing j v) (function_by_type h heads s (first_with d first) (named_at at text) (with_standing k u) o) (function_by_type h others s (second_with d second) (named_at to text) (with_standing j v) r)
  by_type last p q u v k j know both below tables None None n x y s d first second at to text = λ made. not_more k.functions made
  by_type last p q u v k j know both below tables (Some o) (Some r) (same_of_type n) x y s d first second at to text = λ made. not_more k.functions made
  by_type last p q u v k j know both below tables (Some o) (Some r) (same_of_open_array n) x y s d first second at to text = λ made. not_more k.functions made
  by_type last p q u v k j know both below tables (Some o) (Some r) (same_of_part_function n) x y s d first second at to text = λ made. not_more k.functions made
  by_type last p q u v k j know both below tables (Some o) (Some r) (same_of_function {f = f} {g = g} n) x y s d first second at to text =
      function_met last p q u v k j know both below tables f g n (x f refl) (y g refl) s d first second at to text
  by_type last p q u v k j know both below tables None (Some r) n x y s d first second at to text = absurd n
  by_type last p q u v k j know both below tables (Some o) None n x y s d first second at to text = absurd n

  by_name : IsOneToOne R → (last front : ℕ) (d : Definition (At × At)) (first second : Statements At) (k j : Known) → SameStanding S last k.standing j.standing → SameKnown R front k j
      → (t u : Option PlainType) → Both (SameType S) t u → Both (SameType R) t u → (x y : Option (Identifier At)) → SameName x y
      → ((n m : ℕ) → R.used n m ≡ true → n < length (declarator_begun h t k.standing (mapped_declarator left d.declarator) x).after.scope.structures)
      → AreQuiet last (declarator_made h t k.standing (mapped_declarator left d.declarator) x).after (declarator_made h u j.standing (mapped_declarator right d.declarator) y).after
      → AreQuiet front (declarator_begun h t k.standing (mapped_declarator left d.declarator) x).after (declarator_begun h u j.standing (mapped_declarator right d.declarator) y).after
      → Skips R (with_standing k (declarator_made h t k.standing (mapped_declarator left d.declarator) x).after) (with_standing j (declarator_made h u j.standing (mapped_declarator right d.declarator) y).after)
      (function_named h heads (first_with d first) k t x) (function_named h others (second_with d second) j u y)
  by_name only last front d first second k j stand know t u n m x y same_no_name below quiet begun = λ made. not_more k.functions made
  by_name only last front d first second k j stand know t u n m x y (same_name {at = at} {to = to} {name = text}) below quiet begun =
      let these : Declarator At = mapped_declarator left d.declarator in
      let those : Declarator At = mapped_declarator right d.declarator in
      let p : Passed DeclaredType = declarator_passed h at (based t k.standing) these in
      let q : Passed DeclaredType = declarator_passed h to (based u j.standing) those in
      let a : Passed DeclaredType = up_to_parameters h at (based t k.standing) these in
      let b : Passed DeclaredType = up_to_parameters h to (based u j.standing) those in
      let s : Storage = storage_of (first_with d first).specifiers in
      let r = declarators_renamed S one last h k.standing j.standing at to t u (λ z. n) d.declarator (λ z. stand) quiet in
      let e = parameters_begin R only front h k.standing j.standing at to t u (λ z. m) d.declarator (λ z. know.standing) begun in
      subst (λ z. Skips R (with_standing k p.after) (with_standing j q.after) (function_by_type h heads s (first_with d first) (named_at at text) (with_standing k p.after) p.made)
      (function_by_type h others z (second_with d second) (named_at to text) (with_standing j q.after) q.made))
      (storage_same d.specifiers)
      (by_type front a b p.after q.after k j (known_at R front k j a.after b.after know e.1.1) e.1.0 below r.1.1.tables p.made q.made r.1.0
      (λ f is. declarator_ends h at (based t k.standing) these f (based_no_function t) is) (λ g is. declarator_ends h to (based u j.standing) those g (based_no_function u) is) s d first second at to text)

-- whole heads
heads_met : (S : Pairing) → IsOneToOne S → (last : ℕ) (h : Keep) (d : Definition (At × At)) (s v : PlainStanding) → SameStanding S last s v → (t u : Option PlainType) → Both (SameType S) t u → (x y : Option (Identifier At)) → SameName x y
    → AreQuiet last (declarator_made h t s (mapped_declarator left d.declarator) x).after (declarator_made h u v (mapped_declarator right d.declarator) y).after
    → SameTables S (declarator_made h t s (mapped_declarator left d.declarator) x).after.scope.structures (declarator_made h u v (mapped_declarator right d.declarator) y).after.scope.structures
heads_met S one last h d s v stand t u n x y same_no_name quiet = stand.tables
heads_met S one last h d s v stand t u n x y (same_name {at = at} {to = to}) quiet = (declarators_renamed S one last h s v at to t u (λ z. n) d.declarator (λ z. stand) quiet).1.1.tables

-- ## What stands grows

-- what a head makes, and what stands after it, is before what the function becomes
grows_head : (h : Keep) (heads : Heads) (d : Definition At) (k : Known) (t : Option PlainType) (o : Option (Identifier At)) → Grows (declarator_made h t k.standing d.declarator o).after (function_named h heads d k t o).standing
grows_head h heads d k t None = as_before k.standing
grows_head h heads d k t (Some name) =
    let j : Passed DeclaredType = declarator_passed h name.place (based t k.standing) d.declarator in
    grows_function h heads (storage_of d.specifiers) d name (with_standing k j.after) j.made

-- a declarator after the type of its specifiers, up to its parameters and from there on
grows_begun : (h : Keep) (t : Option PlainType) (s : PlainStanding) (d : Declarator At) (o : Option (Identifier At)) → Grows (declarator_begun h t s d o).after (declarator_made h t s d o).after
grows_begun h t s d None = as_before s
grows_begun h t s d (Some name) = grows_from_parameters h name.place (based t s) d

grows_to_parameters : (h : Keep) (t : Option PlainType) (s : PlainStanding) (d : Declarator At) (o : Option (Identifier At)) → Grows s (declarator_begun h t s d o).after
grows_to_parameters h t s d None = as_before s
grows_to_parameters h t s d (Some name) = grows_up_to h name.place (based t s) d

-- structures only become more up to the parameters, from there up to the body, and in it
pub record HeadGrows (h : Keep) (k : Known) (d : Definition At) : Type 0 where
  pub begun : length k.standing.scope.structures ≤ before_parameters h k d
  pub declared : before_parameters h k d ≤ before_body h k d
  pub done : (heads : Heads) → before_body h k d ≤ after_body h heads k d

pub head_grows : (h : Keep) (k : Known) (d : Definition At) → HeadGrows h k d
unfolding defined_outside
head_grows h k d =
    let t : Passed PlainType = specified h site_is.OfDefinition (allowed_at_definition d) false k.standing d.specifiers in
    let m : Known = record k { standing = t.after; mains = k.mains ++ main_constants (constants_of d.specifiers) } in
    record {
      begun = (grows_on (grows_specified h site_is.OfDefinition (allowed_at_definition d) false k.standing d.specifiers) (grows_to_parameters h t.made t.after d.declarator (name_in d.declarator))).count;
      declared = (grows_begun h t.made t.after d.declarator (name_in d.declarator)).count;
      done = λ heads. (grows_head h heads d m t.made (name_in d.declarator)).count;
    }

-- ## The law

pub touched_renamed : TouchedRenamed
unfolding defined_outside
touched_renamed S R one only h heads others same k j d first second made other_made built other_built narrow start front quiet =
    let a : Definition At = first_with d first in
    let b : Definition At = second_with d second in
    let last : ℕ = before_body h k a in
    let from : ℕ = before_parameters h k a in
    let t : Passed PlainType = specified h site_is.OfDefinition (allowed_at_definition a) false k.standing a.specifiers in
    let u : Passed PlainType = specified h site_is.OfDefinition (allowed_at_definition b) false j.standing b.specifiers in
    let m : Known = record k { standing = t.after; mains = k.mains ++ main_constants (constants_of a.specifiers) } in
    let c : Known = record j { standing = u.after; mains = j.mains ++ main_constants (constants_of b.specifiers) } in
    let x : Option (Identifier At) = name_in a.declarator in
    let y : Option (Identifier At) = name_in b.declarator in
    let p : Passed DeclaredType = declarator_made h t.made t.after a.declarator x in
    let q : Passed DeclaredType = declarator_made h u.made u.after b.declarator y in
    let i : Passed DeclaredType = declarator_begun h t.made t.after a.declarator x in
    let g : Passed DeclaredType = declarator_begun h u.made u.after b.declarator y in
    let inside : AreQuiet last p.after q.after = record {
      left = (grows_head h heads a m t.made x).quiet quiet.left;
      right = (grows_head h others b c u.made y).quiet quiet.right;
      few = le_refl last;
    } in
    let begun : AreQuiet from i.after g.after = record {
      left = (grows_begun h t.made t.after a.declarator x).quiet inside.left;
      right = (grows_begun h u.made u.after b.declarator y).quiet inside.right;
      few = le_refl from;
    } in
    let typed : AreQuiet last t.after u.after = quiet_before last t.after u.after p.after q.after
    (grows_on (grows_to_parameters h t.made t.after a.declarator x) (grows_begun h t.made t.after a.declarator x)) (grows_on (grows_to_parameters h u.made u.after b.declarator y) (grows_begun h u.made u.after b.declarator y)) inside in
    let typed_first : AreQuiet from t.after u.after = quiet_before from t.after u.after i.after g.after (grows_to_parameters h t.made t.after a.declarator x) (grows_to_parameters h u.made u.after b.declarator y) begun in
    let these : Grows k.standing t.after = grows_specified h site_is.OfDefinition (allowed_at_definition a) false k.standing a.specifiers in
    let those : Grows j.standing u.after = grows_specified h site_is.OfDefinition (allowed_at_definition b) false j.standing b.specifiers in
    let stand : SameKnown S last k j = start (quiet_before last k.standing j.standing t.after u.after these those typed) in
    let know : SameKnown R from k j = front (quiet_before from k.standing j.standing t.after u.after these those typed_first) in
    let r = specifiers_renamed S one last h site_is.OfDefinition (allowed_at_definition a) (allowed_at_definition b) false k.standing j.standing d.specifiers (λ z. stand.standing) typed in
    let e = specifiers_renamed R only from h site_is.OfDefinition (allowed_at_definition a) (allowed_at_definition b) false k.standing j.standing d.specifiers (λ z. know.standing) typed_first in
    let tables : SameTables S p.after.scope.structures q.after.scope.structures = heads_met S one last h d m.standing c.standing r.1.1 t.made u.made r.1.0 x y (name_in_same d.declarator) inside in (
      by_name S R one narrow.passed h heads others same only last from d first second m c r.1.1 (record { standing = e.1.1; root = know.root; linked = know.linked; functions = know.functions }) t.made u.made r.1.0 e.1.0 x y (name_in_same d.declarator)
          narrow.used inside begun made other_made built other_built,
      λ n z paired low. omega (arith, there_too S p.after.scope.structures q.after.scope.structures tables n z paired low, (grows_head h others b c u.made y).count),
    )
