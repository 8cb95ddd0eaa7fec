-- A declaration of a function that doesn't agree with the one before it is told.
use Rattle.std.specs.Prelude.{◌≡◌, refl, ℕ, nat_eq, Bool, true, false, not, ◌&&◌, ◌||◌, if◌then◌else◌, List, [], ◌∷◌, ◌++◌, length, Option, Some, None, bytes_eq}
use Rattle.std.specs.Bool.{beq}
use Rattle.std.proofs.Common.{sym, subst, ap, ◌∙◌, append_assoc, append-nil, eq-eqb}
use Rattle.std.proofs.lemmas.Slice.Eq.{bytes_eq-Decides}
use Rattle.p10_base.specs.Words.{Text}
use Rattle.p10_base.specs.declared.at.At.{At}
use Rattle.p10_base.specs.declared.codes.SubsetCode.TheVariants as subset
use Rattle.p10_syn.specs.Trees.{Identifier, Initializer, InitDeclarator, Declaration, Definition, External, Outer, Defines}
use Rattle.p10_core.specs.Types.{PlainType, PlainStructure}
use Rattle.p10_elabx.specs.First.{Among, every}
use Rattle.p10_elabd.specs.declared.declaration.ParameterList.{ParameterList}
use Rattle.p10_elabd.specs.declared.declaration.ParameterList.TheVariants as list_is
use Rattle.p10_elabd.specs.Laws.{FormRowsAreTold}
use Rattle.p10_elabd.specs.Standing.{PlainStanding, Passed}
use Rattle.p10_elabd.specs.Words.{storage_of}
use Rattle.p10_elabd.specs.declared.site.Site.TheVariants as site_is
use Rattle.p10_elabd.specs.declared.site.Storage.{Storage}
use Rattle.p10_elabd.specs.Shapes.{DeclaredType, of_type, of_open_array, of_function, of_part_function, name_in}
use Rattle.p10_elabd.specs.Declaring.{specified, declarator_passed, based}
use Rattle.p10_heads.specs.Heads.{Heads, heads_of_roots}
use Rattle.p10_elabs.specs.Addresses.{constants_of}
use Rattle.p10_elabs.specs.Locals.{makes_sensors}
use Rattle.p10_elabs.specs.LocalDeclarations.{is_typedef}
use Rattle.p10_linkage.specs.Linkage.{LinkedType, Linked, is_function, parameters_of, known_result, list_form, same_known, same_parameters, forms_agree, lists_agree, is_none_listed, same_functions, same_objects, same_linked, last_linked, differs, is_refused}
use Rattle.p10_linkage.specs.Uniting.{and_then}
use Rattle.p10_linkage.specs.Compatible.{known_compatible, parameters_compatible, functions_compatible, objects_compatible, are_compatible}
use Rattle.p10_linkage.specs.Between.{known_united, parameters_united, functions_united, objects_united, linked_united, is_other, unless_compatible, agreed_with, agreed, agreed_noted, agreeing, all_agreeing, definitions_noted, taken_together}
use Rattle.p10_elab.specs.Knowledge.{Known, linked_of, with_linked, with_standing}
use Rattle.p10_elab.specs.Outer.{before_in, function_type, part_type, prototype_declared, by_type_outside, outer_named, outer_declarators, main_constants, declared_outside, function_by_type, listed_names_noted, allowed_at_definition, function_named, defined_outside}
use Rattle.p10_elab.specs.Programs.{known_of, standing_of}
use Rattle.p10_refusals.specs.Forms.{reached_outside, DeclaredAfter}
use Rattle.p10_refusals.specs.InRoots.{reached_in_roots}
use Rattle.p10_refusals.specs.Redeclarations.{WrittenList, list_in, linked_by, HasList, are_apart, are_as_many, lists_differ, declared_twice_at, IsKnownWith, IsDeclaredAgain, IsRedeclared, IsRedefined, RedeclarationsAreTold}
use Rattle.p10_refusals.specs.Sizes.{known_outside, declared_by}
use Rattle.p10_refusals.proofs.Growing.{grows_on, refusing_told, grown, grown_outside}
use Rattle.p10_refusals.proofs.FormsOutside.{told_where_false, named_outside, specified_type_of, at_declarators}
use Rattle.p10_refusals.proofs.InRoots.{grows_agreeing, grows_definitions, declarations_told}
use Rattle.p10_refusals.proofs.Lists.{list_told}
use Rattle.p10_refusals.proofs.Tests.{first_true, second_false, both_true}
use Rattle.p10_statement_steps.proofs.Typing.{over_no_initializer}
use Rattle.p10_root_steps.proofs.Passing.{over_body}

-- ## Lists that don't go together

apart_differ : (defines defining : Bool) (l m : ParameterList) (ts us : List (Option PlainType)) → are_apart l m ≡ true → forms_agree defines defining l m ts us ≡ false
apart_differ defines defining list_is.Empty list_is.Variadic ts us h = refl
apart_differ defines defining list_is.Variadic list_is.Empty ts us h = refl
apart_differ defines defining list_is.Fixed list_is.Variadic ts us h = refl
apart_differ defines defining list_is.Variadic list_is.Fixed ts us h = refl
apart_differ defines defining list_is.Empty list_is.Empty ts us h = absurd cc
apart_differ defines defining list_is.Empty list_is.Fixed ts us h = absurd cc
apart_differ defines defining list_is.Fixed list_is.Empty ts us h = absurd cc
apart_differ defines defining list_is.Fixed list_is.Fixed ts us h = absurd cc
apart_differ defines defining list_is.Variadic list_is.Variadic ts us h = absurd cc

counts_differ : (ts us : List (Option PlainType)) → are_as_many ts us ≡ false → same_parameters ts us ≡ false
counts_differ [] [] h = absurd cc
counts_differ [] (u ∷ us) h = refl
counts_differ (t ∷ ts) [] h = refl
counts_differ (t ∷ ts) (u ∷ us) h = second_false (same_known t u) (same_parameters ts us) (counts_differ ts us h)

counts_incompatible : (structures : List PlainStructure) (ts us : List (Option PlainType)) → are_as_many ts us ≡ false → parameters_compatible structures ts us ≡ false
counts_incompatible structures [] [] h = absurd cc
counts_incompatible structures [] (u ∷ us) h = refl
counts_incompatible structures (t ∷ ts) [] h = refl
counts_incompatible structures (t ∷ ts) (u ∷ us) h = second_false (known_compatible structures t u) (parameters_compatible structures ts us) (counts_incompatible structures ts us h)

none_then : {A : Type 0} (o : Option A) (go : A → Option A) → ((a : A) → go a ≡ None) → and_then o go ≡ None
none_then None go h = refl
none_then (Some a) go h = h a

counts_apart : (ts us : List (Option PlainType)) → are_as_many ts us ≡ false → (structures : List PlainStructure) → parameters_united ts us structures ≡ None
counts_apart [] [] h structures = absurd cc
counts_apart [] (u ∷ us) h structures = refl
counts_apart (t ∷ ts) [] h structures = refl
counts_apart (t ∷ ts) (u ∷ us) h structures = none_then (known_united t u structures) (parameters_united ts us) (counts_apart ts us h)

-- a test of two lists that fails where their forms are apart, or where they have parameters and not as many
either_fails : (apart none many lists result parameters : Bool) → (apart || not (none || many)) ≡ true → (apart ≡ true → lists ≡ false) → (many ≡ false → parameters ≡ false) →
    (lists && (result && (none || parameters))) ≡ false
either_fails true none many lists result parameters h f g = ap (λ b. b && (result && (none || parameters))) (f refl)
either_fails false true many lists result parameters h f g = absurd cc
either_fails false false true lists result parameters h f g = absurd cc
either_fails false false false lists result parameters h f g = second_false lists (result && parameters) (second_false result parameters (g refl))

-- the same where structures are made one
either_none : (apart none many lists : Bool) (result : Option (List PlainStructure)) (parameters : List PlainStructure → Option (List PlainStructure)) → (apart || not (none || many)) ≡ true →
    (apart ≡ true → lists ≡ false) → (many ≡ false → (structures : List PlainStructure) → parameters structures ≡ None) →
    (if lists then and_then result (λ structures. if none then Some structures else parameters structures) else None) ≡ None
either_none true none many lists result parameters h f g = ap (λ b. if b then and_then result (λ structures. if none then Some structures else parameters structures) else None) (f refl)
either_none false true many lists result parameters h f g = absurd cc
either_none false false true lists result parameters h f g = absurd cc
either_none false false false true result parameters h f g = none_then result parameters (g refl)
either_none false false false false result parameters h f g = refl

-- the lists of two declarations where they are apart
lists_apart : (before now : Linked) → are_apart (list_form before.type) (list_form now.type) ≡ true → lists_agree before.defines now.defines before.type now.type ≡ false
lists_apart before now = apart_differ before.defines now.defines (list_form before.type) (list_form now.type) (parameters_of before.type) (parameters_of now.type)

by_form : (before now : Linked) → is_function before.type ≡ true → is_function now.type ≡ true → lists_differ before.type now.type ≡ true → same_linked before now ≡ false
by_form before now f g h =
    ap (λ b. if b then same_functions before now else same_objects before.type now.type) (both_true (is_function before.type) (is_function now.type) f g)
    ∙ either_fails (are_apart (list_form before.type) (list_form now.type)) (is_none_listed before.type now.type) (are_as_many (parameters_of before.type) (parameters_of now.type))
    (lists_agree before.defines now.defines before.type now.type) (same_known (known_result before.type) (known_result now.type)) (same_parameters (parameters_of before.type) (parameters_of now.type)) h
    (lists_apart before now) (counts_differ (parameters_of before.type) (parameters_of now.type))

-- ## One root

refused_after : (s : PlainStanding) (linked : List Linked) (o : Option Linked) (earlier now : Linked) → o ≡ Some earlier → same_linked earlier now ≡ false → is_refused s linked o now ≡ true
refused_after s linked o earlier now e h =
    subst (λ x. is_refused s linked x now ≡ true) (sym e) (first_true (differs earlier now) _ (first_true (not (same_linked earlier now)) _ (ap not h)))

linked_told : (heads : Heads) (l : Linked) (k : Known) (earlier : Linked) → last_linked None l.root l.name k.linked ≡ Some earlier → same_linked earlier l ≡ false →
    Among (declared_twice_at l.at) (with_linked every heads l k).standing.problems
linked_told heads l k earlier e h =
    refusing_told (is_refused k.standing k.linked (last_linked None l.root l.name k.linked) l) subset.DefinedTwice l.at k.standing
    (refused_after k.standing k.linked (last_linked None l.root l.name k.linked) earlier l e h)

-- a function that doesn't agree with the declaration before it
abbrev IsApart : Known → Identifier At → Storage → Bool → Linked → Option LinkedType → Type 0
IsApart k name s defines earlier None = ⊥
IsApart k name s defines earlier (Some t) = same_linked earlier (linked_of k name t s defines false) ≡ false

prototype_told : (heads : Heads) (name : Identifier At) (t : LinkedType) (s : Storage) (i : Option (Initializer At)) (k : Known) (earlier : Linked) → before_in k name ≡ Some earlier →
    same_linked earlier (linked_of k name t s false false) ≡ false → Among (declared_twice_at name.place) (prototype_declared every heads name t s i k).standing.problems
prototype_told heads name t s i k earlier e h =
    let l : Linked = linked_of k name t s false false in
    (grown (over_no_initializer every i (with_linked every heads l k).standing)).among (declared_twice_at name.place) (linked_told heads l k earlier e h)

outside_told : (heads : Heads) (s : Storage) (sensor : Bool) (name : Identifier At) (d : InitDeclarator At) (k : Known) (earlier : Linked) (o : Option DeclaredType) → before_in k name ≡ Some earlier →
    IsApart k name s false earlier (linked_by o) → Among (declared_twice_at name.place) (by_type_outside every heads s sensor name d k o).standing.problems
outside_told heads s sensor name d k earlier (Some (of_function f)) e h = prototype_told heads name (function_type f) s d.initial k earlier e h
outside_told heads s sensor name d k earlier (Some (of_part_function f)) e h = prototype_told heads name (part_type f) s d.initial k earlier e h
outside_told heads s sensor name d k earlier (Some (of_type t)) e h = absurd h
outside_told heads s sensor name d k earlier (Some (of_open_array t)) e h = absurd h
outside_told heads s sensor name d k earlier None e h = absurd h

redeclared_told : (heads : Heads) (k : Known) (d : Declaration At) (before : List (InitDeclarator At)) (one : InitDeclarator At) (name : Identifier At) → IsRedeclared heads k d before one name →
    Among (declared_twice_at name.place) (declared_outside every heads k d).standing.problems
redeclared_told heads k d before one name is =
    let s : Storage = storage_of d.specifiers in
    let j : Known = known_outside heads k d before in
    let p : Passed DeclaredType = declarator_passed every name.place (based (specified_type_of k d) j.standing) one.declarator in
    named_outside heads k d before one name (declared_twice_at name.place) is.declared
    (told_where_false (is_typedef s) _ _ (declared_twice_at name.place) is.plain
    (outside_told heads s (makes_sensors d) name one (with_standing j p.after) is.earlier p.made is.known (subst (IsApart j name s false is.earlier) (sym is.made) is.differs)))

apart_told : (heads : Heads) (k : Known) (d : Declaration At) (before : List (InitDeclarator At)) (one : InitDeclarator At) (name : Identifier At) (w : WrittenList) (earlier : Linked) →
    DeclaredAfter d before one name → is_typedef (storage_of d.specifiers) ≡ false → list_in one.declarator ≡ Some w → before_in (known_outside heads k d before) name ≡ Some earlier →
    is_function earlier.type ≡ true → are_apart (list_form earlier.type) w.form ≡ true → Among (declared_twice_at name.place) (declared_outside every heads k d).standing.problems
apart_told heads k d before one name w earlier is plain written known f h =
    let l : HasList w (declared_by heads k d before one name).made = list_told name.place (reached_outside heads k d before) one.declarator w written in
    redeclared_told heads k d before one name (record {
      declared = is;
      plain = plain;
      type = l.linked;
      made = l.is;
      earlier = earlier;
      known = known;
      differs = by_form earlier (linked_of (known_outside heads k d before) name l.linked (storage_of d.specifiers) false false) f l.function
          (first_true (are_apart (list_form earlier.type) (list_form l.linked)) _ (ap (are_apart (list_form earlier.type)) l.form ∙ h));
    })

-- ## What is known after a declaration

-- the declaration of a name before declares something of a type
record IsKnownAs (k : Known) (name : Identifier At) (t : LinkedType) : Type 0 where
  earlier : Linked
  known : before_in k name ≡ Some earlier
  type : earlier.type ≡ t

last_added : (found : Option Linked) (root : ℕ) (name : Text) (all : List Linked) (l : Linked) → nat_eq l.root root ≡ true → bytes_eq l.name name ≡ true →
    last_linked found root name (all ++ l ∷ []) ≡ Some l
last_added found root name [] l e f = ap (λ b. if b then Some l else found) (both_true (nat_eq l.root root) (bytes_eq l.name name) e f)
last_added found root name (x ∷ all) l e f = last_added (if nat_eq x.root root && bytes_eq x.name name then Some x else found) root name all l e f

abbrev type_or : LinkedType → Option LinkedType → LinkedType
type_or t None = t
type_or t (Some u) = u

prototype_known : (heads : Heads) (name : Identifier At) (t u : LinkedType) (s : Storage) (i : Option (Initializer At)) (k : Known) → Some t ≡ Some u →
    IsKnownAs (prototype_declared every heads name t s i k) name u
prototype_known heads name t u s i k e = record {
  earlier = linked_of k name t s false false;
  known = last_added None k.root name.name k.linked (linked_of k name t s false false) (eq-eqb k.root k.root refl) ((bytes_eq-Decides name.name name.name).1 refl);
  type = ap (type_or t) e;
}

outside_known : (heads : Heads) (s : Storage) (sensor : Bool) (name : Identifier At) (d : InitDeclarator At) (k : Known) (o : Option DeclaredType) (t : LinkedType) → linked_by o ≡ Some t →
    IsKnownAs (by_type_outside every heads s sensor name d k o) name t
outside_known heads s sensor name d k (Some (of_function f)) t e = prototype_known heads name (function_type f) t s d.initial k e
outside_known heads s sensor name d k (Some (of_part_function f)) t e = prototype_known heads name (part_type f) t s d.initial k e
outside_known heads s sensor name d k (Some (of_type u)) t e = absurd cc
outside_known heads s sensor name d k (Some (of_open_array u)) t e = absurd cc
outside_known heads s sensor name d k None t e = absurd cc

known_where_false : (b : Bool) (k j : Known) (name : Identifier At) (t : LinkedType) → b ≡ false → IsKnownAs j name t → IsKnownAs (if b then k else j) name t
known_where_false true k j name t e h = absurd cc
known_where_false false k j name t e h = h

-- the last of some declarators comes after the others
after_others : (heads : Heads) (s : Storage) (sensor : Bool) (t : Option PlainType) (k : Known) (before : List (InitDeclarator At)) (one : InitDeclarator At) →
    outer_declarators every heads s sensor t k (before ++ one ∷ []) ≡ outer_named every heads s sensor t (outer_declarators every heads s sensor t k before) one (name_in one.declarator)
after_others heads s sensor t k [] one = refl
after_others heads s sensor t k (d ∷ before) one = after_others heads s sensor t (outer_named every heads s sensor t k d (name_in d.declarator)) before one

known_after : (heads : Heads) (k : Known) (d : Declaration At) (before : List (InitDeclarator At)) (one : InitDeclarator At) (name : Identifier At) (w : WrittenList) →
    name_in one.declarator ≡ Some name → is_typedef (storage_of d.specifiers) ≡ false → list_in one.declarator ≡ Some w → IsKnownWith (known_outside heads k d (before ++ one ∷ [])) name w
known_after heads k d before one name w named plain written =
    let s : Storage = storage_of d.specifiers in
    let base : Option PlainType = specified_type_of k d in
    let j : Known = known_outside heads k d before in
    let p : Passed DeclaredType = declared_by heads k d before one name in
    let h : HasList w p.made = list_told name.place (reached_outside heads k d before) one.declarator w written in
    let there : IsKnownAs (outer_named every heads s (makes_sensors d) base j one (Some name)) name h.linked =
    known_where_false (is_typedef s) _ _ name h.linked plain (outside_known heads s (makes_sensors d) name one (with_standing j p.after) p.made h.linked h.is) in
    let a : IsKnownAs (known_outside heads k d (before ++ one ∷ [])) name h.linked =
    subst (λ (x : Known). IsKnownAs x name h.linked) (sym (after_others heads s (makes_sensors d) base (at_declarators k d) before one ∙ ap (outer_named every heads s (makes_sensors d) base j one) named)) there in
    record {
      earlier = a.earlier;
      known = a.known;
      function = ap is_function a.type ∙ h.function;
      form = ap list_form a.type ∙ h.form;
      count = λ n c. ap (λ t. length (parameters_of t)) a.type ∙ h.count n c;
    }

again_told : (heads : Heads) (k : Known) (d e : Declaration At) (name again : Identifier At) (w v : WrittenList) → IsDeclaredAgain d e name again w v → are_apart w.form v.form ≡ true →
    Among (declared_twice_at again.place) (declared_outside every heads (declared_outside every heads k d) e).standing.problems
unfolding declared_outside
again_told heads k d e name again w v is h =
    let j : Known = known_outside heads k d d.declarators in
    let a : IsKnownWith j name w = subst (λ ds. IsKnownWith (known_outside heads k d ds) name w) (sym is.last) (known_after heads k d is.before is.one name w is.named is.plain is.written) in
    apart_told heads j e [] is.other again v a.earlier is.first is.also_plain is.also_written (subst (λ x. last_linked None j.root x j.linked ≡ Some a.earlier) is.same a.known) a.function
    (ap (λ l. are_apart l v.form) a.form ∙ h)

-- ## Functions with a body

function_told : (heads : Heads) (s : Storage) (d : Definition At) (name : Identifier At) (k : Known) (earlier : Linked) (o : Option DeclaredType) → before_in k name ≡ Some earlier →
    IsApart k name s true earlier (linked_by o) → Among (declared_twice_at name.place) (function_by_type every heads s d name k o).standing.problems
function_told heads s d name k earlier (Some (of_function f)) e h =
    let l : Linked = linked_of k name (function_type f) s true false in
    (grown_outside (over_body every heads l f d.body (with_linked every heads l k))).among (declared_twice_at name.place) (linked_told heads l k earlier e h)
function_told heads s d name k earlier (Some (of_part_function f)) e h =
    linked_told heads (linked_of k name (part_type f) s true false) (with_standing k (listed_names_noted every f.parameters k.standing)) earlier e h
function_told heads s d name k earlier (Some (of_type t)) e h = absurd h
function_told heads s d name k earlier (Some (of_open_array t)) e h = absurd h
function_told heads s d name k earlier None e h = absurd h

redefined_told : (heads : Heads) (k : Known) (d : Definition At) (name : Identifier At) → IsRedefined heads k d name → Among (declared_twice_at name.place) (defined_outside every heads k d).standing.problems
unfolding defined_outside
redefined_told heads k d name is =
    let t : Passed PlainType = specified every site_is.OfDefinition (allowed_at_definition d) false k.standing d.specifiers in
    let j : Known = record k { standing = t.after; mains = k.mains ++ main_constants (constants_of d.specifiers) } in
    let p : Passed DeclaredType = declarator_passed every name.place (based t.made t.after) d.declarator in
    subst (λ o. Among (declared_twice_at name.place) (function_named every heads d j t.made o).standing.problems) (sym is.named)
    (function_told heads (storage_of d.specifiers) d name (with_standing j p.after) is.earlier p.made is.known (subst (IsApart k name (storage_of d.specifiers) true is.earlier) (sym is.made) is.differs))

-- ## Several roots

functions_none : (before now : Linked) (structures : List PlainStructure) → lists_differ before.type now.type ≡ true → functions_united before now structures ≡ None
functions_none before now structures h =
    either_none (are_apart (list_form before.type) (list_form now.type)) (is_none_listed before.type now.type) (are_as_many (parameters_of before.type) (parameters_of now.type))
    (lists_agree before.defines now.defines before.type now.type) (known_united (known_result before.type) (known_result now.type) structures)
    (parameters_united (parameters_of before.type) (parameters_of now.type)) h (lists_apart before now) (counts_apart (parameters_of before.type) (parameters_of now.type))

incompatible : (before now : Linked) (structures : List PlainStructure) → (is_function before.type && is_function now.type) ≡ true → lists_differ before.type now.type ≡ true →
    are_compatible structures before now ≡ false
incompatible before now structures f h =
    ap (λ b. if b then functions_compatible structures before now else objects_compatible structures before.type now.type) f
    ∙ either_fails (are_apart (list_form before.type) (list_form now.type)) (is_none_listed before.type now.type) (are_as_many (parameters_of before.type) (parameters_of now.type))
    (lists_agree before.defines now.defines before.type now.type) (known_compatible structures (known_result before.type) (known_result now.type))
    (parameters_compatible structures (parameters_of before.type) (parameters_of now.type)) h
    (lists_apart before now) (counts_incompatible structures (parameters_of before.type) (parameters_of now.type))

-- a declaration and one of another root before it whose lists don't go together
record AreApart (before now : Linked) : Type 0 where
  other : is_other before now ≡ true
  functions : (is_function before.type && is_function now.type) ≡ true
  lists : lists_differ before.type now.type ≡ true

none_or : (b : Bool) (x : Option (List PlainStructure)) → x ≡ None → (if b then x else None) ≡ None
none_or true x e = e
none_or false x e = refl

agreed_none : (before now : Linked) → AreApart before now → (structures : List PlainStructure) → agreed_with before now structures ≡ None
agreed_none before now a structures =
    ap (λ b. if b then (if beq before.sensor now.sensor then unless_compatible before now structures (linked_united before now structures) else None) else Some structures) a.other
    ∙ none_or (beq before.sensor now.sensor) _
    (ap (unless_compatible before now structures) (ap (λ b. if b then functions_united before now structures else objects_united before.type now.type structures) a.functions ∙ functions_none before now structures a.lists)
    ∙ ap (λ b. if b then Some structures else None) (incompatible before now structures a.functions a.lists))

all_none : (first between : List Linked) (before now : Linked) → AreApart before now → (structures : List PlainStructure) → agreed (first ++ before ∷ between) now structures ≡ None
all_none [] between before now a structures = ap (λ o. and_then o (agreed between now)) (agreed_none before now a structures)
all_none (l ∷ first) between before now a structures = none_then (agreed_with l now structures) (agreed (first ++ before ∷ between) now) (all_none first between before now a)

-- where the walk over all declarations comes to one that doesn't agree
agreeing_told : (done between rest : List Linked) (now : Linked) (s : PlainStanding) → ((structures : List PlainStructure) → agreed (done ++ between) now structures ≡ None) →
    Among (declared_twice_at now.at) (all_agreeing every done (between ++ now ∷ rest) s).problems
agreeing_told done [] rest now s h =
    (grows_agreeing (done ++ now ∷ []) rest (agreeing every done now s)).among (declared_twice_at now.at)
    (subst (λ o. Among (declared_twice_at now.at) (agreed_noted every now s o).problems)
    (sym (subst (λ ls. agreed ls now s.scope.structures ≡ None) (append-nil done) (h s.scope.structures)))
    (refusing_told true subset.DefinedTwice now.at s refl))
agreeing_told done (l ∷ between) rest now s h =
    agreeing_told (done ++ l ∷ []) between rest now (agreeing every done l s)
    (λ structures. subst (λ ls. agreed ls now structures ≡ None) (sym (append_assoc done (l ∷ []) between)) (h structures))

together_told : (heads : Heads) (linked : List Linked) (s : PlainStanding) (now : Linked) → Among (declared_twice_at now.at) (all_agreeing every [] linked s).problems →
    Among (declared_twice_at now.at) (taken_together every heads linked s).problems
unfolding taken_together
together_told heads linked s now h =
    let t : PlainStanding = all_agreeing every [] linked s in
    (grows_on (grows_definitions [] heads.functions t) (grows_definitions [] heads.objects (definitions_noted every [] heads.functions t))).among (declared_twice_at now.at) h

between_told : (roots : List (List (External At))) (first between rest : List Linked) (before now : Linked) → (known_of every roots).linked ≡ first ++ before ∷ (between ++ now ∷ rest) →
    AreApart before now → Among (declared_twice_at now.at) (standing_of every roots).problems
between_told roots first between rest before now e a =
    let k : Known = known_of every roots in
    together_told (heads_of_roots 0 roots) k.linked k.standing now
    (subst (λ ls. Among (declared_twice_at now.at) (all_agreeing every [] ls k.standing).problems) (append_assoc first (before ∷ between) (now ∷ rest) ∙ sym e)
    (agreeing_told [] (first ++ before ∷ between) rest now k.standing (all_none first between before now a)))

pub redeclarations_told : FormRowsAreTold → RedeclarationsAreTold
redeclarations_told law = record {
  lists = list_told;
  by_form = by_form;
  apart = apart_told;
  known_after = known_after;
  declared_again = again_told;
  outside = redeclared_told;
  at_definition = redefined_told;
  outside_in_roots = λ roots others earlier p d before one name stands is.
      declarations_told law roots others earlier (Outer p d) (declared_twice_at name.place) stands
      (redeclared_told (heads_of_roots 0 roots) (reached_in_roots (heads_of_roots 0 roots) others earlier) d before one name is);
  definition_in_roots = λ roots others earlier d name stands is.
      declarations_told law roots others earlier (Defines d) (declared_twice_at name.place) stands
      (redefined_told (heads_of_roots 0 roots) (reached_in_roots (heads_of_roots 0 roots) others earlier) d name is);
  between_roots = λ roots first between rest before now e other f g h.
      between_told roots first between rest before now e (record { other = other; functions = both_true (is_function before.type) (is_function now.type) f g; lists = h });
}
