-- In the same words functions with their bodies are the same.
use Rattle.std.proofs.Common.{◌≡◌, ◌∙◌, ℕ, suc, ◌+◌, Bool, true, false, not, ◌||◌, List, [], ◌∷◌, ◌++◌, map, append-nil, length, Option, Some, None, refl, sym, ap, subst}
use Rattle.std.specs.Prelude.{if◌then◌else◌}
use Rattle.p10_base.specs.Words.{Text}
use Rattle.p10_base.specs.declared.at.At.{At}
use Rattle.p10_base.specs.declared.codes.SubsetCode.TheVariants as subset
use Rattle.p10_syn.specs.Trees.{Identifier, Definition, Statements}
use Rattle.p10_core.specs.declared.statements.MarkKind.TheVariants.{InitDone, TaskLoop}
use Rattle.p10_core.specs.Types.{PlainType}
use Rattle.p10_core.specs.Sizes.{size_of}
use Rattle.p10_core.specs.Typed.{PlainVariable, PlainFunction, PlainStatement, statements_of_list}
use Rattle.p10_elabx.specs.First.{Keep}
use Rattle.p10_elabx.specs.Scopes.{Meaning, local, Binding, entered, left as left_scope}
use Rattle.p10_elabx.specs.TypeNames.{declarator_place}
use Rattle.p10_elabd.specs.Standing.{PlainStanding, Passed, refusing}
use Rattle.p10_elabd.specs.Words.{storage_of}
use Rattle.p10_elabd.specs.declared.site.Site.TheVariants as site_is
use Rattle.p10_elabd.specs.declared.site.Storage.{Storage}
use Rattle.p10_elabd.specs.Shapes.{PlainParameter, ListedParameter, FunctionType, DeclaredType, name_in, has_parameters}
use Rattle.p10_elabd.specs.Declaring.{specified, declarator_passed, based}
use Rattle.p10_heads.specs.Heads.{Heads, number_in}
use Rattle.p10_linkage.specs.Linkage.{Linked, is_main_name}
use Rattle.p10_elabs.specs.Addresses.{addresses_taken, constants_of}
use Rattle.p10_elabs.specs.Locals.{Frame, Local}
use Rattle.p10_elabs.specs.LocalDeclarations.{is_frame_variable}
use Rattle.p10_elabs.specs.declared.kind.Kind.{Kind}
use Rattle.p10_elabs.specs.declared.kind.Kind.TheVariants as item
use Rattle.p10_elabs.specs.Marks.{no_more, may_precede, marks_noted}
use Rattle.p10_elabs.specs.Statements.{in_nothing, Block', no_items_yet, items_done}
use Rattle.p10_elab.specs.Knowledge.{Known, linked_of, with_linked, with_standing}
use Rattle.p10_elab.specs.Outer.{function_type, part_type, main_constants, is_nameless, names_noted, listed_names_noted, parameter_variable, parameter_variables, meaning_in_body, body_scope, body_begun, function_made, body_done, bodyless, function_by_type, allowed_at_definition, function_named, defined_outside}
use Rattle.p10_renaming.specs.Renaming.{Pairing, SameType, SameVariables, same_no_variables, same_more_variables, SameStatements}
use Rattle.p10_expression_renaming.specs.MappedStatements.{mapped_statements, mapped_definition}
use Rattle.p10_expression_renaming.specs.Knowing.{SameMeaning, same_local, same_object, same_callable, same_number, same_named_type, same_tagged_type, same_unknown_name, same_unknown_tag, SameBindings, same_no_bindings, same_more_bindings, IsOneToOne}
use Rattle.p10_expression_renaming.proofs.Sameness.{SameName, same_no_name, same_name}
use Rattle.p10_expression_renaming.proofs.Types.{size_same, parameter_type}
use Rattle.p10_expression_renaming.proofs.TypeNames.{left, right}
use Rattle.p10_declaration_renaming.specs.Standings.{Both, SameStanding, SameWholeScope, AreQuiet, SameNames, SameParameter, SameParameters, same_no_parameters, same_more_parameters, SameFunctionType, SameDeclared, same_of_type, same_of_open_array, same_of_function, same_of_part_function}
use Rattle.p10_declaration_renaming.proofs.Alike.{quiet_before}
use Rattle.p10_declaration_renaming.proofs.Scopes.{scope_same, entered_same, left_same, bindings_joined}
use Rattle.p10_declaration_renaming.proofs.Naming.{name_in_same}
use Rattle.p10_declaration_renaming.proofs.Declaring.{specifiers_renamed, declarators_renamed}
use Rattle.p10_statement_renaming.specs.Bodies.{SameFrame, SameLocal}
use Rattle.p10_statement_renaming.proofs.Declarations.{storage_same, named_at, refusing_same, unknown_same, frame_same}
use Rattle.p10_statement_renaming.proofs.Bodies.{bodies_renamed}
use Rattle.p10_root_renaming.specs.Roots.{SameLinked, SameHeads, function_names, SameKnown, SameFunctions, same_no_functions, same_more_functions}
use Rattle.p10_root_renaming.specs.Laws.{AddsSameFunctions, DefinitionsRenamed}
use Rattle.p10_root_renaming.proofs.Addresses.{addresses_same}
use Rattle.p10_root_renaming.proofs.Linking.{linked_same, with_linked_same}
use Rattle.p10_root_renaming.proofs.Outside.{known_at, function_type_same, part_type_same}
use Rattle.p10_root_steps.proofs.Parts.{over_marks_where}
use Rattle.p10_root_steps.proofs.Passing.{over_function, over_function_named, over_definition}
use Rattle.p10_declaration_renaming.proofs.Growing.{grown}
use Rattle.p10_root_renaming.proofs.GrowingOutside.{grown_outside}

-- ## Rows that change nothing but problems

names_left : (R : Pairing) (last : ℕ) (h : Keep) (ps : List PlainParameter) (s t : PlainStanding) → SameStanding R last s t → SameStanding R last (names_noted h ps s) t
names_left R last h [] s t know = know
names_left R last h (p ∷ rest) s t know =
    names_left R last h rest (refusing h (is_nameless p.name) subset.NoPrototype p.at s) t (refusing_same R last h (is_nameless p.name) false subset.NoPrototype subset.NoPrototype p.at p.at s t know)

names_both : (R : Pairing) (last : ℕ) (h : Keep) (ps qs : List PlainParameter) (s t : PlainStanding) → SameStanding R last s t → SameStanding R last (names_noted h ps s) (names_noted h qs t)
names_both R last h ps [] s t know = names_left R last h ps s t know
names_both R last h ps (q ∷ rest) s t know =
    names_both R last h ps rest s (refusing h (is_nameless q.name) subset.NoPrototype q.at t) (refusing_same R last h false (is_nameless q.name) subset.NoPrototype subset.NoPrototype q.at q.at s t know)

listed_left : (R : Pairing) (last : ℕ) (h : Keep) (ps : List ListedParameter) (s t : PlainStanding) → SameStanding R last s t → SameStanding R last (listed_names_noted h ps s) t
listed_left R last h [] s t know = know
listed_left R last h (p ∷ rest) s t know =
    listed_left R last h rest (refusing h (is_nameless p.name) subset.NoPrototype p.at s) t (refusing_same R last h (is_nameless p.name) false subset.NoPrototype subset.NoPrototype p.at p.at s t know)

listed_both : (R : Pairing) (last : ℕ) (h : Keep) (ps qs : List ListedParameter) (s t : PlainStanding) → SameStanding R last s t → SameStanding R last (listed_names_noted h ps s) (listed_names_noted h qs t)
listed_both R last h ps [] s t know = listed_left R last h ps s t know
listed_both R last h ps (q ∷ rest) s t know =
    listed_both R last h ps rest s (refusing h (is_nameless q.name) subset.NoPrototype q.at t) (refusing_same R last h false (is_nameless q.name) subset.NoPrototype subset.NoPrototype q.at q.at s t know)

refusing_scope : (h : Keep) (b : Bool) (at : At) (s : PlainStanding) → (refusing h b subset.MisplacedPragma at s).scope ≡ s.scope
refusing_scope h true at s = refl
refusing_scope h false at s = refl

marks_scope : (h : Keep) (first init task : Bool) (ks : List Kind) (s : PlainStanding) → (marks_noted h first init task ks s).scope ≡ s.scope
marks_scope h first init task [] s = refl
marks_scope h first init task (item.Mark InitDone at ∷ rest) s =
    let b : Bool = first || (no_more rest || (init || task)) in
    marks_scope h false true task rest (refusing h b subset.MisplacedPragma at s) ∙ refusing_scope h b at s
marks_scope h first init task (item.Mark TaskLoop at ∷ rest) s =
    let b : Bool = task || not (may_precede rest) in
    marks_scope h false init true rest (refusing h b subset.MisplacedPragma at s) ∙ refusing_scope h b at s
marks_scope h first init task (item.Task ∷ rest) s = marks_scope h false init task rest s
marks_scope h first init task (item.Unknown ∷ rest) s = marks_scope h false init task rest s
marks_scope h first init task (item.Return ∷ rest) s = marks_scope h false init task rest s
marks_scope h first init task (item.Other ∷ rest) s = marks_scope h false init task rest s

-- what stands after the pragmas of `main`, or after a body
pub marked_scope : (h : Keep) (b : Bool) (ks : List Kind) (s : PlainStanding) → (if b then marks_noted h true false false ks s else s).scope ≡ s.scope
marked_scope h true ks s = marks_scope h true false false ks s
marked_scope h false ks s = refl

-- ## Where a body begins

meaning_same : (R : Pairing) (f g : Frame) → SameFrame R f g → {a b : Meaning} → SameMeaning R a b → SameMeaning R (meaning_in_body f a) (meaning_in_body g b)
meaning_same R f g same (same_local {n = n} {t = t} {u = u} h) =
    subst (λ b. SameMeaning R (local n t (is_frame_variable f n t)) (local n u b)) (frame_same R f g same n n refl h) (same_local h)
meaning_same R f g same (same_object h) = same_object h
meaning_same R f g same (same_callable hs h) = same_callable hs h
meaning_same R f g same same_number = same_number
meaning_same R f g same (same_named_type h) = same_named_type h
meaning_same R f g same (same_tagged_type h) = same_tagged_type h
meaning_same R f g same same_unknown_name = same_unknown_name
meaning_same R f g same same_unknown_tag = same_unknown_tag

bindings_same : (R : Pairing) (f g : Frame) → SameFrame R f g → {xs ys : List Binding} → SameBindings R xs ys
    → SameBindings R (map (λ (b : Binding). record b { what = meaning_in_body f b.what }) xs) (map (λ (b : Binding). record b { what = meaning_in_body g b.what }) ys)
bindings_same R f g same same_no_bindings = same_no_bindings
bindings_same R f g same (same_more_bindings h rest) = same_more_bindings (meaning_same R f g same h) (bindings_same R f g same rest)

scope_begun : (R : Pairing) (last : ℕ) (f g : Frame) → SameFrame R f g → (t u : FunctionType) → SameFunctionType R t u → (s v : PlainStanding) → SameStanding R last s v
    → SameWholeScope R last (body_scope f t s.scope) (body_scope g u v.scope)
scope_begun R last f g same t u h s v know =
    let inner : SameWholeScope R last (entered s.scope) (entered v.scope) = entered_same R last s.scope v.scope know in
    record {
      tables = inner.tables;
      names = bindings_joined R inner.names (bindings_same R f g same h.names);
      tags = bindings_joined R inner.tags h.tags;
      floors = inner.floors;
      next = inner.next;
    }

-- the variable of a parameter, before others
abbrev named_before : Frame → PlainStanding → ℕ → PlainParameter → Option (Identifier At) → List PlainVariable → List PlainVariable
named_before f s n p None others = others
named_before f s n p (Some name) others = parameter_variable f s n p name ∷ others

one_variable : (R : Pairing) (text other : Text) → text ≡ other → (at to : At) (t u : PlainType) → SameType R t u → (bytes others : ℕ) → bytes ≡ others → (frame later : Bool) → frame ≡ later → {vs ws : List PlainVariable} → SameVariables R vs ws
    → SameVariables R (record { name = text; type = t; bytes = bytes; frame = frame; span = at.span } ∷ vs) (record { name = other; type = u; bytes = others; frame = later; span = to.span } ∷ ws)
one_variable R text other e at to t u h bytes others d frame later c {vs = vs} {ws = ws} rest =
    subst (λ x. SameVariables R (record { name = text; type = t; bytes = bytes; frame = frame; span = at.span } ∷ vs) (record { name = x; type = u; bytes = others; frame = later; span = to.span } ∷ ws)) e
    (subst (λ x. SameVariables R (record { name = text; type = t; bytes = bytes; frame = frame; span = at.span } ∷ vs) (record { name = text; type = u; bytes = x; frame = later; span = to.span } ∷ ws)) d
    (subst (λ x. SameVariables R (record { name = text; type = t; bytes = bytes; frame = frame; span = at.span } ∷ vs) (record { name = text; type = u; bytes = bytes; frame = x; span = to.span } ∷ ws)) c (same_more_variables h rest)))

before_same : (R : Pairing) (last : ℕ) (f g : Frame) → SameFrame R f g → (s v : PlainStanding) → SameStanding R last s v → (n : ℕ) (p q : PlainParameter) → SameParameter R p q → (x y : Option (Identifier At)) → SameNames x y
    → {vs ws : List PlainVariable} → SameVariables R vs ws → SameVariables R (named_before f s n p x vs) (named_before g v n q y ws)
before_same R last f g same s v know n p q h None None e rest = rest
before_same R last f g same s v know n p q h (Some x) (Some y) e rest =
    one_variable R x.name y.name e x.place y.place p.type q.type (parameter_type R h.type) (size_of s.scope.structures p.type) (size_of v.scope.structures q.type)
    (size_same R s.scope.structures v.scope.structures (scope_same R last s.scope v.scope know).structures (parameter_type R h.type)) (is_frame_variable f n p.type) (is_frame_variable g n q.type) (frame_same R f g same n n refl (parameter_type R h.type)) rest
before_same R last f g same s v know n p q h None (Some y) e rest = absurd e
before_same R last f g same s v know n p q h (Some x) None e rest = absurd e

variables_same : (R : Pairing) (last : ℕ) (f g : Frame) → SameFrame R f g → (s v : PlainStanding) → SameStanding R last s v → (n : ℕ) {ps qs : List PlainParameter} → SameParameters R ps qs
    → SameVariables R (parameter_variables f s n ps) (parameter_variables g v n qs)
variables_same R last f g same s v know n same_no_parameters = same_no_variables
variables_same R last f g same s v know n (same_more_parameters {p = p} {q = q} h rest) = before_same R last f g same s v know n p q h p.name q.name h.name (variables_same R last f g same s v know (n + 1) rest)

as_many : (R : Pairing) {ps qs : List PlainParameter} → SameParameters R ps qs → length ps ≡ length qs
as_many R same_no_parameters = refl
as_many R (same_more_parameters h rest) = ap suc (as_many R rest)

begun_same : (R : Pairing) (last : ℕ) (f g : Frame) → SameFrame R f g → (t u : FunctionType) → SameFunctionType R t u → (s v : PlainStanding) → SameStanding R last s v → SameLocal R last (body_begun f t s) (body_begun g u v)
begun_same R last f g same t u h s v know = record {
  standing = scope_begun R last f g same t u h s v know;
  count = as_many R h.parameters;
  variables = variables_same R last f g same s v know 0 h.parameters;
  loops = refl;
}

-- ## What a function becomes

made_same : (R : Pairing) (last : ℕ) (l m : Linked) → SameLinked R l m → (t u : FunctionType) → SameFunctionType R t u → (b c : Local) → SameLocal R last b c → (o q : Option (List PlainStatement))
    → Both (λ ss ts. SameStatements R (statements_of_list ss) (statements_of_list ts)) o q → SameFunctions R (function_made l t b o l.at) (function_made m u c q m.at)
made_same R last l m one t u h b c know None None k = same_no_functions
made_same R last l m one t u h b c know (Some ss) (Some ts) k = same_more_functions (record {
  name = one.name;
  static = one.internal;
  parameters = as_many R h.parameters;
  result = h.result;
  variables = know.variables;
  body = k;
}) same_no_functions
made_same R last l m one t u h b c know None (Some ts) k = absurd k
made_same R last l m one t u h b c know (Some ss) None k = absurd k

names_same : (R : Pairing) {fs gs : List PlainFunction} → SameFunctions R fs gs → function_names fs ≡ function_names gs
names_same R same_no_functions = refl
names_same R (same_more_functions h rest) = λ i. h.name i ∷ names_same R rest i

pub names_append : (fs xs : List PlainFunction) → function_names (fs ++ xs) ≡ function_names fs ++ function_names xs
names_append [] xs = refl
names_append (f ∷ fs) xs = ap (λ ns. f.name ∷ ns) (names_append fs xs)

names_joined : (R : Pairing) (fs gs : List PlainFunction) → function_names fs ≡ function_names gs → {xs ys : List PlainFunction} → SameFunctions R xs ys → function_names (fs ++ xs) ≡ function_names (gs ++ ys)
names_joined R fs gs e {xs = xs} {ys = ys} same = names_append fs xs ∙ ((λ i. e i ++ names_same R same i) ∙ sym (names_append gs ys))

-- functions more, and what is known after them
abbrev Adding : Pairing → ℕ → Known → Known → Known → Known → Type 0
Adding R last k j m n = AreQuiet last m.standing n.standing → AddsSameFunctions R k.functions m.functions j.functions n.functions × SameKnown R last m n

-- what stands after a body
ended_same : (R : Pairing) (last : ℕ) (h : Keep) (b c : Bool) (ks js : List Kind) (s t : PlainStanding) → SameStanding R last s t
    → SameStanding R last (record (if b then marks_noted h true false false ks s else s) { scope = left_scope (if b then marks_noted h true false false ks s else s).scope })
    (record (if c then marks_noted h true false false js t else t) { scope = left_scope (if c then marks_noted h true false false js t else t).scope })
ended_same R last h b c ks js s t know = subst (λ x. SameWholeScope R last (left_scope x) (left_scope (if c then marks_noted h true false false js t else t).scope)) (sym (marked_scope h b ks s))
    (subst (λ x. SameWholeScope R last (left_scope s.scope) (left_scope x)) (sym (marked_scope h c js t)) (left_same R last s.scope t.scope know))

body_same : (R : Pairing) → IsOneToOne R → (last : ℕ) (h : Keep) (heads others : Heads) (l m : Linked) → SameLinked R l m → (t u : FunctionType) → SameFunctionType R t u → (body : Statements (At × At)) (k j : Known) → SameKnown R last k j
    → Adding R last k j (body_done h heads l t (mapped_statements left body) k) (body_done h others m u (mapped_statements right body) j)
body_same R one last h heads others l m linked t u n body k j know quiet =
    let these : Statements At = mapped_statements left body in
    let those : Statements At = mapped_statements right body in
    let f : Frame = record { heads = heads; taken = addresses_taken t.parameters these; number = number_in heads.functions l.root l.internal l.name; result = t.result } in
    let g : Frame = record { heads = others; taken = addresses_taken u.parameters those; number = number_in others.functions m.root m.internal m.name; result = u.result } in
    let same : SameFrame R f g = record { taken = addresses_same R n.parameters body; result = n.result } in
    let s : PlainStanding = names_noted h t.parameters k.standing in
    let v : PlainStanding = names_noted h u.parameters j.standing in
    let x : Local = body_begun f t s in
    let y : Local = body_begun g u v in
    let inside : SameLocal R last x y = begun_same R last f g same t u n s v (names_both R last h t.parameters u.parameters k.standing j.standing know.standing) in
    let b : Block' = items_done h f (is_main_name l.name) in_nothing (no_items_yet x) these in
    let c : Block' = items_done h g (is_main_name m.name) in_nothing (no_items_yet y) those in
    let d : Block' = items_done h g (is_main_name l.name) in_nothing (no_items_yet y) those in
    let ended : AreQuiet last b.after.standing c.after.standing =
    quiet_before last b.after.standing c.after.standing (if is_main_name l.name then marks_noted h true false false b.kinds b.after.standing else b.after.standing) (if is_main_name m.name then marks_noted h true false false c.kinds c.after.standing else c.after.standing)
    (grown (over_marks_where h (is_main_name l.name) b.kinds b.after.standing)) (grown (over_marks_where h (is_main_name m.name) c.kinds c.after.standing)) (record { left = quiet.left; right = quiet.right; few = quiet.few }) in
    let law : AreQuiet last b.after.standing c.after.standing → Both (λ ss ts. SameStatements R (statements_of_list ss) (statements_of_list ts)) b.made c.made × SameLocal R last b.after c.after =
    subst (λ (z : Bool). AreQuiet last b.after.standing (items_done h g z in_nothing (no_items_yet y) those).after.standing
    → Both (λ ss ts. SameStatements R (statements_of_list ss) (statements_of_list ts)) b.made (items_done h g z in_nothing (no_items_yet y) those).made × SameLocal R last b.after (items_done h g z in_nothing (no_items_yet y) those).after)
    (ap is_main_name linked.name) (λ q. (bodies_renamed R one last h f g same (is_main_name l.name) in_nothing x y body (λ z. inside) q).1) in
    let r = law ended in
    let made : SameFunctions R (function_made l t b.after b.made l.at) (function_made m u c.after c.made m.at) = made_same R last l m linked t u n b.after c.after r.1 b.made c.made r.0 in (
      record { these = function_made l t b.after b.made l.at; new = function_made m u c.after c.made m.at; left = refl; right = refl; same = made },
      record {
        standing = ended_same R last h (is_main_name l.name) (is_main_name m.name) b.kinds c.kinds b.after.standing c.after.standing r.1.standing;
        root = know.root;
        linked = know.linked;
        functions = names_joined R k.functions j.functions know.functions made;
      },
    )

-- ## Definitions

-- no function is added
pub adds_nothing : (R : Pairing) (fs gs : List PlainFunction) → AddsSameFunctions R fs fs gs gs
adds_nothing R fs gs = record { these = []; new = []; left = sym (append-nil fs); right = sym (append-nil gs); same = same_no_functions }

bodyless_same : (R : Pairing) (last : ℕ) (h : Keep) (a b : Definition At) (at to : At) (text : Text) (k j : Known) → SameKnown R last k j → Adding R last k j (bodyless h a (named_at at text) k) (bodyless h b (named_at to text) j)
bodyless_same R last h a b at to text k j know quiet =
    let s : PlainStanding = refusing h (not (has_parameters a.declarator)) subset.NoPrototype (declarator_place a.declarator) k.standing in
    let t : PlainStanding = refusing h (not (has_parameters b.declarator)) subset.NoPrototype (declarator_place b.declarator) j.standing in
    let rows : SameStanding R last s t = refusing_same R last h (not (has_parameters a.declarator)) (not (has_parameters b.declarator)) subset.NoPrototype subset.NoPrototype (declarator_place a.declarator) (declarator_place b.declarator) k.standing j.standing know.standing in
    (adds_nothing R k.functions j.functions, record { standing = unknown_same R last h at to text s t rows; root = know.root; linked = know.linked; functions = know.functions })

by_type_same : (R : Pairing) → IsOneToOne R → (last : ℕ) (h : Keep) (heads others : Heads) → SameHeads heads others → (s : Storage) (d : Definition (At × At)) (at to : At) (text : Text) (k j : Known) → SameKnown R last k j → (o q : Option DeclaredType) → Both (SameDeclared R) o q
    → Adding R last k j (function_by_type h heads s (mapped_definition left d) (named_at at text) k o) (function_by_type h others s (mapped_definition right d) (named_at to text) j q)
by_type_same R one last h heads others same s d at to text k j know None None n = bodyless_same R last h (mapped_definition left d) (mapped_definition right d) at to text k j know
by_type_same R one last h heads others same s d at to text k j know (Some x) (Some y) (same_of_type n) = bodyless_same R last h (mapped_definition left d) (mapped_definition right d) at to text k j know
by_type_same R one last h heads others same s d at to text k j know (Some x) (Some y) (same_of_open_array n) = bodyless_same R last h (mapped_definition left d) (mapped_definition right d) at to text k j know
by_type_same R one last h heads others same s d at to text k j know (Some x) (Some y) (same_of_part_function {f = f} {g = g} n) = λ quiet.
    let v : PlainStanding = listed_names_noted h f.parameters k.standing in
    let w : PlainStanding = listed_names_noted h g.parameters j.standing in
    let l : Linked = linked_of k (named_at at text) (part_type f) s true false in
    let m : Linked = linked_of j (named_at to text) (part_type g) s true false in (
      adds_nothing R k.functions j.functions,
      with_linked_same R last h heads others same l m (linked_same R last at to text s true true false refl (part_type_same R n) k j know) (with_standing k v) (with_standing j w)
          (known_at R last k j v w know (listed_both R last h f.parameters g.parameters k.standing j.standing know.standing)),
    )
by_type_same R one last h heads others same s d at to text k j know (Some x) (Some y) (same_of_function {f = f} {g = g} n) = λ quiet.
    let l : Linked = linked_of k (named_at at text) (function_type f) s true false in
    let m : Linked = linked_of j (named_at to text) (function_type g) s true false in
    let linked : SameLinked R l m = linked_same R last at to text s true true false refl (function_type_same R one n) k j know in
    let a : Known = with_linked h heads l k in
    let b : Known = with_linked h others m j in
    body_same R one last h heads others l m linked f g n d.body a b (with_linked_same R last h heads others same l m linked k j know) quiet
by_type_same R one last h heads others same s d at to text k j know None (Some y) n = absurd n
by_type_same R one last h heads others same s d at to text k j know (Some x) None n = absurd n

named_same : (R : Pairing) → IsOneToOne R → (last : ℕ) (h : Keep) (heads others : Heads) → SameHeads heads others → (d : Definition (At × At)) (k j : Known) → SameKnown R last k j → (t u : Option PlainType) → Both (SameType R) t u
    → (x y : Option (Identifier At)) → SameName x y → Adding R last k j (function_named h heads (mapped_definition left d) k t x) (function_named h others (mapped_definition right d) j u y)
named_same R one last h heads others same d k j know t u n x y same_no_name = λ quiet. (adds_nothing R k.functions j.functions, know)
named_same R one last h heads others same d k j know t u n x y (same_name {at = at} {to = to} {name = text}) = λ quiet.
    let a : Definition At = mapped_definition left d in
    let b : Definition At = mapped_definition right d in
    let p : Passed DeclaredType = declarator_passed h at (based t k.standing) a.declarator in
    let q : Passed DeclaredType = declarator_passed h to (based u j.standing) b.declarator in
    let m : Known = with_standing k p.after in
    let c : Known = with_standing j q.after in
    let r = declarators_renamed R one last h k.standing j.standing at to t u (λ z. n) d.declarator (λ z. know.standing)
    (quiet_before last p.after q.after (function_by_type h heads (storage_of a.specifiers) a (named_at at text) m p.made).standing (function_by_type h others (storage_of b.specifiers) b (named_at to text) c q.made).standing
    (grown_outside (over_function h heads (storage_of a.specifiers) a (named_at at text) m p.made)) (grown_outside (over_function h others (storage_of b.specifiers) b (named_at to text) c q.made)) quiet) in
    let law : Adding R last m c (function_by_type h heads (storage_of a.specifiers) a (named_at at text) m p.made) (function_by_type h others (storage_of b.specifiers) b (named_at to text) c q.made) =
    subst (λ z. Adding R last m c (function_by_type h heads (storage_of a.specifiers) a (named_at at text) m p.made) (function_by_type h others z b (named_at to text) c q.made)) (storage_same d.specifiers)
    (by_type_same R one last h heads others same (storage_of a.specifiers) d at to text m c (known_at R last k j p.after q.after know r.1.1) p.made q.made r.1.0) in
    law quiet

pub definitions_renamed : DefinitionsRenamed
unfolding defined_outside
definitions_renamed R one last h heads others same k j d start quiet =
    let a : Definition At = mapped_definition left d in
    let b : Definition At = mapped_definition right d in
    let t : Passed PlainType = specified h site_is.OfDefinition (allowed_at_definition a) false k.standing a.specifiers in
    let u : Passed PlainType = specified h site_is.OfDefinition (allowed_at_definition b) false j.standing b.specifiers in
    let m : Known = record k { standing = t.after; mains = k.mains ++ main_constants (constants_of a.specifiers) } in
    let c : Known = record j { standing = u.after; mains = j.mains ++ main_constants (constants_of b.specifiers) } in
    let x : Option (Identifier At) = name_in a.declarator in
    let y : Option (Identifier At) = name_in b.declarator in
    let before : AreQuiet last k.standing j.standing = quiet_before last k.standing j.standing (defined_outside h heads k a).standing (defined_outside h others j b).standing (grown_outside (over_definition h heads k a)) (grown_outside (over_definition h others j b)) quiet in
    let know : SameKnown R last k j = start before in
    let r = specifiers_renamed R one last h site_is.OfDefinition (allowed_at_definition a) (allowed_at_definition b) false k.standing j.standing d.specifiers (λ z. know.standing)
    (quiet_before last t.after u.after (function_named h heads a m t.made x).standing (function_named h others b c u.made y).standing (grown_outside (over_function_named h heads a m t.made x)) (grown_outside (over_function_named h others b c u.made y)) quiet) in
    let law = named_same R one last h heads others same d m c (record { standing = r.1.1; root = know.root; linked = know.linked; functions = know.functions }) t.made u.made r.1.0 x y (name_in_same d.declarator) quiet in
    (before, law)
