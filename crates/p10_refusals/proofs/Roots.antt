-- Functions with their bodies, roots, and roots taken together, where what stands is alike.
use Rattle.std.proofs.Common.{◌≡◌, Bool, true, false, not, if◌then◌else◌, List, [], ◌∷◌, ◌++◌, Option, Some, None, refl, subst}
use Rattle.p10_base.specs.declared.at.At.{At}
use Rattle.p10_base.specs.declared.codes.SubsetCode.TheVariants as subset
use Rattle.p10_core.specs.Types.{PlainType, PlainStructure}
use Rattle.p10_syn.specs.Trees.{Identifier, Definition, Statements, External, Outer, Defines}
use Rattle.p10_elabx.specs.declared.problem.Problem.{Problem}
use Rattle.p10_elabx.specs.First.{every, only_first}
use Rattle.p10_elabx.specs.Scopes.{left, without_names}
use Rattle.p10_elabx.specs.TypeNames.{declarator_place}
use Rattle.p10_elabd.specs.Laws.{AreKept}
use Rattle.p10_elabd.specs.Standing.{PlainStanding, refusing}
use Rattle.p10_elabd.specs.Words.{storage_of}
use Rattle.p10_elabd.specs.declared.site.Site.TheVariants as site_is
use Rattle.p10_elabd.specs.declared.site.Storage.{Storage}
use Rattle.p10_elabd.specs.Shapes.{PlainParameter, ListedParameter, FunctionType, DeclaredType, of_type, of_open_array, of_function, of_part_function, name_in, has_parameters}
use Rattle.p10_heads.specs.Heads.{Heads, Head, number_in}
use Rattle.p10_elabs.specs.Addresses.{addresses_taken, constants_of}
use Rattle.p10_elabs.specs.Locals.{Frame}
use Rattle.p10_elabs.specs.Marks.{marks_noted}
use Rattle.p10_elabs.specs.Statements.{in_nothing, Block'}
use Rattle.p10_linkage.specs.Linkage.{Linked, is_main_name}
use Rattle.p10_linkage.specs.Between.{agreed, agreed_noted, agreeing, all_agreeing, is_defined_before, definitions_noted, taken_together}
use Rattle.p10_elab.specs.Knowledge.{Tentative, Known, with_standing, linked_of}
use Rattle.p10_elab.specs.Outer.{function_type, part_type, main_constants, is_nameless, names_noted, listed_names_noted, bodyless, body_begun, body_scope, function_made, body_done, function_by_type, allowed_at_definition, function_named, defined_outside}
use Rattle.p10_elab.specs.RootEnds.{known_after, known_after_all, root_begun, lacks_size_at_end, sizes_noted, root_ended, root_passed, roots_passed}
use Rattle.p10_refusals.proofs.Alike.{Alike, with_kept, for_alike, followed, alike_refusing, alike_refusing_in, alike_scoped}
use Rattle.p10_refusals.proofs.Declaring.{alike_specified, alike_declarator, alike_based}
use Rattle.p10_refusals.proofs.Locals.{AlikeLocal, alike_unknown}
use Rattle.p10_refusals.proofs.Statements.{AlikeBlock, alike_no_items, alike_items, alike_marks}
use Rattle.p10_refusals.proofs.Outside.{AlikeKnown, with_problems_of, for_known, known_with, known_at, alike_link, alike_link_of, alike_unlinked, alike_begun, alike_declared_outside}

-- ## Functions with their bodies

alike_names : {s t : PlainStanding} (parameters : List PlainParameter) → Alike s t → Alike (names_noted every parameters s) (names_noted only_first parameters t)
alike_names [] a = a
alike_names {s = s} {t = t} (p ∷ rest) a =
    alike_names {s = refusing every (is_nameless p.name) subset.NoPrototype p.at s} {t = refusing only_first (is_nameless p.name) subset.NoPrototype p.at t} rest (alike_refusing (is_nameless p.name) subset.NoPrototype p.at a)

alike_listed_names : {s t : PlainStanding} (parameters : List ListedParameter) → Alike s t → Alike (listed_names_noted every parameters s) (listed_names_noted only_first parameters t)
alike_listed_names [] a = a
alike_listed_names {s = s} {t = t} (p ∷ rest) a =
    alike_listed_names {s = refusing every (is_nameless p.name) subset.NoPrototype p.at s} {t = refusing only_first (is_nameless p.name) subset.NoPrototype p.at t} rest (alike_refusing (is_nameless p.name) subset.NoPrototype p.at a)

alike_body_begun : {s t : PlainStanding} (f : Frame) (u : FunctionType) → Alike s t → AlikeLocal (body_begun f u s) (body_begun f u t)
alike_body_begun {s = s} {t = t} f u a =
    for_alike (λ t. AlikeLocal (body_begun f u s) (body_begun f u t)) s t
    (λ ps k. record { standing = alike_scoped (λ x. body_scope f u x) (with_kept s ps k); count = refl; variables = refl; objects = refl; loops = refl }) a

alike_where : {s t x y : PlainStanding} (b : Bool) → Alike s x → Alike t y → Alike (if b then s else t) (if b then x else y)
alike_where true a b = a
alike_where false a b = b

-- what the body of `main` has for pragmas
alike_marked : {b c : Block'} (in_main : Bool) → AlikeBlock b c →
    Alike (if in_main then marks_noted every true false false b.kinds b.after.standing else b.after.standing) (if in_main then marks_noted only_first true false false c.kinds c.after.standing else c.after.standing)
alike_marked {b = b} {c = c} in_main a =
    alike_where in_main
    (subst (λ ks. Alike (marks_noted every true false false b.kinds b.after.standing) (marks_noted only_first true false false ks c.after.standing)) a.kinds (alike_marks true false false b.kinds a.after.standing))
    a.after.standing

-- a function of what its body has
alike_function_made : {b c : Block'} (l : Linked) (u : FunctionType) → AlikeBlock b c → function_made l u b.after b.made l.at ≡ function_made l u c.after c.made l.at
alike_function_made {b = b} {c = c} l u a =
    λ i. function_made l u (record b.after { variables = a.after.variables i }) (a.made i) l.at

alike_body : {k j : Known} (heads : Heads) (l : Linked) (u : FunctionType) (body : Statements At) → AlikeKnown k j → AlikeKnown (body_done every heads l u body k) (body_done only_first heads l u body j)
alike_body heads l u body a =
    let f : Frame = record { heads = heads; taken = addresses_taken u.parameters body; number = number_in heads.functions l.root l.internal l.name; result = u.result } in
    let b = alike_items f (is_main_name l.name) in_nothing body (alike_no_items (alike_body_begun f u (alike_names u.parameters a.standing))) in
    record {
      standing = alike_scoped (λ x. left x) (alike_marked (is_main_name l.name) b);
      root = a.root;
      linked = a.linked;
      functions = λ i. a.functions i ++ alike_function_made l u b i;
      block_objects = λ i. a.block_objects i ++ b.after.objects i;
      objects = a.objects;
      sightings = a.sightings;
      visible = a.visible;
      mains = a.mains;
      tentative = a.tentative;
      undefined = a.undefined;
      outside = a.outside;
    }

alike_function_of : {k j : Known} (heads : Heads) (s : Storage) (d : Definition At) (name : Identifier At) (f : FunctionType) → AlikeKnown k j →
    AlikeKnown (function_by_type every heads s d name k (Some (of_function f))) (function_by_type only_first heads s d name j (Some (of_function f)))
alike_function_of {k = k} {j = j} heads s d name f a =
    for_known (λ j. AlikeKnown (function_by_type every heads s d name k (Some (of_function f))) (function_by_type only_first heads s d name j (Some (of_function f)))) k j
    (λ ps h. alike_body heads (linked_of k name (function_type f) s true false) f d.body (alike_link heads (linked_of k name (function_type f) s true false) (known_with k (with_kept k.standing ps h)))) a

alike_bodyless : {k j : Known} (d : Definition At) (name : Identifier At) → AlikeKnown k j → AlikeKnown (bodyless every d name k) (bodyless only_first d name j)
alike_bodyless d name a =
    alike_unlinked name a (alike_unknown name (alike_refusing (not (has_parameters d.declarator)) subset.NoPrototype (declarator_place d.declarator) a.standing))

alike_function : {k j : Known} (heads : Heads) (s : Storage) (d : Definition At) (name : Identifier At) (o : Option DeclaredType) → AlikeKnown k j →
    AlikeKnown (function_by_type every heads s d name k o) (function_by_type only_first heads s d name j o)
alike_function heads s d name None a = alike_bodyless d name a
alike_function heads s d name (Some (of_function f)) a = alike_function_of heads s d name f a
alike_function heads s d name (Some (of_part_function f)) a = alike_link_of heads name (part_type f) s true false (known_at a (alike_listed_names f.parameters a.standing))
alike_function heads s d name (Some (of_type u)) a = alike_bodyless d name a
alike_function heads s d name (Some (of_open_array u)) a = alike_bodyless d name a

alike_function_named : {k j : Known} (heads : Heads) (d : Definition At) (u : Option PlainType) (name : Option (Identifier At)) → AlikeKnown k j →
    AlikeKnown (function_named every heads d k u name) (function_named only_first heads d j u name)
alike_function_named heads d u None a = a
alike_function_named {k = k} {j = j} heads d u (Some name) a =
    let p = alike_declarator name.place d.declarator (alike_based u a.standing) in
    followed AlikeKnown (λ o z. function_by_type every heads (storage_of d.specifiers) d name (with_standing k z) o) (λ o z. function_by_type only_first heads (storage_of d.specifiers) d name (with_standing j z) o) p
    (λ o. alike_function heads (storage_of d.specifiers) d name o (known_at a p.after))

alike_defined_outside : {k j : Known} (heads : Heads) (d : Definition At) → AlikeKnown k j → AlikeKnown (defined_outside every heads k d) (defined_outside only_first heads j d)
unfolding defined_outside
alike_defined_outside {k = k} {j = j} heads d a =
    let u = alike_specified site_is.OfDefinition (allowed_at_definition d) false d.specifiers a.standing in
    followed AlikeKnown
    (λ o z. function_named every heads d (record k { standing = z; mains = k.mains ++ main_constants (constants_of d.specifiers) }) o (name_in d.declarator))
    (λ o z. function_named only_first heads d (record j { standing = z; mains = j.mains ++ main_constants (constants_of d.specifiers) }) o (name_in d.declarator)) u
    (λ o. alike_function_named heads d o (name_in d.declarator) (alike_begun (constants_of d.specifiers) a u.after))

-- ## Roots

alike_after : {k j : Known} (heads : Heads) (e : External At) → AlikeKnown k j → AlikeKnown (known_after every heads k e) (known_after only_first heads j e)
alike_after heads (Outer p d) a = alike_declared_outside heads d a
alike_after heads (Defines d) a = alike_defined_outside heads d a

alike_after_all : {k j : Known} (heads : Heads) (all : List (External At)) → AlikeKnown k j → AlikeKnown (known_after_all every heads k all) (known_after_all only_first heads j all)
alike_after_all heads [] a = a
alike_after_all {k = k} {j = j} heads (e ∷ rest) a =
    alike_after_all {k = known_after every heads k e} {j = known_after only_first heads j e} heads rest (alike_after {k = k} {j = j} heads e a)

alike_root_begun : {k j : Known} → AlikeKnown k j → AlikeKnown (root_begun k) (root_begun j)
alike_root_begun a = record {
  standing = alike_scoped (λ x. without_names x) a.standing;
  root = a.root;
  linked = a.linked;
  functions = a.functions;
  block_objects = a.block_objects;
  objects = a.objects;
  sightings = refl;
  visible = a.visible;
  mains = a.mains;
  tentative = refl;
  undefined = refl;
  outside = a.outside;
}

alike_sizes : {s t : PlainStanding} (all : List Tentative) → Alike s t → Alike (sizes_noted every all s) (sizes_noted only_first all t)
alike_sizes [] a = a
alike_sizes {s = s} {t = t} (d ∷ rest) a =
    alike_sizes {s = refusing every (lacks_size_at_end s.scope d.type) subset.IncompleteType d.name.place s} {t = refusing only_first (lacks_size_at_end t.scope d.type) subset.IncompleteType d.name.place t} rest
    (alike_refusing_in (λ x. lacks_size_at_end x d.type) subset.IncompleteType d.name.place a)

alike_ended : (k : Known) (ps : List Problem) → AreKept k.standing.problems ps → AlikeKnown (root_ended every k) (root_ended only_first (with_problems_of ps k))
alike_ended k ps h = record {
  standing = alike_sizes k.tentative (with_kept k.standing ps h);
  root = refl;
  linked = refl;
  functions = refl;
  block_objects = refl;
  objects = refl;
  sightings = refl;
  visible = refl;
  mains = refl;
  tentative = refl;
  undefined = refl;
  outside = refl;
}

alike_root_ended : {k j : Known} → AlikeKnown k j → AlikeKnown (root_ended every k) (root_ended only_first j)
alike_root_ended {k = k} {j = j} a = for_known (λ j. AlikeKnown (root_ended every k) (root_ended only_first j)) k j (λ ps h. alike_ended k ps h) a

alike_root : {k j : Known} (heads : Heads) (root : List (External At)) → AlikeKnown k j → AlikeKnown (root_passed every heads k root) (root_passed only_first heads j root)
alike_root heads root a = alike_root_ended (alike_after_all heads root (alike_root_begun a))

pub alike_roots : {k j : Known} (heads : Heads) (roots : List (List (External At))) → AlikeKnown k j → AlikeKnown (roots_passed every heads k roots) (roots_passed only_first heads j roots)
alike_roots heads [] a = a
alike_roots {k = k} {j = j} heads (root ∷ rest) a =
    alike_roots {k = root_passed every heads k root} {j = root_passed only_first heads j root} heads rest (alike_root {k = k} {j = j} heads root a)

-- ## Roots taken together

alike_agreed_noted : {s t : PlainStanding} (now : Linked) (o : Option (List PlainStructure)) → Alike s t → Alike (agreed_noted every now s o) (agreed_noted only_first now t o)
alike_agreed_noted now None a = alike_refusing true subset.DefinedTwice now.at a
alike_agreed_noted now (Some structures) a = alike_scoped (λ x. record x { structures = structures }) a

alike_agreeing : {s t : PlainStanding} (before : List Linked) (now : Linked) → Alike s t → Alike (agreeing every before now s) (agreeing only_first before now t)
alike_agreeing {s = s} {t = t} before now a =
    for_alike (λ t. Alike (agreeing every before now s) (agreeing only_first before now t)) s t
    (λ ps k. alike_agreed_noted now (agreed before now s.scope.structures) (with_kept s ps k)) a

alike_all_agreeing : {s t : PlainStanding} (before all : List Linked) → Alike s t → Alike (all_agreeing every before all s) (all_agreeing only_first before all t)
alike_all_agreeing before [] a = a
alike_all_agreeing {s = s} {t = t} before (l ∷ rest) a =
    alike_all_agreeing {s = agreeing every before l s} {t = agreeing only_first before l t} (before ++ l ∷ []) rest (alike_agreeing {s = s} {t = t} before l a)

alike_definitions : {s t : PlainStanding} (before all : List Head) → Alike s t → Alike (definitions_noted every before all s) (definitions_noted only_first before all t)
alike_definitions before [] a = a
alike_definitions {s = s} {t = t} before (f ∷ rest) a =
    alike_definitions {s = refusing every (is_defined_before before f) subset.DefinedTwice f.at s} {t = refusing only_first (is_defined_before before f) subset.DefinedTwice f.at t} (before ++ f ∷ []) rest
    (alike_refusing (is_defined_before before f) subset.DefinedTwice f.at a)

pub alike_together : {s t : PlainStanding} (heads : Heads) (linked : List Linked) → Alike s t → Alike (taken_together every heads linked s) (taken_together only_first heads linked t)
unfolding taken_together
alike_together heads linked a = alike_definitions [] heads.objects (alike_definitions [] heads.functions (alike_all_agreeing [] linked a))
