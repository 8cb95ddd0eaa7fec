-- Scopes stay whole over declarations and functions outside of functions.
use Rattle.std.proofs.Common.{Bool, true, false, List, [], ◌∷◌, ◌++◌, map, Option, Some, None}
use Rattle.std.specs.Prelude.{if◌then◌else◌}
use Rattle.p10_base.specs.declared.at.At.{At}
use Rattle.p10_syn.specs.Trees.{Identifier, InitDeclarator, Declaration, Definition, Statements, External, Outer, Defines}
use Rattle.p10_core.specs.Types.{PlainType, PlainStructure}
use Rattle.p10_core.specs.WholePrograms.{IsWholeType}
use Rattle.p10_elabx.specs.Scopes.{Meaning, local, Binding, PlainScope}
use Rattle.p10_elabx.specs.First.{Keep}
use Rattle.p10_elabd.specs.Standing.{PlainStanding, Passed}
use Rattle.p10_elabd.specs.Words.{storage_of}
use Rattle.p10_elabd.specs.declared.site.Site.TheVariants as site_is
use Rattle.p10_elabd.specs.declared.site.Storage.{Storage}
use Rattle.p10_elabd.specs.Shapes.{FunctionType, DeclaredType, of_type, of_open_array, of_function, of_part_function, name_in}
use Rattle.p10_elabd.specs.Declaring.{specified, declarator_passed, based}
use Rattle.p10_heads.specs.Heads.{Heads, number_in, heads_of_roots}
use Rattle.p10_linkage.specs.Linkage.{Linked, is_main_name}
use Rattle.p10_elabs.specs.Addresses.{addresses_taken, constants_of}
use Rattle.p10_elabs.specs.Locals.{Frame, specified_in, makes_sensors, no_initializer, typedef_passed}
use Rattle.p10_elabs.specs.LocalDeclarations.{is_typedef}
use Rattle.p10_elabs.specs.Marks.{marks_noted}
use Rattle.p10_elabs.specs.Statements.{in_nothing, Block', no_items_yet, items_done}
use Rattle.p10_elab.specs.Knowledge.{Known, linked_of, with_linked, with_standing, without_linkage}
use Rattle.p10_elab.specs.Outer.{function_type, part_type, by_type_outside, outer_named, outer_declarators, main_constants, declared_outside, names_noted, listed_names_noted, meaning_in_body, body_scope, body_begun, body_done, function_by_type, allowed_at_definition, function_named, defined_outside}
use Rattle.p10_elab.specs.RootEnds.{known_after, known_after_all, nothing_known, root_begun, root_passed, roots_passed}
use Rattle.p10_elab.specs.Programs.{known_of}
use Rattle.p10_core.proofs.Completing.{none_are_built}
use Rattle.p10_wholeness.specs.Growth.{AreMore}
use Rattle.p10_wholeness.specs.Names.{IfMade, IsWholeMeaning, AreWholeMeanings, IsWholeScope, IsWholeFunctionType, IsWholeDeclared}
use Rattle.p10_wholeness.specs.Laws.{Keeps}
use Rattle.p10_wholeness.proofs.Growth.{types_stay_whole}
use Rattle.p10_wholeness.proofs.Scopes.{test_either, keeps_on, joined_meanings, keep_left}
use Rattle.p10_wholeness.proofs.KeepingDeclarations.{specified_in_made, typedef_whole, keeps_items}
use Rattle.p10_wholeness.proofs.Making.{made_map, specified_made}
use Rattle.p10_wholeness.proofs.MakingDeclarators.{declared_moves, based_made, declarator_made}
use Rattle.p10_root_wholeness.specs.Laws.{ScopesOfRootsAreWhole}
use Rattle.p10_declaration_steps.proofs.Declaring.{over_specified, over_declarator}
use Rattle.p10_statement_steps.proofs.Typing.{over_specified_in, over_no_initializer}
use Rattle.p10_root_steps.proofs.Parts.{over_linked, over_by_type_outside, over_names, over_listed, over_marks_where, over_bodyless, over_sizes}
use Rattle.p10_root_steps.proofs.Passing.{over_outer_named, over_roots}
use Rattle.p10_wholeness.proofs.Keeping.{kept}
use Rattle.p10_root_wholeness.proofs.BuildingOutside.{built_outside}

-- ## Declarators

named_whole : (h : Keep) (heads : Heads) (s : Storage) (sensor : Bool) (t : Option PlainType) (k : Known) (d : InitDeclarator At) (o : Option (Identifier At)) → IsWholeScope k.standing.scope → IfMade (IsWholeType k.standing.scope.structures) t →
    IsWholeScope (outer_named h heads s sensor t k d o).standing.scope
named_whole h heads s sensor t k d None w m = w
named_whole h heads s sensor t k d (Some name) w m =
    let j : Passed DeclaredType = declarator_passed h name.place (based t k.standing) d.declarator in
    let there : IsWholeScope j.after.scope = (kept (over_declarator h name.place (based t k.standing) d.declarator)).whole w in
    let made : IfMade (IsWholeDeclared j.after.scope.structures) j.made = declarator_made h name.place (based t k.standing) d.declarator w (based_made k.standing.scope.structures t m) in
    let v : PlainStanding = typedef_passed h name d.declarator j.made j.after in
    test_either (λ (x : Known). IsWholeScope x.standing.scope) (is_typedef s) (without_linkage name (no_initializer h d.initial v) k) (by_type_outside h heads s sensor name d (with_standing k j.after) j.made)
    (λ e. (kept (over_no_initializer h d.initial v)).whole (typedef_whole h name d.declarator j.made j.after there made))
    (λ e. (kept (over_by_type_outside h heads s sensor name d (with_standing k j.after) j.made)).whole there)

declarators_whole : (h : Keep) (heads : Heads) (s : Storage) (sensor : Bool) (t : Option PlainType) (k : Known) (ds : List (InitDeclarator At)) → IsWholeScope k.standing.scope → IfMade (IsWholeType k.standing.scope.structures) t →
    IsWholeScope (outer_declarators h heads s sensor t k ds).standing.scope
declarators_whole h heads s sensor t k [] w m = w
declarators_whole h heads s sensor t k (d ∷ rest) w m =
    let q : Known = outer_named h heads s sensor t k d (name_in d.declarator) in
    let ss : List PlainStructure = k.standing.scope.structures in
    let ts : List PlainStructure = q.standing.scope.structures in
    let more : AreMore ss ts = (built_outside (over_outer_named h heads s sensor t k d (name_in d.declarator))).more in
    declarators_whole h heads s sensor t q rest (named_whole h heads s sensor t k d (name_in d.declarator) w m)
    (made_map (IsWholeType ss) (IsWholeType ts) (λ u x. (types_stay_whole ss ts u w.built.whole more).whole x) t m)

outside_whole : (h : Keep) (heads : Heads) (k : Known) (d : Declaration At) → IsWholeScope k.standing.scope → IsWholeScope (declared_outside h heads k d).standing.scope
unfolding declared_outside
outside_whole h heads k d w =
    let t : Passed PlainType = specified_in h true site_is.Outside k.standing d in
    declarators_whole h heads (storage_of d.specifiers) (makes_sensors d) t.made (record k { standing = t.after; mains = k.mains ++ main_constants (constants_of d.specifiers) }) d.declarators
    ((kept (over_specified_in h true site_is.Outside k.standing d)).whole w) (specified_in_made h true site_is.Outside k.standing d w)

-- ## Functions

-- what a name among the parameters stands for in the body
in_body : (ss : List PlainStructure) (f : Frame) (m : Meaning) → IsWholeMeaning ss m → IsWholeMeaning ss (meaning_in_body f m)
in_body ss f (local n t frame) h = tt
in_body ss f m h = h

all_in_body : (ss : List PlainStructure) (f : Frame) (bs : List Binding) → AreWholeMeanings ss bs → AreWholeMeanings ss (map (λ (b : Binding). record b { what = meaning_in_body f b.what }) bs)
all_in_body ss f [] h = tt
all_in_body ss f (b ∷ bs) h = (in_body ss f b.what h.0, all_in_body ss f bs h.1)

body_scope_whole : (f : Frame) (t : FunctionType) (s : PlainScope) → IsWholeScope s → IsWholeFunctionType s.structures t → IsWholeScope (body_scope f t s)
body_scope_whole f t s w m = record {
  built = w.built;
  names = joined_meanings s.structures s.names (map (λ (b : Binding). record b { what = meaning_in_body f b.what }) t.names) w.names (all_in_body s.structures f t.names m.names);
  tags = joined_meanings s.structures s.tags t.tags w.tags m.tags;
}

body_whole : (h : Keep) (heads : Heads) (l : Linked) (t : FunctionType) (body : Statements At) (k : Known) → IsWholeScope k.standing.scope → IsWholeDeclared k.standing.scope.structures (of_function t) → IsWholeScope (body_done h heads l t body k).standing.scope
body_whole h heads l t body k w m =
    let f : Frame = record { heads = heads; taken = addresses_taken t.parameters body; number = number_in heads.functions l.root l.internal l.name; result = t.result } in
    let s : PlainStanding = names_noted h t.parameters k.standing in
    let first : Keeps k.standing s = kept (over_names h t.parameters k.standing) in
    let b : Block' = items_done h f (is_main_name l.name) in_nothing (no_items_yet (body_begun f t s)) body in
    let begun : IsWholeScope (body_begun f t s).standing.scope = body_scope_whole f t s.scope (first.whole w) (declared_moves k.standing s first w (of_function t) m) in
    let v : PlainStanding = if is_main_name l.name then marks_noted h true false false b.kinds b.after.standing else b.after.standing in
    (keeps_on (keeps_items h f (is_main_name l.name) in_nothing (no_items_yet (body_begun f t s)) body) (keeps_on (kept (over_marks_where h (is_main_name l.name) b.kinds b.after.standing)) (keep_left v.scope))).whole begun

function_whole : (h : Keep) (heads : Heads) (s : Storage) (d : Definition At) (name : Identifier At) (k : Known) (o : Option DeclaredType) → IsWholeScope k.standing.scope → IfMade (IsWholeDeclared k.standing.scope.structures) o →
    IsWholeScope (function_by_type h heads s d name k o).standing.scope
function_whole h heads s d name k (Some (of_function f)) w m =
    let l : Linked = linked_of k name (function_type f) s true false in
    let n : Known = with_linked h heads l k in
    let first : Keeps k.standing n.standing = kept (over_linked h heads l k) in
    body_whole h heads l f d.body n (first.whole w) (declared_moves k.standing n.standing first w (of_function f) m)
function_whole h heads s d name k (Some (of_part_function f)) w m =
    let v : PlainStanding = listed_names_noted h f.parameters k.standing in
    (keeps_on (kept (over_listed h f.parameters k.standing)) (kept (over_linked h heads (linked_of (with_standing k v) name (part_type f) s true false) (with_standing k v)))).whole w
function_whole h heads s d name k (Some (of_type t)) w m = (kept (over_bodyless h d name k)).whole w
function_whole h heads s d name k (Some (of_open_array t)) w m = (kept (over_bodyless h d name k)).whole w
function_whole h heads s d name k None w m = (kept (over_bodyless h d name k)).whole w

function_named_whole : (h : Keep) (heads : Heads) (d : Definition At) (k : Known) (t : Option PlainType) (o : Option (Identifier At)) → IsWholeScope k.standing.scope → IfMade (IsWholeType k.standing.scope.structures) t →
    IsWholeScope (function_named h heads d k t o).standing.scope
function_named_whole h heads d k t None w m = w
function_named_whole h heads d k t (Some name) w m =
    let j : Passed DeclaredType = declarator_passed h name.place (based t k.standing) d.declarator in
    function_whole h heads (storage_of d.specifiers) d name (with_standing k j.after) j.made ((kept (over_declarator h name.place (based t k.standing) d.declarator)).whole w)
    (declarator_made h name.place (based t k.standing) d.declarator w (based_made k.standing.scope.structures t m))

definition_whole : (h : Keep) (heads : Heads) (k : Known) (d : Definition At) → IsWholeScope k.standing.scope → IsWholeScope (defined_outside h heads k d).standing.scope
unfolding defined_outside
definition_whole h heads k d w =
    let t : Passed PlainType = specified h site_is.OfDefinition (allowed_at_definition d) false k.standing d.specifiers in
    function_named_whole h heads d (record k { standing = t.after; mains = k.mains ++ main_constants (constants_of d.specifiers) }) t.made (name_in d.declarator)
    ((kept (over_specified h site_is.OfDefinition (allowed_at_definition d) false k.standing d.specifiers)).whole w) (specified_made h site_is.OfDefinition (allowed_at_definition d) false k.standing d.specifiers w)

-- ## Roots

external_whole : (h : Keep) (heads : Heads) (k : Known) (e : External At) → IsWholeScope k.standing.scope → IsWholeScope (known_after h heads k e).standing.scope
external_whole h heads k (Outer at d) w = outside_whole h heads k d w
external_whole h heads k (Defines d) w = definition_whole h heads k d w

all_whole : (h : Keep) (heads : Heads) (k : Known) (all : List (External At)) → IsWholeScope k.standing.scope → IsWholeScope (known_after_all h heads k all).standing.scope
all_whole h heads k [] w = w
all_whole h heads k (e ∷ rest) w = all_whole h heads (known_after h heads k e) rest (external_whole h heads k e w)

root_whole : (h : Keep) (heads : Heads) (k : Known) (root : List (External At)) → IsWholeScope k.standing.scope → IsWholeScope (root_passed h heads k root).standing.scope
root_whole h heads k root w =
    let m : Known = known_after_all h heads (root_begun k) root in
    (kept (over_sizes h m.tentative m.standing)).whole (all_whole h heads (root_begun k) root (record { built = w.built; names = tt; tags = tt }))

roots_whole : (h : Keep) (heads : Heads) (k : Known) (roots : List (List (External At))) → IsWholeScope k.standing.scope → IsWholeScope (roots_passed h heads k roots).standing.scope
roots_whole h heads k [] w = w
roots_whole h heads k (root ∷ rest) w = roots_whole h heads (root_passed h heads k root) rest (root_whole h heads k root w)

end_whole : (h : Keep) (roots : List (List (External At))) → IsWholeScope (known_of h roots).standing.scope
unfolding known_of
end_whole h roots = roots_whole h (heads_of_roots 0 roots) nothing_known roots (record { built = none_are_built; names = tt; tags = tt })

pub scopes_of_roots_are_whole : ScopesOfRootsAreWhole
scopes_of_roots_are_whole = record {
  over = λ h heads k roots. record { tables = built_outside (over_roots h heads k roots); whole = roots_whole h heads k roots };
  at_end = end_whole;
}
