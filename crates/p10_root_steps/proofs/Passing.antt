-- Roots, by steps.
use Rattle.std.proofs.Common.{Bool, true, false, List, [], ◌∷◌, ◌++◌, Option, Some, None}
use Rattle.std.specs.Prelude.{if◌then◌else◌}
use Rattle.p10_base.specs.declared.at.At.{At}
use Rattle.p10_syn.specs.Trees.{Identifier, InitDeclarator, Declaration, Definition, Statements, External, Outer, Defines}
use Rattle.p10_core.specs.Types.{PlainType}
use Rattle.p10_elabx.specs.First.{Keep}
use Rattle.p10_elabd.specs.Standing.{PlainStanding, Passed}
use Rattle.p10_elabd.specs.Words.{storage_of}
use Rattle.p10_elabd.specs.declared.site.Site.TheVariants as site_is
use Rattle.p10_elabd.specs.declared.site.Storage.{Storage}
use Rattle.p10_elabd.specs.Shapes.{FunctionType, DeclaredType, of_type, of_open_array, of_function, of_part_function, name_in}
use Rattle.p10_elabd.specs.Declaring.{specified, declarator_passed, based}
use Rattle.p10_heads.specs.Heads.{Heads, number_in}
use Rattle.p10_linkage.specs.Linkage.{Linked, is_main_name}
use Rattle.p10_elabs.specs.Addresses.{addresses_taken, constants_of}
use Rattle.p10_elabs.specs.Locals.{Frame, specified_in, makes_sensors, no_initializer, typedef_passed}
use Rattle.p10_elabs.specs.LocalDeclarations.{is_typedef}
use Rattle.p10_elabs.specs.Marks.{marks_noted}
use Rattle.p10_elabs.specs.Statements.{in_nothing, Block', no_items_yet, items_done}
use Rattle.p10_elab.specs.Knowledge.{Known, linked_of, with_linked, with_standing, without_linkage}
use Rattle.p10_elab.specs.Outer.{function_type, part_type, by_type_outside, outer_named, outer_declarators, main_constants, declared_outside, names_noted, listed_names_noted, body_begun, body_done, function_by_type, allowed_at_definition, function_named, defined_outside, body_scope}
use Rattle.p10_elab.specs.RootEnds.{known_after, known_after_all, root_begun, root_passed, roots_passed}
use Rattle.p10_elabx.specs.Scopes.{PlainScope, left}
use Rattle.p10_declaration_steps.specs.Steps.{same}
use Rattle.p10_declaration_steps.proofs.Declaring.{over_declarator, over_specified}
use Rattle.p10_statement_steps.proofs.Typing.{over_specified_in, over_no_initializer}
use Rattle.p10_statement_steps.proofs.Declaring.{over_typedef}
use Rattle.p10_statement_steps.proofs.Doing.{over_items}
use Rattle.p10_root_steps.specs.Steps.{RootSteps, root_part, root_followed, root_local, root_body, names_changed}
use Rattle.p10_root_steps.specs.Laws.{RootsTakeSteps}
use Rattle.p10_root_steps.proofs.Parts.{over_linked, over_by_type_outside, over_names, over_listed, over_marks_where, over_sizes, over_bodyless}

either_after : {h : Keep} (b : Bool) (s : PlainStanding) (k j : Known) → RootSteps h s k.standing → RootSteps h s j.standing → RootSteps h s (if b then k else j).standing
either_after true s k j g x = g
either_after false s k j g x = x

-- a declarator by its name, after its type
pub over_after_type : (h : Keep) (heads : Heads) (s : Storage) (sensor : Bool) (name : Identifier At) (d : InitDeclarator At) (k : Known) (v : PlainStanding) (o : Option DeclaredType) (b : Bool)
    → RootSteps h v (if b then without_linkage name (no_initializer h d.initial (typedef_passed h name d.declarator o v)) k else by_type_outside h heads s sensor name d (with_standing k v) o).standing
over_after_type h heads s sensor name d k v o b =
    either_after b v (without_linkage name (no_initializer h d.initial (typedef_passed h name d.declarator o v)) k) (by_type_outside h heads s sensor name d (with_standing k v) o)
    (root_followed (root_local (over_typedef h name d.declarator o v)) (root_part (over_no_initializer h d.initial (typedef_passed h name d.declarator o v)))) (root_part (over_by_type_outside h heads s sensor name d (with_standing k v) o))

pub over_outer_named : (h : Keep) (heads : Heads) (s : Storage) (sensor : Bool) (t : Option PlainType) (k : Known) (d : InitDeclarator At) (o : Option (Identifier At)) → RootSteps h k.standing (outer_named h heads s sensor t k d o).standing
over_outer_named h heads s sensor t k d None = root_part (same k.standing)
over_outer_named h heads s sensor t k d (Some name) =
    let j : Passed DeclaredType = declarator_passed h name.place (based t k.standing) d.declarator in
    root_followed (root_part (over_declarator h name.place (based t k.standing) d.declarator)) (over_after_type h heads s sensor name d k j.after j.made (is_typedef s))

pub over_outer_declarators : (h : Keep) (heads : Heads) (s : Storage) (sensor : Bool) (t : Option PlainType) (k : Known) (ds : List (InitDeclarator At)) → RootSteps h k.standing (outer_declarators h heads s sensor t k ds).standing
over_outer_declarators h heads s sensor t k [] = root_part (same k.standing)
over_outer_declarators h heads s sensor t k (d ∷ rest) =
    root_followed (over_outer_named h heads s sensor t k d (name_in d.declarator)) (over_outer_declarators h heads s sensor t (outer_named h heads s sensor t k d (name_in d.declarator)) rest)

pub over_outside : (h : Keep) (heads : Heads) (k : Known) (d : Declaration At) → RootSteps h k.standing (declared_outside h heads k d).standing
unfolding declared_outside
over_outside h heads k d =
    let t : Passed PlainType = specified_in h true site_is.Outside k.standing d in
    root_followed (root_part (over_specified_in h true site_is.Outside k.standing d))
    (over_outer_declarators h heads (storage_of d.specifiers) (makes_sensors d) t.made (record k { standing = t.after; mains = k.mains ++ main_constants (constants_of d.specifiers) }) d.declarators)

-- a body after the rows on the names of its parameters: its block begins with those names
pub over_after_names : (h : Keep) (heads : Heads) (l : Linked) (t : FunctionType) (body : Statements At) (k : Known) → RootSteps h (names_noted h t.parameters k.standing) (body_done h heads l t body k).standing
over_after_names h heads l t body k =
    let f : Frame = record { heads = heads; taken = addresses_taken t.parameters body; number = number_in heads.functions l.root l.internal l.name; result = t.result } in
    let s : PlainStanding = names_noted h t.parameters k.standing in
    let inside : PlainScope = body_scope f t s.scope in
    let b : Block' = items_done h f (is_main_name l.name) in_nothing (no_items_yet (body_begun f t s)) body in
    let v : PlainStanding = if is_main_name l.name then marks_noted h true false false b.kinds b.after.standing else b.after.standing in
    let outside : PlainScope = left v.scope in
    root_followed (names_changed inside.names inside.tags inside.floors inside.evaluated s)
    (root_followed (root_body (over_items h f (is_main_name l.name) in_nothing (no_items_yet (body_begun f t s)) body))
    (root_followed (root_part (over_marks_where h (is_main_name l.name) b.kinds b.after.standing)) (names_changed outside.names outside.tags outside.floors outside.evaluated v)))

pub over_body : (h : Keep) (heads : Heads) (l : Linked) (t : FunctionType) (body : Statements At) (k : Known) → RootSteps h k.standing (body_done h heads l t body k).standing
over_body h heads l t body k = root_followed (root_part (over_names h t.parameters k.standing)) (over_after_names h heads l t body k)

pub over_function : (h : Keep) (heads : Heads) (s : Storage) (d : Definition At) (name : Identifier At) (k : Known) (o : Option DeclaredType) → RootSteps h k.standing (function_by_type h heads s d name k o).standing
over_function h heads s d name k (Some (of_function f)) =
    let l : Linked = linked_of k name (function_type f) s true false in
    root_followed (root_part (over_linked h heads l k)) (over_body h heads l f d.body (with_linked h heads l k))
over_function h heads s d name k (Some (of_part_function f)) =
    let v : PlainStanding = listed_names_noted h f.parameters k.standing in
    root_followed (root_part (over_listed h f.parameters k.standing)) (root_part (over_linked h heads (linked_of k name (part_type f) s true false) (with_standing k v)))
over_function h heads s d name k (Some (of_type t)) = root_part (over_bodyless h d name k)
over_function h heads s d name k (Some (of_open_array t)) = root_part (over_bodyless h d name k)
over_function h heads s d name k None = root_part (over_bodyless h d name k)

pub over_function_named : (h : Keep) (heads : Heads) (d : Definition At) (k : Known) (t : Option PlainType) (o : Option (Identifier At)) → RootSteps h k.standing (function_named h heads d k t o).standing
over_function_named h heads d k t None = root_part (same k.standing)
over_function_named h heads d k t (Some name) =
    let j : Passed DeclaredType = declarator_passed h name.place (based t k.standing) d.declarator in
    root_followed (root_part (over_declarator h name.place (based t k.standing) d.declarator)) (over_function h heads (storage_of d.specifiers) d name (with_standing k j.after) j.made)

pub over_definition : (h : Keep) (heads : Heads) (k : Known) (d : Definition At) → RootSteps h k.standing (defined_outside h heads k d).standing
unfolding defined_outside
over_definition h heads k d =
    let t : Passed PlainType = specified h site_is.OfDefinition (allowed_at_definition d) false k.standing d.specifiers in
    root_followed (root_part (over_specified h site_is.OfDefinition (allowed_at_definition d) false k.standing d.specifiers))
    (over_function_named h heads d (record k { standing = t.after; mains = k.mains ++ main_constants (constants_of d.specifiers) }) t.made (name_in d.declarator))

-- ## Roots

pub over_external : (h : Keep) (heads : Heads) (k : Known) (e : External At) → RootSteps h k.standing (known_after h heads k e).standing
over_external h heads k (Outer at d) = over_outside h heads k d
over_external h heads k (Defines d) = over_definition h heads k d

pub over_all : (h : Keep) (heads : Heads) (k : Known) (all : List (External At)) → RootSteps h k.standing (known_after_all h heads k all).standing
over_all h heads k [] = root_part (same k.standing)
over_all h heads k (e ∷ rest) = root_followed (over_external h heads k e) (over_all h heads (known_after h heads k e) rest)

pub over_root : (h : Keep) (heads : Heads) (k : Known) (root : List (External At)) → RootSteps h k.standing (root_passed h heads k root).standing
over_root h heads k root =
    let m : Known = known_after_all h heads (root_begun k) root in
    root_followed (names_changed [] [] [] true k.standing) (root_followed (over_all h heads (root_begun k) root) (root_part (over_sizes h m.tentative m.standing)))

pub over_roots : (h : Keep) (heads : Heads) (k : Known) (roots : List (List (External At))) → RootSteps h k.standing (roots_passed h heads k roots).standing
over_roots h heads k [] = root_part (same k.standing)
over_roots h heads k (root ∷ rest) = root_followed (over_root h heads k root) (over_roots h heads (root_passed h heads k root) rest)

pub roots_take_steps : RootsTakeSteps
roots_take_steps = record { externals = over_external; roots = over_roots }
