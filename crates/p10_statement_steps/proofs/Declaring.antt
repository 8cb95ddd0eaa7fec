-- Declarations in blocks, by steps.
use Rattle.std.proofs.Common.{ℕ, Bool, true, false, List, [], ◌∷◌, ◌++◌, Option, Some, None}
use Rattle.std.specs.Prelude.{if◌then◌else◌}
use Rattle.p10_base.specs.declared.at.At.{At}
use Rattle.p10_base.specs.declared.codes.SubsetCode.TheVariants as subset
use Rattle.p10_syn.specs.Trees.{Identifier, Declarator, Initializer, InitDeclarator, Declaration}
use Rattle.p10_core.specs.Types.{PlainType}
use Rattle.p10_core.specs.Typed.{PlainInitializer}
use Rattle.p10_elabx.specs.First.{Keep}
use Rattle.p10_elabx.specs.Scopes.{local, object}
use Rattle.p10_elabx.specs.TypeNames.{declarator_place}
use Rattle.p10_elabd.specs.Standing.{PlainStanding, Passed, refusing}
use Rattle.p10_elabd.specs.Words.{storage_of}
use Rattle.p10_elabd.specs.declared.site.Site.{Site}
use Rattle.p10_elabd.specs.declared.site.Storage.{Storage}
use Rattle.p10_elabd.specs.declared.site.Storage.TheVariants as storage_is
use Rattle.p10_elabd.specs.Blocks.{declaring, is_taken}
use Rattle.p10_elabd.specs.Shapes.{DeclaredType, of_type, of_open_array, of_function, of_part_function, name_in, declares_function, declares_open_array}
use Rattle.p10_elabd.specs.Declaring.{declarator_passed, based}
use Rattle.p10_elabd.specs.declared.lifetime.Lifetime.TheVariants as life_is
use Rattle.p10_heads.specs.Heads.{number_at}
use Rattle.p10_elabs.specs.Locals.{Frame, Local, with_standing, specified_in, makes_sensors, unknown_in, typedef_of, typedef_passed, open_noted, brackets_of, initialized_by}
use Rattle.p10_elabs.specs.LocalDeclarations.{Declaring, is_frame_variable, with_variable, variable_of_type, variable_where, with_object, object_of_type, object_where, no_items, declared_object, object_in_block, prototype_passed, typedef_done, by_storage, is_prototype, local_named, local_declarators, declared_locally}
use Rattle.p10_declaration_steps.specs.Steps.{Steps, same, followed}
use Rattle.p10_declaration_steps.proofs.Steps.{over_refusing, over_declaring}
use Rattle.p10_declaration_steps.proofs.Declaring.{over_declarator}
use Rattle.p10_statement_steps.specs.Steps.{LocalSteps, local_part, local_followed, type_name_more}
use Rattle.p10_statement_steps.proofs.Typing.{over_specified_in, over_no_initializer, over_unknown, over_open, over_object_type, over_initialized_by}

pub over_typedef_of : (h : Keep) (name : Identifier At) (o : Option DeclaredType) (s : PlainStanding) → LocalSteps h s (typedef_of h name o s)
over_typedef_of h name None s = local_part (over_unknown h name s)
over_typedef_of h name (Some (of_type t)) s =
    local_followed (local_part (over_refusing h (is_taken s.scope name.name) subset.DefinedTwice name.place s)) (type_name_more name.name t (refusing h (is_taken s.scope name.name) subset.DefinedTwice name.place s))
over_typedef_of h name (Some (of_open_array t)) s = local_part (over_unknown h name s)
over_typedef_of h name (Some (of_function f)) s = local_part (over_unknown h name s)
over_typedef_of h name (Some (of_part_function f)) s = local_part (over_unknown h name s)

pub over_typedef : (h : Keep) (name : Identifier At) (d : Declarator At) (o : Option DeclaredType) (s : PlainStanding) → LocalSteps h s (typedef_passed h name d o s)
over_typedef h name d o s =
    let t : PlainStanding = refusing h (declares_function d) subset.BadSpecifier (declarator_place d) s in
    let u : PlainStanding = refusing h (declares_open_array d) subset.IncompleteType name.place t in
    local_followed (local_part (followed (over_refusing h (declares_function d) subset.BadSpecifier (declarator_place d) s) (over_refusing h (declares_open_array d) subset.IncompleteType name.place t))) (over_typedef_of h name o u)

either_declared : {h : Keep} (b : Bool) (s : PlainStanding) (p q : Declaring) → LocalSteps h s p.after.standing → LocalSteps h s q.after.standing → LocalSteps h s (if b then p else q).after.standing
either_declared true s p q g k = g
either_declared false s p q g k = k

pub over_variable : (h : Keep) (f : Frame) (at : At) (name : Identifier At) (t : PlainType) (i : Option (Initializer At)) (l : Local) → Steps h l.standing (variable_of_type h f at name t i l).after.standing
over_variable h f at name t i l =
    let m : Local = with_variable h f name t l in
    followed (over_declaring h name (local l.count t (is_frame_variable f l.count t)) l.standing tt) (over_initialized_by h life_is.Automatic t i m.standing)

pub over_variable_where : (h : Keep) (f : Frame) (at : At) (name : Identifier At) (i : Option (Initializer At)) (o : Option PlainType) (l : Local) → Steps h l.standing (variable_where h f at name i o l).after.standing
over_variable_where h f at name i None l = over_unknown h name l.standing
over_variable_where h f at name i (Some t) l = over_variable h f at name t i l

pub over_with_object : (h : Keep) (f : Frame) (n : ℕ) (name : Identifier At) (t : PlainType) (sensor : Bool) (o : Option PlainInitializer) (l : Local) → Steps h l.standing (with_object f n name t sensor o l).standing
over_with_object h f n name t sensor None l = same l.standing
over_with_object h f n name t sensor (Some i) l = same l.standing

pub over_object : (h : Keep) (f : Frame) (at : At) (name : Identifier At) (t : PlainType) (sensor : Bool) (i : Option (Initializer At)) (l : Local) → Steps h l.standing (object_of_type h f at name t sensor i l).after.standing
over_object h f at name t sensor i l =
    let n : ℕ = number_at f.heads.objects name.place in
    let m : Local = with_standing l (declaring h name (object n t sensor) l.standing) in
    let p : Passed PlainInitializer = initialized_by h life_is.Static t i m.standing in
    followed (over_declaring h name (object n t sensor) l.standing tt) (followed (over_initialized_by h life_is.Static t i m.standing) (over_with_object h f n name t sensor p.made (with_standing m p.after)))

pub over_object_where : (h : Keep) (f : Frame) (at : At) (name : Identifier At) (sensor : Bool) (i : Option (Initializer At)) (o : Option PlainType) (l : Local) → Steps h l.standing (object_where h f at name sensor i o l).after.standing
over_object_where h f at name sensor i None l = over_unknown h name l.standing
over_object_where h f at name sensor i (Some t) l = over_object h f at name t sensor i l

pub over_declared_object : (h : Keep) (name : Identifier At) (brackets : At) (o : Option DeclaredType) (i : Option (Initializer At)) (s : PlainStanding) → Steps h s (declared_object h name brackets o i s).after
over_declared_object h name brackets None i s = same s
over_declared_object h name brackets (Some d) i s = over_object_type h name brackets d i s

pub over_in_block : (h : Keep) (name : Identifier At) (d : InitDeclarator At) (o : Option DeclaredType) (s : PlainStanding) → Steps h s (object_in_block h name d o s).after
over_in_block h name d o s =
    let t : PlainStanding = open_noted h name.place d.declarator d.initial s in
    followed (over_open h name.place d.declarator d.initial s) (over_declared_object h name (brackets_of d.declarator) o d.initial t)

pub over_prototype : (h : Keep) (name : Identifier At) (d : InitDeclarator At) (l : Local) → Steps h (refusing h true subset.BadSpecifier (declarator_place d.declarator) l.standing) (prototype_passed h name d l).after.standing
over_prototype h name d l =
    let s : PlainStanding = refusing h true subset.BadSpecifier (declarator_place d.declarator) l.standing in
    followed (over_unknown h name s) (over_no_initializer h d.initial (unknown_in h name s))

pub over_typedef_done : (h : Keep) (name : Identifier At) (d : InitDeclarator At) (o : Option DeclaredType) (l : Local) → LocalSteps h l.standing (typedef_done h name d o l).standing
over_typedef_done h name d o l = local_followed (over_typedef h name d.declarator o l.standing) (local_part (over_no_initializer h d.initial (typedef_passed h name d.declarator o l.standing)))

pub over_by_storage : (h : Keep) (f : Frame) (at : At) (s : Storage) (sensor : Bool) (name : Identifier At) (d : InitDeclarator At) (l : Local) (o : Option DeclaredType) → LocalSteps h l.standing (by_storage h f at s sensor name d l o).after.standing
over_by_storage h f at storage_is.Typedef sensor name d l o = over_typedef_done h name d o l
over_by_storage h f at storage_is.Static sensor name d l o =
    let t : Passed PlainType = object_in_block h name d o l.standing in
    local_part (followed (over_in_block h name d o l.standing) (over_object_where h f at name sensor d.initial t.made (with_standing l t.after)))
over_by_storage h f at storage_is.Unnamed sensor name d l o =
    let t : Passed PlainType = object_in_block h name d o l.standing in
    local_part (followed (over_in_block h name d o l.standing) (over_variable_where h f at name d.initial t.made (with_standing l t.after)))
over_by_storage h f at storage_is.Extern sensor name d l o = local_part (over_unknown h name l.standing)

pub over_after_declarator : (h : Keep) (f : Frame) (at : At) (s : Storage) (sensor : Bool) (name : Identifier At) (d : InitDeclarator At) (l : Local) (o : Option DeclaredType) (b : Bool)
    → LocalSteps h l.standing (if b then prototype_passed h name d l else by_storage h f at s sensor name d l o).after.standing
over_after_declarator h f at s sensor name d l o b =
    either_declared b l.standing (prototype_passed h name d l) (by_storage h f at s sensor name d l o)
    (local_part (followed (over_refusing h true subset.BadSpecifier (declarator_place d.declarator) l.standing) (over_prototype h name d l))) (over_by_storage h f at s sensor name d l o)

pub over_local_named : (h : Keep) (f : Frame) (at : At) (s : Storage) (sensor : Bool) (t : Option PlainType) (l : Local) (d : InitDeclarator At) (o : Option (Identifier At)) → LocalSteps h l.standing (local_named h f at s sensor t l d o).after.standing
over_local_named h f at s sensor t l d None = local_part (same l.standing)
over_local_named h f at s sensor t l d (Some name) =
    let j : Passed DeclaredType = declarator_passed h name.place (based t l.standing) d.declarator in
    local_followed (local_part (over_declarator h name.place (based t l.standing) d.declarator)) (over_after_declarator h f at s sensor name d (with_standing l j.after) j.made (is_prototype s d.declarator))

pub over_declarators : (h : Keep) (f : Frame) (at : At) (s : Storage) (sensor : Bool) (t : Option PlainType) (p : Declaring) (ds : List (InitDeclarator At)) → LocalSteps h p.after.standing (local_declarators h f at s sensor t p ds).after.standing
over_declarators h f at s sensor t p [] = local_part (same p.after.standing)
over_declarators h f at s sensor t p (d ∷ rest) =
    let q : Declaring = local_named h f at s sensor t p.after d (name_in d.declarator) in
    local_followed (over_local_named h f at s sensor t p.after d (name_in d.declarator)) (over_declarators h f at s sensor t (record { items = p.items ++ q.items; after = q.after }) rest)

pub over_locally : (h : Keep) (f : Frame) (site : Site) (l : Local) (d : Declaration At) → LocalSteps h l.standing (declared_locally h f site l d).after.standing
unfolding declared_locally
over_locally h f site l d =
    let t : Passed PlainType = specified_in h false site l.standing d in
    local_followed (local_part (over_specified_in h false site l.standing d)) (over_declarators h f d.place (storage_of d.specifiers) (makes_sensors d) t.made (no_items (with_standing l t.after)) d.declarators)
