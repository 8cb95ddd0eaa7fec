-- Scopes stay whole over declarations in blocks and over bodies.
use Rattle.std.proofs.Common.{Bool, true, false, List, [], ◌∷◌, ◌++◌, Option, Some, None}
use Rattle.p10_base.specs.declared.at.At.{At}
use Rattle.p10_base.specs.declared.codes.SubsetCode.TheVariants as subset
use Rattle.p10_syn.specs.Trees.{Identifier, Declarator, InitDeclarator, Declaration, Statements}
use Rattle.p10_core.specs.Types.{PlainType, PlainStructure}
use Rattle.p10_core.specs.WholePrograms.{IsWholeType}
use Rattle.p10_elabx.specs.First.{Keep}
use Rattle.p10_elabx.specs.Scopes.{named_type}
use Rattle.p10_elabx.specs.TypeNames.{declarator_place}
use Rattle.p10_elabd.specs.Standing.{PlainStanding, Passed, refusing}
use Rattle.p10_elabd.specs.Words.{storage_of}
use Rattle.p10_elabd.specs.declared.site.Site.{Site}
use Rattle.p10_elabd.specs.declared.site.Storage.{Storage}
use Rattle.p10_elabd.specs.declared.site.Storage.TheVariants as storage_is
use Rattle.p10_elabd.specs.Shapes.{DeclaredType, of_type, of_open_array, of_function, of_part_function, name_in, declares_function, declares_open_array}
use Rattle.p10_elabd.specs.Declaring.{specified, declarator_passed, based}
use Rattle.p10_elabs.specs.Locals.{Frame, Local, with_standing, declares_sensors, volatile_noted, allowed_by, is_alone, specified_in, makes_sensors, typedef_of, typedef_passed}
use Rattle.p10_elabs.specs.LocalDeclarations.{Declaring, no_items, object_in_block, prototype_passed, by_storage, is_prototype, local_named, local_declarators, declared_locally}
use Rattle.p10_wholeness.specs.Growth.{AreMore}
use Rattle.p10_wholeness.specs.Names.{IfMade, IsWholeScope, IsWholeDeclared}
use Rattle.p10_wholeness.specs.Laws.{Keeps, MadeType, ScopesStayWhole}
use Rattle.p10_wholeness.proofs.Growth.{types_stay_whole}
use Rattle.p10_wholeness.proofs.Scopes.{test_either, keeps_on, one_name}
use Rattle.p10_wholeness.proofs.Making.{made_map, type_moves, specified_made}
use Rattle.p10_wholeness.proofs.MakingDeclarators.{made_moves, based_made, declarator_made}
use Rattle.p10_base.specs.Words.{Text}
use Rattle.p10_base.specs.declared.codes.SubsetCode.{SubsetCode}
use Rattle.p10_elabd.specs.Blocks.{is_taken, with_name}
use Rattle.p10_elabs.specs.declared.round.Round.{Round}
use Rattle.p10_elabs.specs.Statements.{Block', items_done}
use Rattle.p10_declaration_steps.proofs.Steps.{over_refusing}
use Rattle.p10_declaration_steps.proofs.Declaring.{over_specified, over_declarator}
use Rattle.p10_declaration_steps.proofs.Initializing.{over_initialized}
use Rattle.p10_statement_steps.proofs.Typing.{over_volatile, over_specified_in, over_no_initializer, over_unknown}
use Rattle.p10_statement_steps.proofs.Declaring.{over_in_block, over_object_where, over_variable_where, over_prototype, over_local_named, over_locally}
use Rattle.p10_statement_steps.proofs.Doing.{over_items}
use Rattle.p10_statement_steps.proofs.Each.{AreBodySteps, each_in_body}
use Rattle.p10_wholeness.proofs.Keeping.{keeping, kept}
use Rattle.p10_wholeness.proofs.Building.{built}

-- the type that specifiers name is whole where sensors are noted
pub specified_in_made : (h : Keep) (outside : Bool) (site : Site) (s : PlainStanding) (d : Declaration At) → IsWholeScope s.scope → MadeType (specified_in h outside site s d)
specified_in_made h outside site s d w =
    let t : Passed PlainType = specified h site (allowed_by d) (is_alone d) s d.specifiers in
    let v : PlainStanding = volatile_noted h (declares_sensors outside t.made d) d.specifiers t.after in
    let k : Keeps s t.after = kept (over_specified h site (allowed_by d) (is_alone d) s d.specifiers) in
    made_map (IsWholeType t.after.scope.structures) (IsWholeType v.scope.structures) (type_moves t.after v (kept (over_volatile h (declares_sensors outside t.made d) d.specifiers t.after)) (k.whole w)) t.made
    (specified_made h site (allowed_by d) (is_alone d) s d.specifiers w)

-- ## Typedefs

type_named : (h : Keep) (b : Bool) (code : SubsetCode) (at : At) (name : Text) (t : PlainType) (s : PlainStanding) → IsWholeType s.scope.structures t → Keeps s (with_name (refusing h b code at s) name (named_type t))
type_named h true code at name t s m = one_name s.scope (record { name = name; what = named_type t }) m
type_named h false code at name t s m = one_name s.scope (record { name = name; what = named_type t }) m

typedef_of_whole : (h : Keep) (name : Identifier At) (o : Option DeclaredType) (s : PlainStanding) → IsWholeScope s.scope → IfMade (IsWholeDeclared s.scope.structures) o → IsWholeScope (typedef_of h name o s).scope
typedef_of_whole h name None s w m = (kept (over_unknown h name s)).whole w
typedef_of_whole h name (Some (of_type t)) s w m = (type_named h (is_taken s.scope name.name) subset.DefinedTwice name.place name.name t s m).whole w
typedef_of_whole h name (Some (of_open_array t)) s w m = (kept (over_unknown h name s)).whole w
typedef_of_whole h name (Some (of_function f)) s w m = (kept (over_unknown h name s)).whole w
typedef_of_whole h name (Some (of_part_function f)) s w m = (kept (over_unknown h name s)).whole w

pub typedef_whole : (h : Keep) (name : Identifier At) (d : Declarator At) (o : Option DeclaredType) (s : PlainStanding) → IsWholeScope s.scope → IfMade (IsWholeDeclared s.scope.structures) o → IsWholeScope (typedef_passed h name d o s).scope
typedef_whole h name d o s w m =
    let t : PlainStanding = refusing h (declares_function d) subset.BadSpecifier (declarator_place d) s in
    let u : PlainStanding = refusing h (declares_open_array d) subset.IncompleteType name.place t in
    let k : Keeps s u = keeps_on (kept (over_refusing h (declares_function d) subset.BadSpecifier (declarator_place d) s)) (kept (over_refusing h (declares_open_array d) subset.IncompleteType name.place t)) in
    typedef_of_whole h name o u (k.whole w) (made_moves s u k w o m)

-- ## Declarators

by_storage_whole : (h : Keep) (f : Frame) (at : At) (s : Storage) (sensor : Bool) (name : Identifier At) (d : InitDeclarator At) (l : Local) (o : Option DeclaredType) → IsWholeScope l.standing.scope →
    IfMade (IsWholeDeclared l.standing.scope.structures) o → IsWholeScope (by_storage h f at s sensor name d l o).after.standing.scope
by_storage_whole h f at storage_is.Typedef sensor name d l o w m =
    (kept (over_no_initializer h d.initial (typedef_passed h name d.declarator o l.standing))).whole (typedef_whole h name d.declarator o l.standing w m)
by_storage_whole h f at storage_is.Static sensor name d l o w m =
    let t : Passed PlainType = object_in_block h name d o l.standing in
    (keeps_on (kept (over_in_block h name d o l.standing)) (kept (over_object_where h f at name sensor d.initial t.made (with_standing l t.after)))).whole w
by_storage_whole h f at storage_is.Unnamed sensor name d l o w m =
    let t : Passed PlainType = object_in_block h name d o l.standing in
    (keeps_on (kept (over_in_block h name d o l.standing)) (kept (over_variable_where h f at name d.initial t.made (with_standing l t.after)))).whole w
by_storage_whole h f at storage_is.Extern sensor name d l o w m = (kept (over_unknown h name l.standing)).whole w

local_whole : (h : Keep) (f : Frame) (at : At) (s : Storage) (sensor : Bool) (t : Option PlainType) (l : Local) (d : InitDeclarator At) (o : Option (Identifier At)) → IsWholeScope l.standing.scope →
    IfMade (IsWholeType l.standing.scope.structures) t → IsWholeScope (local_named h f at s sensor t l d o).after.standing.scope
local_whole h f at s sensor t l d None w m = w
local_whole h f at s sensor t l d (Some name) w m =
    let j : Passed DeclaredType = declarator_passed h name.place (based t l.standing) d.declarator in
    let k : Keeps l.standing j.after = kept (over_declarator h name.place (based t l.standing) d.declarator) in
    let n : Local = with_standing l j.after in
    let r : PlainStanding = refusing h true subset.BadSpecifier (declarator_place d.declarator) j.after in
    test_either (λ (p : Declaring). IsWholeScope p.after.standing.scope) (is_prototype s d.declarator) (prototype_passed h name d n) (by_storage h f at s sensor name d n j.made)
    (λ e. (keeps_on (kept (over_refusing h true subset.BadSpecifier (declarator_place d.declarator) j.after)) (kept (over_prototype h name d n))).whole (k.whole w))
    (λ e. by_storage_whole h f at s sensor name d n j.made (k.whole w) (declarator_made h name.place (based t l.standing) d.declarator w (based_made l.standing.scope.structures t m)))

declarators_whole : (h : Keep) (f : Frame) (at : At) (s : Storage) (sensor : Bool) (t : Option PlainType) (p : Declaring) (ds : List (InitDeclarator At)) → IsWholeScope p.after.standing.scope →
    IfMade (IsWholeType p.after.standing.scope.structures) t → IsWholeScope (local_declarators h f at s sensor t p ds).after.standing.scope
declarators_whole h f at s sensor t p [] w m = w
declarators_whole h f at s sensor t p (d ∷ rest) w m =
    let q : Declaring = local_named h f at s sensor t p.after d (name_in d.declarator) in
    let ss : List PlainStructure = p.after.standing.scope.structures in
    let ts : List PlainStructure = q.after.standing.scope.structures in
    let more : AreMore ss ts = (built (over_local_named h f at s sensor t p.after d (name_in d.declarator))).more in
    declarators_whole h f at s sensor t (record { items = p.items ++ q.items; after = q.after }) rest (local_whole h f at s sensor t p.after d (name_in d.declarator) w m)
    (made_map (IsWholeType ss) (IsWholeType ts) (λ u x. (types_stay_whole ss ts u w.built.whole more).whole x) t m)

locally_whole : (h : Keep) (f : Frame) (site : Site) (l : Local) (d : Declaration At) → IsWholeScope l.standing.scope → IsWholeScope (declared_locally h f site l d).after.standing.scope
unfolding declared_locally
locally_whole h f site l d w =
    let t : Passed PlainType = specified_in h false site l.standing d in
    declarators_whole h f d.place (storage_of d.specifiers) (makes_sensors d) t.made (no_items (with_standing l t.after)) d.declarators ((kept (over_specified_in h false site l.standing d)).whole w) (specified_in_made h false site l.standing d w)

pub keeps_locally : (h : Keep) (f : Frame) (site : Site) (l : Local) (d : Declaration At) → Keeps l.standing (declared_locally h f site l d).after.standing
keeps_locally h f site l d = record { tables = built (over_locally h f site l d); whole = locally_whole h f site l d }

-- ## Bodies

whole_in_body : (h : Keep) → AreBodySteps h Keeps
whole_in_body h = record { parts = keeping h; declared_in_body = keeps_locally h }

pub keeps_items : (h : Keep) (f : Frame) (in_main : Bool) (r : Round) (b : Block') (all : Statements At) → Keeps b.after.standing (items_done h f in_main r b all).after.standing
keeps_items h f in_main r b all = each_in_body (whole_in_body h) (over_items h f in_main r b all)

pub scopes_stay_whole : ScopesStayWhole
scopes_stay_whole = record {
  specifiers = λ h site allowed alone s all. kept (over_specified h site allowed alone s all);
  declarators = λ h name_at p d. kept (over_declarator h name_at p d);
  initializers = λ h life t s i. kept (over_initialized h life t s i);
  declarations = keeps_locally;
  items = keeps_items;
}
