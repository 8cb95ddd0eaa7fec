-- What is told of the declarator of a function with a body is told of the whole function.
use Rattle.std.specs.Prelude.{◌≡◌, true, false, ◌++◌, Some, None}
use Rattle.std.specs.List.{Contains}
use Rattle.std.proofs.Common.{sym, subst}
use Rattle.p10_base.specs.declared.at.At.{At}
use Rattle.p10_syn.specs.Trees.{Identifier, Definition}
use Rattle.p10_core.specs.Types.{PlainType}
use Rattle.p10_elabx.specs.declared.problem.Problem.{Problem}
use Rattle.p10_elabx.specs.First.{Among, every}
use Rattle.p10_elabd.specs.Laws.{LengthsAreTold, FormRowsAreTold}
use Rattle.p10_elabd.specs.Standing.{Passed, passed}
use Rattle.p10_elabd.specs.Words.{storage_of}
use Rattle.p10_elabd.specs.declared.site.Site.TheVariants as site_is
use Rattle.p10_elabd.specs.Shapes.{PlainParameter, ListedParameter, FunctionType, PartFunction, DeclaredType, of_function, of_part_function, name_in}
use Rattle.p10_elabd.specs.Declaring.{specified, specifiers_passed, declarator_passed, based}
use Rattle.p10_heads.specs.Heads.{Heads}
use Rattle.p10_elabs.specs.Addresses.{constants_of}
use Rattle.p10_linkage.specs.Linkage.{Linked}
use Rattle.p10_elab.specs.Knowledge.{Known, linked_of, with_linked, with_standing}
use Rattle.p10_elab.specs.Laws.{NamelessParametersAreTold}
use Rattle.p10_elab.specs.Outer.{main_constants, function_type, part_type, listed_names_noted, function_by_type, allowed_at_definition, function_named, defined_outside}
use Rattle.p10_refusals.specs.Bodies.{reached_at_definition, declared_at_definition, nameless_at, DefinitionsAreTold}
use Rattle.p10_refusals.specs.Inside.{IsRowOf, IsInSpecifiers}
use Rattle.p10_elabd.proofs.Growing.{grows_type_specified, grows_declarator}
use Rattle.p10_refusals.proofs.Inside.{specifiers_told, row_told, inside_told}
use Rattle.p10_refusals.proofs.Growing.{grown, grown_outside}
use Rattle.p10_root_steps.proofs.Passing.{over_function, over_after_names}
use Rattle.p10_root_steps.proofs.Parts.{over_linked}

-- ## Functions

definition_told : (heads : Heads) (k : Known) (d : Definition At) (name : Identifier At) (r : Problem) → name_in d.declarator ≡ Some name →
    Among r (declarator_passed every name.place (reached_at_definition k d) d.declarator).after.problems → Among r (defined_outside every heads k d).standing.problems
unfolding defined_outside
definition_told heads k d name r named h =
    let t : Passed PlainType = specified every site_is.OfDefinition (allowed_at_definition d) false k.standing d.specifiers in
    let j : Known = record k { standing = t.after; mains = k.mains ++ main_constants (constants_of d.specifiers) } in
    let p : Passed DeclaredType = declarator_passed every name.place (based t.made t.after) d.declarator in
    subst (λ o. Among r (function_named every heads d j t.made o).standing.problems) (sym named)
    ((grown_outside (over_function every heads (storage_of d.specifiers) d name (with_standing j p.after) p.made)).among r h)

-- from the specifiers to the end of the declarator
specifiers_kept : LengthsAreTold → FormRowsAreTold → (k : Known) (d : Definition At) (name : Identifier At) (r : Problem) →
    IsInSpecifiers site_is.OfDefinition (allowed_at_definition d) false false (passed None k.standing) d.specifiers r →
    Among r (declarator_passed every name.place (reached_at_definition k d) d.declarator).after.problems
specifiers_kept lengths forms k d name r h =
    (grows_declarator name.place (reached_at_definition k d) d.declarator).among r
    ((grows_type_specified d.specifiers (specifiers_passed every site_is.OfDefinition (allowed_at_definition d) false false (passed None k.standing) d.specifiers)).among r
    (specifiers_told lengths forms site_is.OfDefinition (allowed_at_definition d) false false (passed None k.standing) d.specifiers r h))

-- a row on the form of the declarator, or of one of its lengths
pub definition_row_told : LengthsAreTold → FormRowsAreTold → (heads : Heads) (k : Known) (d : Definition At) (name : Identifier At) (r : Problem) → name_in d.declarator ≡ Some name →
    IsRowOf name.place (reached_at_definition k d) d.declarator r → Among r (defined_outside every heads k d).standing.problems
definition_row_told lengths forms heads k d name r named h =
    definition_told heads k d name r named (row_told lengths forms name.place (reached_at_definition k d) d.declarator r h)

-- ## Parameters without a name

nameless_told : NamelessParametersAreTold → (heads : Heads) (k : Known) (d : Definition At) (name : Identifier At) (t : FunctionType) (p : PlainParameter) → name_in d.declarator ≡ Some name →
    declared_at_definition k d name ≡ Some (of_function t) → Contains t.parameters p → p.name ≡ None → Among (nameless_at p.at) (defined_outside every heads k d).standing.problems
unfolding defined_outside
nameless_told nameless heads k d name t p named typed there none =
    let u : Passed PlainType = specified every site_is.OfDefinition (allowed_at_definition d) false k.standing d.specifiers in
    let j : Known = record k { standing = u.after; mains = k.mains ++ main_constants (constants_of d.specifiers) } in
    let q : Passed DeclaredType = declarator_passed every name.place (based u.made u.after) d.declarator in
    let l : Linked = linked_of k name (function_type t) (storage_of d.specifiers) true false in
    let m : Known = with_linked every heads l (with_standing j q.after) in
    subst (λ o. Among (nameless_at p.at) (function_named every heads d j u.made o).standing.problems) (sym named)
    (subst (λ o. Among (nameless_at p.at) (function_by_type every heads (storage_of d.specifiers) d name (with_standing j q.after) o).standing.problems) (sym typed)
    ((grown_outside (over_after_names every heads l t d.body m)).among (nameless_at p.at) (nameless.typed t.parameters p m.standing there none)))

refused_nameless_told : NamelessParametersAreTold → (heads : Heads) (k : Known) (d : Definition At) (name : Identifier At) (t : PartFunction) (p : ListedParameter) → name_in d.declarator ≡ Some name →
    declared_at_definition k d name ≡ Some (of_part_function t) → Contains t.parameters p → p.name ≡ None → Among (nameless_at p.at) (defined_outside every heads k d).standing.problems
unfolding defined_outside
refused_nameless_told nameless heads k d name t p named typed there none =
    let u : Passed PlainType = specified every site_is.OfDefinition (allowed_at_definition d) false k.standing d.specifiers in
    let j : Known = record k { standing = u.after; mains = k.mains ++ main_constants (constants_of d.specifiers) } in
    let q : Passed DeclaredType = declarator_passed every name.place (based u.made u.after) d.declarator in
    let m : Known = with_standing j (listed_names_noted every t.parameters q.after) in
    subst (λ o. Among (nameless_at p.at) (function_named every heads d j u.made o).standing.problems) (sym named)
    (subst (λ o. Among (nameless_at p.at) (function_by_type every heads (storage_of d.specifiers) d name (with_standing j q.after) o).standing.problems) (sym typed)
    ((grown (over_linked every heads (linked_of k name (part_type t) (storage_of d.specifiers) true false) m)).among (nameless_at p.at) (nameless.refused t.parameters p q.after there none)))

pub definitions_told : LengthsAreTold → FormRowsAreTold → NamelessParametersAreTold → DefinitionsAreTold
definitions_told lengths forms nameless = record {
  declarator = definition_told;
  rows = definition_row_told lengths forms;
  inside = λ heads k d name r named h. definition_told heads k d name r named (inside_told lengths forms name.place (reached_at_definition k d) d.declarator r h);
  specifiers = λ heads k d name r named h. definition_told heads k d name r named (specifiers_kept lengths forms k d name r h);
  nameless = nameless_told nameless;
  nameless_refused = refused_nameless_told nameless;
}
