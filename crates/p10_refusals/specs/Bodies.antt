-- What is told of the declarator of a function with a body is told of the whole function, whatever stands in its body.
use Rattle.std.specs.Prelude.{◌≡◌, false, Option, Some, None}
use Rattle.std.specs.List.{Contains}
use Rattle.p10_base.specs.declared.at.At.{At}
use Rattle.p10_base.specs.declared.codes.SubsetCode.TheVariants as subset
use Rattle.p10_syn.specs.Trees.{Identifier, Definition}
use Rattle.p10_core.specs.Types.{PlainType}
use Rattle.p10_elabx.specs.declared.problem.Problem.{Problem}
use Rattle.p10_elabx.specs.First.{Among, every}
use Rattle.p10_elabd.specs.Standing.{Passed, passed}
use Rattle.p10_elabd.specs.declared.site.Site.TheVariants as site_is
use Rattle.p10_elabd.specs.Shapes.{PlainParameter, ListedParameter, FunctionType, PartFunction, DeclaredType, of_function, of_part_function, name_in}
use Rattle.p10_elabd.specs.Declaring.{specified, based, declarator_passed}
use Rattle.p10_heads.specs.Heads.{Heads}
use Rattle.p10_elab.specs.Knowledge.{Known}
use Rattle.p10_elab.specs.Outer.{allowed_at_definition, defined_outside}
use Rattle.p10_refusals.specs.Inside.{IsRowOf, IsInSpecifiers, IsInDeclarator}

-- where a function with a body comes to its declarator
abbrev pub reached_at_definition : Known → Definition At → Passed DeclaredType
reached_at_definition k d =
    let t : Passed PlainType = specified every site_is.OfDefinition (allowed_at_definition d) false k.standing d.specifiers in
    based t.made t.after

-- what a function with a body declares, up to its declarator
abbrev pub declared_at_definition : Known → Definition At → Identifier At → Option DeclaredType
declared_at_definition k d name = (declarator_passed every name.place (reached_at_definition k d) d.declarator).made

-- a parameter without a name
abbrev pub nameless_at : At → Problem
nameless_at at = record { code = subset.NoPrototype; at = at }

-- what is told of the declarator of a function is told of the function with its body: so is each row on its form, and each of its lengths
-- that is no constant of at least 1 and of which no part is refused; so are those of its parameters, and of members in its specifiers,
-- where it has a name; and each of its parameters without a name is told, also where the result or another parameter is refused (C99 6.9.1p5)
pub record DefinitionsAreTold : Type 0 where
  pub declarator : (heads : Heads) (k : Known) (d : Definition At) (name : Identifier At) (r : Problem) → name_in d.declarator ≡ Some name →
      Among r (declarator_passed every name.place (reached_at_definition k d) d.declarator).after.problems → Among r (defined_outside every heads k d).standing.problems
  pub rows : (heads : Heads) (k : Known) (d : Definition At) (name : Identifier At) (r : Problem) → name_in d.declarator ≡ Some name →
      IsRowOf name.place (reached_at_definition k d) d.declarator r → Among r (defined_outside every heads k d).standing.problems
  pub inside : (heads : Heads) (k : Known) (d : Definition At) (name : Identifier At) (r : Problem) → name_in d.declarator ≡ Some name →
      IsInDeclarator name.place (reached_at_definition k d) d.declarator r → Among r (defined_outside every heads k d).standing.problems
  pub specifiers : (heads : Heads) (k : Known) (d : Definition At) (name : Identifier At) (r : Problem) → name_in d.declarator ≡ Some name →
      IsInSpecifiers site_is.OfDefinition (allowed_at_definition d) false false (passed None k.standing) d.specifiers r → Among r (defined_outside every heads k d).standing.problems
  pub nameless : (heads : Heads) (k : Known) (d : Definition At) (name : Identifier At) (t : FunctionType) (p : PlainParameter) → name_in d.declarator ≡ Some name →
      declared_at_definition k d name ≡ Some (of_function t) → Contains t.parameters p → p.name ≡ None → Among (nameless_at p.at) (defined_outside every heads k d).standing.problems
  pub nameless_refused : (heads : Heads) (k : Known) (d : Definition At) (name : Identifier At) (t : PartFunction) (p : ListedParameter) → name_in d.declarator ≡ Some name →
      declared_at_definition k d name ≡ Some (of_part_function t) → Contains t.parameters p → p.name ≡ None → Among (nameless_at p.at) (defined_outside every heads k d).standing.problems
