-- A body stands after the declarator of a function alone (C99 6.9.1p2): one after another declarator is told, whatever else is refused there.
use Rattle.std.specs.Prelude.{◌≡◌, false, List, Some}
use Rattle.p10_base.specs.declared.at.At.{At}
use Rattle.p10_base.specs.declared.codes.SubsetCode.TheVariants as subset
use Rattle.p10_syn.specs.Trees.{Identifier, Declarator, Definition, External, Defines}
use Rattle.p10_elabx.specs.declared.problem.Problem.{Problem}
use Rattle.p10_elabx.specs.First.{Among, every}
use Rattle.p10_elabx.specs.TypeNames.{declarator_place}
use Rattle.p10_elabd.specs.Shapes.{name_in, declares_function, has_parameters}
use Rattle.p10_heads.specs.Heads.{Heads}
use Rattle.p10_elab.specs.Knowledge.{Known}
use Rattle.p10_elab.specs.Outer.{defined_outside}
use Rattle.p10_elab.specs.Programs.{standing_of}
use Rattle.p10_refusals.specs.InRoots.{StandsIn}

-- a body after a declarator in which no parameters stand
abbrev pub without_parameters_at : Declarator At → Problem
without_parameters_at d = record { code = subset.NoPrototype; at = declarator_place d }

-- a declarator in which no parameters stand is told where a body stands after it, whether or not its type or its lengths are refused; and
-- where parameters stand in one that declares no function, a row on its form is. So it is of all roots
pub record MisplacedBodiesAreTold : Type 0 where
  pub without_parameters : (heads : Heads) (k : Known) (d : Definition At) (name : Identifier At) → name_in d.declarator ≡ Some name →
      has_parameters d.declarator ≡ false → Among (without_parameters_at d.declarator) (defined_outside every heads k d).standing.problems
  pub no_function : (heads : Heads) (k : Known) (d : Definition At) (name : Identifier At) → name_in d.declarator ≡ Some name →
      declares_function d.declarator ≡ false → (r : Problem) × Among r (defined_outside every heads k d).standing.problems
  pub in_roots : (roots before : List (List (External At))) (earlier : List (External At)) (d : Definition At) (name : Identifier At) → StandsIn roots before earlier (Defines d) →
      name_in d.declarator ≡ Some name → has_parameters d.declarator ≡ false → Among (without_parameters_at d.declarator) (standing_of every roots).problems
