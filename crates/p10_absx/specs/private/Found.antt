-- What the code finds of values: changes of an environment stand for other environments.
use Rattle.std.specs.Prelude.{List, [], ◌∷◌, ◌++◌, Option, Some, None, Vec}
use Rattle.std.specs.Option.{option_map, option_and_then}
use Rattle.std.specs.declared.alloc.Global.{Global}
use Rattle.p10_absx.specs.declared.changes.Change.{Change}
use Rattle.p10_absx.specs.declared.changes.Side.{Side as CodeSide}
use Rattle.p10_absx.specs.declared.compared.Met.{Met}
use Rattle.p10_absx.specs.declared.compared.Met.TheVariants.{Never, Same, Narrowed}
use Rattle.p10_absx.specs.declared.found.Found.{Found}
use Rattle.p10_absx.specs.declared.found.Found.TheVariants.{Scalar, Test}
use Rattle.p10_absx.specs.Abstract.{abstract_of}
use Rattle.p10_absx.specs.Environments.{Environment}
use Rattle.p10_absx.specs.Comparing.{Side}
use Rattle.p10_absx.specs.Assessing.{Assessed, a_scalar, a_test}
use Rattle.p10_absx.specs.private.Changes.{Replaced, replaced_of, replaced_in, applied}

-- the changes that a side has where it lies in an interval too
abbrev pub met_of : Met → Option (List Replaced)
met_of Never = None
met_of Same = Some []
met_of (Narrowed c) = Some (replaced_of c ∷ [])

-- the changes of both sides
abbrev pub both_met : Option (List Replaced) → Option (List Replaced) → Option (List Replaced)
both_met first second = option_and_then (λ xs. option_map (λ ys. xs ++ ys) second) first

-- a side of the code
abbrev pub side_of : CodeSide → Side
side_of s = record { variable = s.variable; value = option_map abstract_of s.value }

-- the environment for which changes stand, if there are any
abbrev pub state_of : Environment → Option (Vec Change Global) → Option Environment
state_of env changes = option_map (λ v. applied (replaced_in v.items) env) changes

-- what the code found
abbrev pub assessed_of : Environment → Found → Assessed
assessed_of env (Scalar integer side) = a_scalar integer (side_of side)
assessed_of env (Test first second) = a_test (state_of env first) (state_of env second)
