-- What is wrong with what one node uses.
use Rattle.std.specs.Prelude.{ℕ, nat_eq, nat_lt, if◌then◌else◌, List, [], ◌∷◌, Option, Some, None}
use Rattle.p10_base.specs.declared.codes.SubsetCode.TheVariants as subset
use Rattle.p10_core.specs.declared.uses.FunctionUse.{FunctionUse}
use Rattle.p10_core.specs.declared.uses.ObjectUse.{ObjectUse}
use Rattle.p10_elabx.specs.declared.problem.Problem.{Problem}
use Rattle.p10_program.specs.Undefined.{name_of_call}

-- a call of a function that isn't defined
abbrev pub called_undefined : ℕ → FunctionUse → List Problem
called_undefined functions u = if nat_lt u.function functions then [] else record { code = subset.NotDefined; at = name_of_call u.at u.name } ∷ []

-- a use of an object that isn't defined
abbrev pub object_undefined : ℕ → ObjectUse → List Problem
object_undefined objects u = if nat_lt u.object objects then [] else record { code = subset.NotDefined; at = u.at } ∷ []

-- a use of what isn't defined
abbrev pub use_undefined : ℕ → ℕ → Option FunctionUse → Option ObjectUse → List Problem
use_undefined functions objects (Some u) o = called_undefined functions u
use_undefined functions objects None (Some u) = object_undefined objects u
use_undefined functions objects None None = []

-- a call of `main`
abbrev pub main_called : ℕ → FunctionUse → List Problem
main_called main u = if nat_eq u.function main then record { code = subset.BadMain; at = name_of_call u.at u.name } ∷ [] else []

-- a call of `main`, if it is a call
abbrev pub main_used : ℕ → Option FunctionUse → List Problem
main_used main (Some u) = main_called main u
main_used main None = []
