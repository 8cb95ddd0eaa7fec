-- What is wrong with `main` (C99 5.1.2.2.1).
use Rattle.std.specs.Prelude.{ℕ, nat_eq, if◌then◌else◌, List, [], ◌∷◌, ◌++◌, Option, Some, None}
use Rattle.p10_base.specs.declared.codes.SubsetCode.TheVariants as subset
use Rattle.p10_syn.specs.Places.{nowhere}
use Rattle.p10_core.specs.Typed.{value, call}
use Rattle.p10_core.specs.Nodes.{PlainNode, a_value}
use Rattle.p10_elabx.specs.declared.problem.Problem.{Problem}
use Rattle.p10_program.specs.Undefined.{name_of_call}

-- the calls of `main` among nodes, at its name
abbrev pub calls_of_main : Option ℕ → List PlainNode → List Problem
calls_of_main None nodes = []
calls_of_main (Some main) [] = []
calls_of_main (Some main) (a_value (value at t (call span n arguments)) ∷ rest) =
    (if nat_eq n main then record { code = subset.BadMain; at = name_of_call at span } ∷ [] else []) ++ calls_of_main (Some main) rest
calls_of_main (Some main) (node ∷ rest) = calls_of_main (Some main) rest

-- `main` is missing: it is refused before the first word
abbrev pub missing_main : Option ℕ → List Problem → List Problem
missing_main None [] = record { code = subset.BadMain; at = nowhere } ∷ []
missing_main main problems = problems
