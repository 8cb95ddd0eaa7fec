use Rattle.std.proofs.Common.{drop}
use Rattle.p10_core.specs.Views.{plain_values}
use Rattle.p10_core.specs.Whole.{ArgumentsFit}
use Rattle.p10_whole.specs.private.Surroundings.{surroundings_in, types_of_variables}
use Rattle.p10_whole.proofs.calls.arguments_fit.Given as goal

-- what is left fits, so that all do
abbrev pub invariant-loop-i : goal.invariant-loop-i
invariant-loop-i l =
    ArgumentsFit (surroundings_in l.around) (types_of_variables (drop l.i l.parameters)) (plain_values (drop l.i l.arguments))
    → ArgumentsFit (surroundings_in l.around) (types_of_variables l.parameters) (plain_values l.arguments)
