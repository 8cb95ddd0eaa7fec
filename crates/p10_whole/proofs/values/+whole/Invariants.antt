use Rattle.std.proofs.Common.{drop}
use Rattle.p10_core.specs.Views.{plain_values}
use Rattle.p10_core.specs.Whole.{AreWholeValues}
use Rattle.p10_whole.specs.private.Surroundings.{surroundings_in}
use Rattle.p10_whole.proofs.values.+whole.Given as goal

-- those that are left are whole, so that all are
abbrev pub invariant-are_whole_values-loop-v : goal.invariant-are_whole_values-loop-v
invariant-are_whole_values-loop-v l =
    AreWholeValues (surroundings_in l.around) (plain_values (drop l.v-index l.all)) → AreWholeValues (surroundings_in l.around) (plain_values l.all)
