use Rattle.std.proofs.Common.{◌+◌, ◌*◌}
use Rattle.p10_diff.proofs.conditions.+assuming.Given as goal

-- a value that is handed on unchanged goes to a function that is lower

abbrev pub decreases-both_outcomes : goal.decreases-both_outcomes
decreases-both_outcomes l = 4 * goal.size-both_outcomes l

abbrev pub decreases-outcomes_after : goal.decreases-outcomes_after
decreases-outcomes_after l = 4 * goal.size-outcomes_after l + 1

abbrev pub decreases-asserted : goal.decreases-asserted
decreases-asserted l = 4 * goal.size-asserted l + 1

abbrev pub decreases-logic : goal.decreases-logic
decreases-logic l = 4 * goal.size-logic l + 2

abbrev pub decreases-called : goal.decreases-called
decreases-called l = 4 * goal.size-called l + 2
