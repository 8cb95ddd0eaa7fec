use Rattle.std.proofs.Common.{◌+◌, ◌*◌}
use Rattle.p10_diff.proofs.rows.+walking.Given as goal

-- a value that is handed on unchanged goes to a function that is lower
abbrev pub decreases-value_ends : goal.decreases-value_ends
decreases-value_ends l = 2 * goal.size-value_ends l + 1

abbrev pub decreases-row_ends : goal.decreases-row_ends
decreases-row_ends l = 2 * goal.size-row_ends l
