use Rattle.std.proofs.Common.{◌≡◌, ◌+◌, ◌-◌, ◌*◌, ◌≤◌}
use Rattle.p10_direct.specs.private.Climbing.{values, climb, behind_left}
use Rattle.p10_direct.specs.private.Parts.{from, found_of}
use Rattle.p10_direct.proofs.condition.+condition.Given as goal

abbrev pub decreases-read : goal.decreases-read
decreases-read l = 2 * l.budget + 1

abbrev pub decreases-read_operand : goal.decreases-read_operand
decreases-read_operand l = 2 * l.inner + 2

abbrev pub decreases-read_choice : goal.decreases-read_choice
decreases-read_choice l = 2 * l.inner + 2

-- all of the condition is what is read after the left operand
abbrev pub invariant-read-loop-op : goal.invariant-read-loop-op
invariant-read-loop-op l = record {
  shallow : l.left.depth ≤ l.budget;
  so_far : climb values l.budget l.level (from l.fn.place l.words) ≡ behind_left values l.budget l.level (climb values (l.budget - 1)) (found_of l.words l.left);
}

abbrev pub decreases-read-loop-op : goal.decreases-read-loop-op
decreases-read-loop-op l = l.budget - l.left.depth
