use Rattle.std.proofs.Common.{◌≡◌, ◌≤◌, length, map, drop}
use Rattle.p10_range.specs.Ranges.{interval_of}
use Rattle.p10_cert.specs.Claims.{var_of}
use Rattle.p10_pass.specs.private.Standing.{with_lines}
use Rattle.p10_pass.proofs.claiming.put_lines.Given as goal

abbrev pub invariant-loop-left : goal.invariant-loop-left
invariant-loop-left l = record {
  within : l.left ≤ length l.lines;
  put : map interval_of l.ranges.items ≡ with_lines (map var_of (drop l.left l.lines)) (map interval_of l.initial.ranges.items);
}

abbrev pub decreases-loop-left : goal.decreases-loop-left
decreases-loop-left l = l.left
