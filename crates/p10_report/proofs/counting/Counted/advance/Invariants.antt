use Rattle.std.proofs.Common.{◌≡◌, ◌+◌, ◌-◌, ◌≤◌}
use Rattle.p10_base.specs.Places.{column_of, line_of}
use Rattle.p10_report.proofs.counting.Counted.advance.Given as goal

abbrev pub decreases-loop-place : goal.decreases-loop-place
decreases-loop-place l = l.start - l.place

abbrev pub invariant-loop-place : goal.invariant-loop-place
invariant-loop-place l = record {
  line : l.line ≡ line_of l.text l.place;
  column : l.column ≡ column_of l.text l.place;
  line_small : l.line ≤ 1 + l.place;
  column_small : l.column ≤ 1 + l.place;
  within : l.place ≤ l.start;
}
