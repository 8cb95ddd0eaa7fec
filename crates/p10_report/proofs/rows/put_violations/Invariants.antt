use Rattle.std.proofs.Common.{◌≤◌, length}
use Rattle.p10_report.specs.Violations.{violation_lines}
use Rattle.p10_report.specs.private.Counted.{IsCounted}
use Rattle.p10_report.proofs.Written.{Written}
use Rattle.p10_report.proofs.rows.put_violations.Given as goal

abbrev pub decreases-loop-violation : goal.decreases-loop-violation
decreases-loop-violation g l = length l.rest

abbrev pub invariant-loop-violation : goal.invariant-loop-violation
invariant-loop-violation g l = record {
  written : Written (g.O.Sink.taken l.fn.out) (g.O.Sink.taken l.out) (violation_lines l.s l.violations) (violation_lines l.s l.rest);
  count : g.O.Sink.faults l.fn.out ≤ g.O.Sink.faults l.out;
  counted : IsCounted l.s l.counted;
}
