use Rattle.std.proofs.Common.{arith}
use Rattle.p10_report.specs.Violations.{violation_line}
use Rattle.p10_report.proofs.Stopping.{stops}
use Rattle.p10_report.proofs.rows.put_counted_violation.Goals as goal

pub returns-in_err-put_counted-clause-stopped : goal.returns-in_err-put_counted-clause-stopped
unfolding violation_line
returns-in_err-put_counted-clause-stopped g c = grind (arith, stops)

pub returns-clause-stopped : goal.returns-clause-stopped
unfolding violation_line
returns-clause-stopped g c = grind (arith, stops)

pub returns-clause-ok : goal.returns-clause-ok
unfolding violation_line
returns-clause-ok g c = grind (arith, stops)
