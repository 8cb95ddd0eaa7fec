use Rattle.std.proofs.Common.{arith}
use Rattle.p10_report.specs.Endings.{assertion_failed_line}
use Rattle.p10_report.proofs.Stopping.{stops}
use Rattle.p10_report.proofs.endings.put_assertion_failed.Goals as goal

pub returns-in_err-put_bytes-clause-stopped : goal.returns-in_err-put_bytes-clause-stopped
unfolding assertion_failed_line
returns-in_err-put_bytes-clause-stopped g c = grind (arith, stops)

pub returns-clause-stopped : goal.returns-clause-stopped
unfolding assertion_failed_line
returns-clause-stopped g c = grind (arith, stops)

pub returns-clause-ok : goal.returns-clause-ok
unfolding assertion_failed_line
returns-clause-ok g c = grind (arith, stops)
