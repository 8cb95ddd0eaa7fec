use Rattle.std.proofs.Common.{arith}
use Rattle.p10_report.specs.Endings.{returned_line}
use Rattle.p10_report.proofs.Stopping.{stops}
use Rattle.p10_report.proofs.endings.put_returned.Goals as goal

pub returns-in_err-put_signed-clause-stopped : goal.returns-in_err-put_signed-clause-stopped
unfolding returned_line
returns-in_err-put_signed-clause-stopped g c = grind (arith, stops)

pub returns-clause-stopped : goal.returns-clause-stopped
unfolding returned_line
returns-clause-stopped g c = grind (arith, stops)

pub returns-clause-ok : goal.returns-clause-ok
unfolding returned_line
returns-clause-ok g c = grind (arith, stops)
