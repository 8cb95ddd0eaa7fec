use Rattle.std.proofs.Common.{arith}
use Rattle.p10_report.specs.Violations.{row_number}
use Rattle.p10_report.proofs.Stopping.{stops}
use Rattle.p10_report.proofs.rows.put_row_number.Goals as goal

pub returns-in_err-put_bytes-clause-stopped : goal.returns-in_err-put_bytes-clause-stopped
unfolding row_number
returns-in_err-put_bytes-clause-stopped g c = grind (arith, stops)

pub returns-clause-stopped : goal.returns-clause-stopped
unfolding row_number
returns-clause-stopped g c = grind (arith, stops)

pub returns-clause-ok : goal.returns-clause-ok
unfolding row_number
returns-clause-ok g c = grind (arith, stops)
