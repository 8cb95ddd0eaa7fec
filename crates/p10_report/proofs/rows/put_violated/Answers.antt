use Rattle.std.proofs.Common.{arith}
use Rattle.p10_report.specs.Violations.{violated_part}
use Rattle.p10_report.proofs.Stopping.{stops}
use Rattle.p10_report.proofs.rows.put_violated.Goals as goal

pub returns-in_err-put_bytes-clause-stopped : goal.returns-in_err-put_bytes-clause-stopped
unfolding violated_part
returns-in_err-put_bytes-clause-stopped g c = grind (arith, stops)

pub returns-in_err-put_row_number-clause-stopped : goal.returns-in_err-put_row_number-clause-stopped
unfolding violated_part
returns-in_err-put_row_number-clause-stopped g c = grind (arith, stops)

pub returns-clause-stopped : goal.returns-clause-stopped
unfolding violated_part
returns-clause-stopped g c = grind (arith, stops)

pub returns-clause-ok : goal.returns-clause-ok
unfolding violated_part
returns-clause-ok g c = grind (arith, stops)
