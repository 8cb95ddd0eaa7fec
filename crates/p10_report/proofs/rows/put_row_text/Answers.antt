use Rattle.std.proofs.Common.{arith}
use Rattle.p10_report.specs.Violations.{row_text_part}
use Rattle.p10_report.proofs.Stopping.{stops}
use Rattle.p10_report.proofs.rows.put_row_text.Goals as goal

pub returns-in_err-put_bytes-clause-stopped : goal.returns-in_err-put_bytes-clause-stopped
unfolding row_text_part
returns-in_err-put_bytes-clause-stopped g c = grind (arith, stops)

pub returns-in_err-put_bytes-2-clause-stopped : goal.returns-in_err-put_bytes-2-clause-stopped
unfolding row_text_part
returns-in_err-put_bytes-2-clause-stopped g c = grind (arith, stops)

pub returns-clause-stopped : goal.returns-clause-stopped
unfolding row_text_part
returns-clause-stopped g c = grind (arith, stops)

pub returns-clause-ok : goal.returns-clause-ok
unfolding row_text_part
returns-clause-ok g c = grind (arith, stops)
