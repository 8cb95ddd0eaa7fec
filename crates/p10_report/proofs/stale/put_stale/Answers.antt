use Rattle.std.proofs.Common.{arith}
use Rattle.p10_report.specs.Lines.{stale_line}
use Rattle.p10_report.proofs.Stopping.{stops}
use Rattle.p10_report.proofs.stale.put_stale.Goals as goal

pub returns-in_err-put_bytes-clause-stopped : goal.returns-in_err-put_bytes-clause-stopped
unfolding stale_line
returns-in_err-put_bytes-clause-stopped g c = grind (arith, stops)

pub returns-in_err-put_place-clause-stopped : goal.returns-in_err-put_place-clause-stopped
unfolding stale_line
returns-in_err-put_place-clause-stopped g c = grind (arith, stops)

pub returns-clause-stopped : goal.returns-clause-stopped
unfolding stale_line
returns-clause-stopped g c = grind (arith, stops)

pub returns-clause-ok : goal.returns-clause-ok
unfolding stale_line
returns-clause-ok g c = grind (arith, stops)
