use Rattle.std.proofs.Common.{arith}
use Rattle.p10_report.specs.Lines.{at_part}
use Rattle.p10_report.proofs.Stopping.{stops}
use Rattle.p10_report.proofs.pieces.put_at.Goals as goal

pub returns-in_err-put_bytes-clause-stopped : goal.returns-in_err-put_bytes-clause-stopped
unfolding at_part
returns-in_err-put_bytes-clause-stopped g c = grind (arith, stops)

pub returns-in_err-put_place-clause-stopped : goal.returns-in_err-put_place-clause-stopped
unfolding at_part
returns-in_err-put_place-clause-stopped g c = grind (arith, stops)

pub returns-clause-stopped : goal.returns-clause-stopped
unfolding at_part
returns-clause-stopped g c = grind (arith, stops)

pub returns-clause-ok : goal.returns-clause-ok
unfolding at_part
returns-clause-ok g c = grind (arith, stops)
