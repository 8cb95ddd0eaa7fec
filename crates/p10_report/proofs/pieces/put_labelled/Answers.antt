use Rattle.std.proofs.Common.{arith}
use Rattle.p10_report.specs.Lines.{labelled}
use Rattle.p10_report.proofs.Stopping.{stops}
use Rattle.p10_report.proofs.pieces.put_labelled.Goals as goal

pub returns-in_err-put_bytes-clause-stopped : goal.returns-in_err-put_bytes-clause-stopped
unfolding labelled
returns-in_err-put_bytes-clause-stopped g c = grind (arith, stops)

pub returns-clause-stopped : goal.returns-clause-stopped
unfolding labelled
returns-clause-stopped g c = grind (arith, stops)

pub returns-clause-ok : goal.returns-clause-ok
unfolding labelled
returns-clause-ok g c = grind (arith, stops)
