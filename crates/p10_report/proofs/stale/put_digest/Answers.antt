use Rattle.std.proofs.Common.{arith}
use Rattle.p10_report.specs.Lines.{labelled_digest}
use Rattle.p10_report.proofs.Stopping.{stops}
use Rattle.p10_report.proofs.stale.put_digest.Goals as goal

pub returns-in_err-put_bytes-clause-stopped : goal.returns-in_err-put_bytes-clause-stopped
unfolding labelled_digest
returns-in_err-put_bytes-clause-stopped g c = grind (arith, stops)

pub returns-clause-stopped : goal.returns-clause-stopped
unfolding labelled_digest
returns-clause-stopped g c = grind (arith, stops)

pub returns-clause-ok : goal.returns-clause-ok
unfolding labelled_digest
returns-clause-ok g c = grind (arith, stops)
