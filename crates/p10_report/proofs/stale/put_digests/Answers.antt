use Rattle.std.proofs.Common.{arith}
use Rattle.p10_report.specs.Lines.{digests_part}
use Rattle.p10_report.proofs.Stopping.{stops}
use Rattle.p10_report.proofs.stale.put_digests.Goals as goal

pub returns-in_err-put_digest-clause-stopped : goal.returns-in_err-put_digest-clause-stopped
unfolding digests_part
returns-in_err-put_digest-clause-stopped g c = grind (arith, stops)

pub returns-in_err-put_digest-2-clause-stopped : goal.returns-in_err-put_digest-2-clause-stopped
unfolding digests_part
returns-in_err-put_digest-2-clause-stopped g c = grind (arith, stops)

pub returns-clause-stopped : goal.returns-clause-stopped
unfolding digests_part
returns-clause-stopped g c = grind (arith, stops)

pub returns-clause-ok : goal.returns-clause-ok
unfolding digests_part
returns-clause-ok g c = grind (arith, stops)
