use Rattle.std.proofs.Common.{arith}
use Rattle.p10_report.specs.Lines.{refusal_line}
use Rattle.p10_report.proofs.Stopping.{stops}
use Rattle.p10_report.proofs.put_refusal.Goals as goal

pub returns-in_err-put_place-clause-stopped : goal.returns-in_err-put_place-clause-stopped
unfolding refusal_line
returns-in_err-put_place-clause-stopped g c = grind (arith, stops)

pub returns-in_err-put_refused-clause-stopped : goal.returns-in_err-put_refused-clause-stopped
unfolding refusal_line
returns-in_err-put_refused-clause-stopped g c = grind (arith, stops)

pub returns-clause-stopped : goal.returns-clause-stopped
unfolding refusal_line
returns-clause-stopped g c = grind (arith, stops)

pub returns-clause-ok : goal.returns-clause-ok
unfolding refusal_line
returns-clause-ok g c = grind (arith, stops)
