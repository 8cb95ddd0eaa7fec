use Rattle.std.proofs.Common.{arith}
use Rattle.p10_report.specs.Endings.{turns_line}
use Rattle.p10_report.proofs.Stopping.{stops}
use Rattle.p10_report.proofs.endings.put_turns.Goals as goal

pub returns-in_err-put_labelled-clause-stopped : goal.returns-in_err-put_labelled-clause-stopped
unfolding turns_line
returns-in_err-put_labelled-clause-stopped g c = grind (arith, stops)

pub returns-clause-stopped : goal.returns-clause-stopped
unfolding turns_line
returns-clause-stopped g c = grind (arith, stops)

pub returns-clause-ok : goal.returns-clause-ok
unfolding turns_line
returns-clause-ok g c = grind (arith, stops)
