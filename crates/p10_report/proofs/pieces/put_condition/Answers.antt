use Rattle.std.proofs.Common.{arith}
use Rattle.p10_report.specs.Lines.{condition_part}
use Rattle.p10_report.proofs.Stopping.{stops}
use Rattle.p10_report.proofs.pieces.put_condition.Goals as goal

pub returns-in_err-put_labelled-clause-stopped : goal.returns-in_err-put_labelled-clause-stopped
unfolding condition_part
returns-in_err-put_labelled-clause-stopped g c = grind (arith, stops)

pub returns-clause-stopped : goal.returns-clause-stopped
unfolding condition_part
returns-clause-stopped g c = grind (arith, stops)

pub returns-clause-ok : goal.returns-clause-ok
unfolding condition_part
returns-clause-ok g c = grind (arith, stops)
