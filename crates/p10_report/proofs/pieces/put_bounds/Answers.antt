use Rattle.std.proofs.Common.{arith}
use Rattle.p10_report.specs.Lines.{bounds_part}
use Rattle.p10_report.proofs.Stopping.{stops}
use Rattle.p10_report.proofs.pieces.put_bounds.Goals as goal

pub returns-in_err-put_labelled-clause-stopped : goal.returns-in_err-put_labelled-clause-stopped
unfolding bounds_part
returns-in_err-put_labelled-clause-stopped g c = grind (arith, stops)

pub returns-in_err-put_labelled-2-clause-stopped : goal.returns-in_err-put_labelled-2-clause-stopped
unfolding bounds_part
returns-in_err-put_labelled-2-clause-stopped g c = grind (arith, stops)

pub returns-clause-stopped : goal.returns-clause-stopped
unfolding bounds_part
returns-clause-stopped g c = grind (arith, stops)

pub returns-clause-ok : goal.returns-clause-ok
unfolding bounds_part
returns-clause-ok g c = grind (arith, stops)
