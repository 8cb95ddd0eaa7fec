use Rattle.std.proofs.Common.{arith}
use Rattle.p10_report.specs.Lines.{place_text}
use Rattle.p10_report.proofs.Stopping.{stops}
use Rattle.p10_report.proofs.pieces.put_counted.Goals as goal

pub returns-in_err-put_bytes-clause-stopped : goal.returns-in_err-put_bytes-clause-stopped
unfolding place_text
returns-in_err-put_bytes-clause-stopped g c = grind (arith, stops)

pub returns-in_err-put_labelled-clause-stopped : goal.returns-in_err-put_labelled-clause-stopped
unfolding place_text
returns-in_err-put_labelled-clause-stopped g c = grind (arith, stops)

pub returns-clause-stopped : goal.returns-clause-stopped
unfolding place_text
returns-clause-stopped g c = grind (arith, stops)

pub returns-clause-ok : goal.returns-clause-ok
unfolding place_text
returns-clause-ok g c = grind (arith, stops)
