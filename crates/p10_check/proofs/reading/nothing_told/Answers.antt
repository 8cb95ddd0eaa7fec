use Rattle.std.proofs.Common.{refl}
use Rattle.std.specs.Prelude.{slice_get}
use Rattle.p10_check.proofs.Telling.{no_turn}
use Rattle.p10_check.proofs.reading.nothing_told.Goals as goal

pub returns : goal.returns
returns c = λ p digests. record { kept = c.nothing_kept.ensures; turn = no_turn p (slice_get p.functions p.main); stale = refl; unfit = refl }
