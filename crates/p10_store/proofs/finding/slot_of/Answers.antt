-- The slot with a number has its live object, if there is one.
use Rattle.std.proofs.Common.{sym}
use Rattle.p10_store.proofs.NumberedSlots.{found_at}
use Rattle.p10_store.proofs.finding.slot_of.Goals as goal

pub returns-in-Some : goal.returns-in-Some
returns-in-Some c = found_at _ _ _ _ c.requires.growing c.in-Some.ensures
