-- The slot with a number is live, or there is no such object.
use Rattle.std.proofs.Common.{sym}
use Rattle.p10_store.proofs.NumberedSlots.{live_at, found_dead, slot_none}
use Rattle.p10_store.proofs.finding.live_place.Goals as goal

pub returns-then-slots-place : goal.returns-then-slots-place
returns-then-slots-place c = live_at _ _ _ _ c.in-Some.ensures c.if-slots-place.true

pub returns-else-slots-place : goal.returns-else-slots-place
returns-else-slots-place c = sym (found_dead _ _ _ _ c.requires.growing c.in-Some.ensures c.if-slots-place.false)

pub returns-in-None : goal.returns-in-None
returns-in-None c = slot_none _ _ c.in-None.ensures
