-- One half is left.
use Rattle.p10_store.proofs.NumberedSlots.{up_from_middle, down_to_middle}
use Rattle.p10_store.proofs.finding.searched_place.Goals as goal

pub loop-low-preserved-then-found-number-2 : goal.loop-low-preserved-then-found-number-2
loop-low-preserved-then-found-number-2 c =
    up_from_middle _ _ _ _ _ c.requires.growing c.loop-low.invariant c.loop-low-test.true c.if-found-number-2.true

pub loop-low-preserved : goal.loop-low-preserved
loop-low-preserved c =
    down_to_middle _ _ _ _ _ c.requires.growing c.loop-low.invariant c.loop-low-test.true c.if-found-number.false c.if-found-number-2.false
