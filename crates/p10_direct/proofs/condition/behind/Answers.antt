use Rattle.p10_direct.proofs.Places.{from_next, from_stays}
use Rattle.p10_direct.proofs.condition.behind.Goals as goal

pub returns-then-place-words : goal.returns-then-place-words
returns-then-place-words c = from_next _ _

pub returns-else-place-words : goal.returns-else-place-words
returns-else-place-words c = from_stays _ _ c.if-place-words.false
