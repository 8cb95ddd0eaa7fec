use Rattle.p10_direct.proofs.Places.{nil_there, nil_end}
use Rattle.p10_direct.proofs.condition.ends.Goals as goal

pub returns-then-place-words : goal.returns-then-place-words
returns-then-place-words c = nil_there _ _ c.if-place-words.true

pub returns-else-place-words : goal.returns-else-place-words
returns-else-place-words c = nil_end _ _ c.if-place-words.false
