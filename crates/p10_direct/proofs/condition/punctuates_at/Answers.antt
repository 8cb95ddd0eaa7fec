use Rattle.p10_direct.proofs.Places.{heads_there, heads_end}
use Rattle.p10_direct.proofs.condition.punctuates_at.Goals as goal

pub returns-then-place-words : goal.returns-then-place-words
returns-then-place-words c = heads_there _ _ _ _ _ c.if-place-words.true c.is_punctuator.ensures

pub returns-else-place-words : goal.returns-else-place-words
returns-else-place-words c = heads_end _ _ _ c.if-place-words.false
