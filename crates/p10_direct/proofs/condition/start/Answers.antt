use Rattle.std.proofs.Common.{◌∙◌}
use Rattle.p10_direct.proofs.Places.{start_there, start_end}
use Rattle.p10_direct.proofs.condition.start.Goals as goal

pub returns-then-place-words : goal.returns-then-place-words
returns-then-place-words c = c.start_word.ensures ∙ start_there _ _ _ c.if-place-words.true

pub returns-else-place-words : goal.returns-else-place-words
returns-else-place-words c = start_end _ _ c.if-place-words.false
