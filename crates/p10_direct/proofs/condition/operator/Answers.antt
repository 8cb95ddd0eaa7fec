use Rattle.std.proofs.Common.{◌∙◌}
use Rattle.p10_direct.proofs.Places.{operator_there, operator_end}
use Rattle.p10_direct.proofs.condition.operator.Goals as goal

pub returns-then-place-words : goal.returns-then-place-words
returns-then-place-words c = c.operator_word.ensures ∙ operator_there _ _ _ _ c.if-place-words.true

pub returns-else-place-words : goal.returns-else-place-words
returns-else-place-words c = operator_end _ _ _ c.if-place-words.false
