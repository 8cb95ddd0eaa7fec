use Rattle.std.proofs.Common.{map, inr, ap, sym, ◌∙◌}
use Rattle.p10_base.specs.Words.{plain_word}
use Rattle.p10_expand.specs.Conditionals.{Fails}
use Rattle.p10_expand.proofs.expansion.condition.judge_replaced.Goals as goal

pub returns-in-None : goal.returns-in-None
returns-in-None c = λ made same. inr ((λ truth holds. c.in-None.ensures.fails truth (rw (same ∙ ap (map plain_word) (sym c.as_slice.ensures.value)) at holds)), ap Fails c.directive.ensures.value)
