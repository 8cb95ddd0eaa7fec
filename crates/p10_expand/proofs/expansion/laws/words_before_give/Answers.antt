use Rattle.p10_expand.proofs.Before.{words_before_give}
use Rattle.p10_expand.proofs.expansion.laws.words_before_give.Goals as goal

pub returns : goal.returns
returns c = words_before_give c.front_gives.ensures
