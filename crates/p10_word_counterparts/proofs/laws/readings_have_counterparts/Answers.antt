use Rattle.p10_word_counterparts.proofs.Typing.{readings_have_counterparts}
use Rattle.p10_word_counterparts.proofs.laws.readings_have_counterparts.Goals as goal

pub returns : goal.returns
returns c = readings_have_counterparts
