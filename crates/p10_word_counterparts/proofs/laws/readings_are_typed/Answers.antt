use Rattle.p10_word_counterparts.proofs.Typing.{readings_are_typed}
use Rattle.p10_word_counterparts.proofs.laws.readings_are_typed.Goals as goal

pub returns : goal.returns
returns c = readings_are_typed
