use Rattle.p10_place.proofs.Whole.{words_are_counted}
use Rattle.p10_place.proofs.laws.words_are_counted.Goals as goal

pub returns : goal.returns
returns c = words_are_counted
