use Rattle.p10_parse.proofs.Roots.{reading_is_longest}
use Rattle.p10_parse.proofs.laws.reads_longest.Goals as goal

pub returns : goal.returns
returns c = reading_is_longest
