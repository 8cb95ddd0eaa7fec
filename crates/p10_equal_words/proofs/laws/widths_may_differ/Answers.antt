use Rattle.p10_equal_words.proofs.Completed.{widths_may_differ}
use Rattle.p10_equal_words.proofs.laws.widths_may_differ.Goals as goal

pub returns : goal.returns
returns c = widths_may_differ
