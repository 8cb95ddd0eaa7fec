use Rattle.p10_parse.proofs.Examples.{examples_are_read}
use Rattle.p10_parse.proofs.laws.reads_examples.Goals as goal

pub returns : goal.returns
returns c = examples_are_read
