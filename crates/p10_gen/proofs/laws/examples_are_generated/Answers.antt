use Rattle.p10_gen.proofs.Lines.{examples}
use Rattle.p10_gen.proofs.laws.examples_are_generated.Goals as goal

pub returns : goal.returns
returns c = examples
