use Rattle.p10_diff.proofs.Lawful.{differences_lawful}
use Rattle.p10_diff.proofs.laws.differences_are_lawful.Goals as goal

pub returns : goal.returns
returns c = differences_lawful
