use Rattle.p10_wholeness.proofs.Expressions.{tests_are_whole}
use Rattle.p10_wholeness.proofs.laws.tests_are_whole.Goals as goal

pub returns : goal.returns
returns c = tests_are_whole
