use Rattle.p10_parse.proofs.Roots.{longests_are_one}
use Rattle.p10_parse.proofs.laws.one_longest.Goals as goal

pub returns : goal.returns
returns c = longests_are_one
