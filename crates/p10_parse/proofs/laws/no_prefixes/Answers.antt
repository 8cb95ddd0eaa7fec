use Rattle.p10_parse.proofs.Unique.{externals_are_apart}
use Rattle.p10_parse.proofs.laws.no_prefixes.Goals as goal

pub returns : goal.returns
returns c = externals_are_apart
