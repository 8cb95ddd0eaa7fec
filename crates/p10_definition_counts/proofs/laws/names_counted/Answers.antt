use Rattle.p10_definition_counts.proofs.Counting.{names_counted}
use Rattle.p10_definition_counts.proofs.laws.names_counted.Goals as goal

pub returns : goal.returns
returns c = names_counted
