use Rattle.p10_definition_counts.proofs.Counting.{definitions_counted}
use Rattle.p10_definition_counts.proofs.laws.definitions_counted.Goals as goal

pub returns : goal.returns
returns c = definitions_counted
