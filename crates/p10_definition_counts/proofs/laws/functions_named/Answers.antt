use Rattle.p10_definition_counts.proofs.Naming.{functions_named}
use Rattle.p10_definition_counts.proofs.laws.functions_named.Goals as goal

pub returns : goal.returns
returns c = functions_named
