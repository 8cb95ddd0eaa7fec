use Rattle.p10_definition_counts.proofs.Growing.{functions_follow}
use Rattle.p10_definition_counts.proofs.laws.functions_follow.Goals as goal

pub returns : goal.returns
returns c = functions_follow
