use Rattle.p10_execution.proofs.KeepingStatements.{statements_keep}
use Rattle.p10_execution.proofs.laws.statements_keep_their_claims.Goals as goal

pub returns : goal.returns
returns c = statements_keep
