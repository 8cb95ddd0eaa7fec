use Rattle.p10_userules.proofs.SmallPrograms.{file_scopes, block_scopes, results, parameters}
use Rattle.p10_userules.proofs.laws.small_programs_violate.Goals as goal

pub returns-clause-file_scopes : goal.returns-clause-file_scopes
returns-clause-file_scopes c = file_scopes

pub returns-clause-block_scopes : goal.returns-clause-block_scopes
returns-clause-block_scopes c = block_scopes

pub returns-clause-results : goal.returns-clause-results
returns-clause-results c = results

pub returns-clause-parameters : goal.returns-clause-parameters
returns-clause-parameters c = parameters
