use Rattle.p10_scopes.proofs.Beginning.{begins}
use Rattle.p10_scopes.proofs.Knowing.{passes_know_their_scope}
use Rattle.p10_scopes.proofs.laws.scopes_are_known.Goals as goal

pub returns-clause-begins : goal.returns-clause-begins
returns-clause-begins c = begins

pub returns-clause-passes : goal.returns-clause-passes
returns-clause-passes c = passes_know_their_scope
