use Rattle.p10_stop_laws.proofs.Access.{reaches_stop_then, accesses_stop_then}
use Rattle.p10_stop_laws.proofs.laws.accesses_stop_then.Goals as goal

pub returns-clause-reaches : goal.returns-clause-reaches
returns-clause-reaches c = reaches_stop_then

pub returns-clause-accesses : goal.returns-clause-accesses
returns-clause-accesses c = accesses_stop_then
