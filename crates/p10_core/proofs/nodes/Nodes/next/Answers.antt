use Rattle.p10_core.proofs.Walking.{walks_on}
use Rattle.p10_core.proofs.nodes.Nodes.next.Goals as goal

pub returns-in_ok-open-in-Some-clause-walks : goal.returns-in_ok-open-in-Some-clause-walks
returns-in_ok-open-in-Some-clause-walks c = walks_on _ _ _ _ c.in-Some.ensures.items c.in_ok-open-in-Some.ensures
