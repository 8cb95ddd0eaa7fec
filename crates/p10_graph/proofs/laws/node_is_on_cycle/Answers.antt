use Rattle.p10_graph.proofs.Cycles.{cycle_from, cycle_same}
use Rattle.p10_graph.proofs.laws.node_is_on_cycle.Goals as goal

pub returns : goal.returns
returns c = λ g numbers whole are u.
    (cycle_same g numbers u are (whole.held u), (λ found. cycle_from g numbers u found.0 are (whole.held u found.0 found.1) found.1 found.2))
