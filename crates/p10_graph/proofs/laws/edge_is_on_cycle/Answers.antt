use Rattle.p10_graph.proofs.Cycles.{edge_law}
use Rattle.p10_graph.proofs.laws.edge_is_on_cycle.Goals as goal

pub returns : goal.returns
returns c = λ g numbers whole are u v edge. edge_law g numbers u v are (whole.held u v edge) edge
