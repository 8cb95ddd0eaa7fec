use Rattle.p10_calls.proofs.Edges.{graph_of_is}
use Rattle.p10_calls.proofs.graph.graph_of.Goals as goal

pub returns : goal.returns
returns c = graph_of_is c.args.sites.now c.args.count c.in_ok-edges.edges.items c.as_slice.result.now c.of.result c.in_ok-edges.ensures.value c.as_slice.ensures.value c.of.ensures.count c.of.ensures.edges
