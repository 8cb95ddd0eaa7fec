use Rattle.std.proofs.Common.{◌∙◌, ap, arith, length, length-set}
use Rattle.p10_graph.proofs.Building.{edges_all, edges_next}
use Rattle.p10_graph.proofs.graph.Graph.of.Goals as goal

pub loop-edge-preserved : goal.loop-edge-preserved
loop-edge-preserved c = record {
  count = ap length c.in_ok-add_edge.ensures.ok ∙ length-set _ _ _ ∙ c.loop-edge.invariant.count;
  edges = edges_next c.args.edges.now c.loop-edge.edge-index _ c.loop-edge.graph c.add_edge.new.self (omega arith) c.loop-edge.invariant.edges c.in_ok-add_edge.ensures.edges;
}

pub returns-clause-edges : goal.returns-clause-edges
returns-clause-edges c = edges_all c.args.edges.now c.loop-edge.edge-index c.loop-edge.graph (omega arith) c.loop-edge.invariant.edges
