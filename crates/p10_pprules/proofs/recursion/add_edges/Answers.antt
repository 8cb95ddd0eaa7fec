use Rattle.std.proofs.Common.{◌∙◌, ap, length}
use Rattle.std.proofs.Math.ListN.{length-set}
use Rattle.p10_pprules.proofs.Edging.{edges_more}
use Rattle.p10_pprules.proofs.recursion.add_edges.Goals as goal

pub loop-end-preserved : goal.loop-end-preserved
loop-end-preserved c = edges_more c.args.from c.args.ends.now c.loop-end.end-index 0 c.args.graph.now c.loop-end.graph c.add_edge.new.self c.loop-end-test.true c.loop-end.invariant
    (ap length c.in_ok-add_edge.ensures.ok ∙ length-set _ _ _) c.in_ok-add_edge.ensures.edges
