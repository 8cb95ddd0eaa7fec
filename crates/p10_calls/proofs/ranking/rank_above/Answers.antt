use Rattle.p10_calls.proofs.Numbered.{above_more}
use Rattle.p10_calls.proofs.ranking.rank_above.Goals as goal

pub loop-node-preserved : goal.loop-node-preserved
loop-node-preserved c = above_more c.args.ranks.now c.args.nodes.now c.loop-node.node-index c.loop-node.rank c.greater-rank.result c.loop-node-test.true c.loop-node.invariant c.greater-rank.ensures
