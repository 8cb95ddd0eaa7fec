use Rattle.p10_flowrules.proofs.MemoryEdges.{back_more}
use Rattle.p10_flowrules.proofs.memory.push_back.Goals as goal

pub loop-left-preserved : goal.loop-left-preserved
loop-left-preserved c = back_more c.args.memory c.loop-left.left c.loop-left.edges.items c.push.new.self.items _ c.loop-left-test.true c.loop-left.invariant.0 c.in_ok-push.ensures.items c.loop-left.invariant.1
