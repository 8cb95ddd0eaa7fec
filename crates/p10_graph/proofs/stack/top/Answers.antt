use Rattle.p10_graph.proofs.Places.{stack_top}
use Rattle.p10_graph.proofs.stack.top.Goals as goal

pub returns : goal.returns
returns c = let same = stack_top c.args.stack.now.items in cc
