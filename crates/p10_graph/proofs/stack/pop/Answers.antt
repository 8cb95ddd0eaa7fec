use Rattle.p10_graph.proofs.Places.{stack_pop}
use Rattle.p10_graph.proofs.stack.pop.Goals as goal

pub returns : goal.returns
returns c = stack_pop c.args.stack.now.items c.pop.new.self.items _ c.pop.result c.args.stack.now.ok.0 c.pop.ensures.items c.pop.ensures.variant.1
