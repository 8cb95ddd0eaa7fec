use Rattle.p10_graph.proofs.Building.{held_all, row_read}
use Rattle.p10_graph.proofs.graph.Graph.successors.Goals as goal

pub returns-clause-held : goal.returns-clause-held
returns-clause-held c =
    held_all _ c.args.self.now c.args.node _ c.self.view_is c.self.invariant
    (row_read c.self.inside.successors.items c.args.self.now c.args.node c.index.result.now c.as_slice.result.now c.self.view_is c.requires c.index.ensures c.as_slice.ensures.value)
