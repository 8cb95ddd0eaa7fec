use Rattle.p10_pprules.proofs.Edging.{graph_more}
use Rattle.p10_pprules.proofs.recursion.component_numbers.Goals as goal

pub loop-definition-preserved : goal.loop-definition-preserved
loop-definition-preserved c =
    graph_more c.args.names.now c.args.definitions.now c.loop-definition.definition-index c.definition-item.result _ _ c.loop-definition-test.true c.definition-item.is c.loop-definition.invariant c.in_ok-add_uses.ensures
