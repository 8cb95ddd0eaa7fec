use Rattle.p10_pprules.proofs.Gathered.{names_more}
use Rattle.p10_pprules.proofs.recursion.macros_of.Goals as goal

pub loop-definition-preserved : goal.loop-definition-preserved
loop-definition-preserved c =
    names_more c.args.definitions.now c.loop-definition.definition-index c.definition-item.result _ _ c.loop-definition-test.true c.definition-item.is c.loop-definition.invariant c.in_ok-add.ensures.ok
