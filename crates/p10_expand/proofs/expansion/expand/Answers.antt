use Rattle.p10_expand.proofs.Origins.{all_come}
use Rattle.p10_expand.proofs.Few.{all_few}
use Rattle.p10_expand.proofs.expansion.expand.Goals as goal

pub returns-clause-comes : goal.returns-clause-comes
returns-clause-comes c = all_come c.args.sources.now _ c.expand_roots.ensures.expanded

pub returns-clause-few : goal.returns-clause-few
returns-clause-few c = all_few c.args.sources.now _ c.expand_roots.ensures.expanded
