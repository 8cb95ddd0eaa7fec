use Rattle.std.proofs.Common.{◌≡◌}
use Rattle.p10_parse.proofs.ParameterSteps.{enumerators_go}
use Rattle.p10_parse.proofs.parameters.declare_enumerators.Goals as goal

pub loop-rest-preserved : goal.loop-rest-preserved
loop-rest-preserved c = enumerators_go _ c.first-item.result c.loop-rest.rest.now _ _ _ c.in-len1-up.len_at_least c.first-item.is c.in_ok-add.ensures.ok c.loop-rest.invariant
