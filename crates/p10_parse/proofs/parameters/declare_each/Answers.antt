use Rattle.std.proofs.Common.{◌≡◌}
use Rattle.p10_parse.proofs.ParameterSteps.{parameters_go}
use Rattle.p10_parse.proofs.parameters.declare_each.Goals as goal

pub loop-rest-preserved : goal.loop-rest-preserved
loop-rest-preserved c =
    parameters_go _ c.first-item.result c.loop-rest.rest.now c.as_slice.result.now c.as_slice-in-len1-up.result.now _ _ _ _ c.in-len1-up.len_at_least c.first-item.is c.as_slice.ensures.value c.as_slice-in-len1-up.ensures.value
    c.in_ok-declare_specifiers.ensures c.in_ok-declare.ensures.ok c.loop-rest.invariant
