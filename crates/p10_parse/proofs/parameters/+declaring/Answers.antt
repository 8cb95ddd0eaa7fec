use Rattle.std.proofs.Common.{◌≡◌, ◌<◌, ◌≤◌, arith}
use Rattle.p10_parse.proofs.ParameterSteps.{members_go, member_smaller, members_smaller, specifiers_go, specifiers_smaller}
use Rattle.p10_parse.proofs.parameters.+declaring.Goals as goal

pub declare_specifiers-loop-rest-preserved : goal.declare_specifiers-loop-rest-preserved
declare_specifiers-loop-rest-preserved t c = record {
  smaller = specifiers_smaller _ c.first-item.result c.loop-rest.rest.now _ c.in-len1-up.len_at_least c.first-item.is c.loop-rest.invariant.smaller;
  same = specifiers_go _ c.first-item.result c.loop-rest.rest.now _ _ _ c.in-len1-up.len_at_least c.first-item.is c.in_ok-declare_specifier.ensures c.loop-rest.invariant.same;
}

pub declare_members-loop-rest-preserved : goal.declare_members-loop-rest-preserved
declare_members-loop-rest-preserved t c = record {
  smaller = members_smaller _ c.first-item.result c.loop-rest.rest.now _ c.in-len1-up.len_at_least c.first-item.is c.loop-rest.invariant.smaller;
  same = members_go _ c.first-item.result c.loop-rest.rest.now c.as_slice.result.now _ _ _ c.in-len1-up.len_at_least c.first-item.is c.as_slice.ensures.value c.in_ok-declare_specifiers.ensures c.loop-rest.invariant.same;
}

pub declare_members-declare_specifiers-requires : goal.declare_members-declare_specifiers-requires
declare_members-declare_specifiers-requires t c =
    (omega (arith, member_smaller _ c.first-item.result c.loop-rest.rest.now c.as_slice.result.now _ c.in-len1-up.len_at_least c.first-item.is c.as_slice.ensures.value c.loop-rest.invariant.smaller, c.decreases), tt)
