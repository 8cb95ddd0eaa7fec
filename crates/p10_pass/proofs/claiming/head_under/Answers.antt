use Rattle.std.proofs.Common.{map, ap, ◌∙◌}
use Rattle.p10_core.specs.Views.{plain_variable}
use Rattle.p10_cert.specs.Claims.{var_of}
use Rattle.p10_pass.proofs.Claimed.{head_made}
use Rattle.p10_pass.proofs.claiming.head_under.Goals as goal

pub returns : goal.returns
returns c =
    head_made c.args.claim.now c.as_slice.result.now (map plain_variable c.args.variables.now) c.args.entry.now.values c.in_ok-env.env c.renew_each.new.env c.in_ok-ranges.ranges.items c.as_slice-2.result.now
    (ap (map var_of) c.as_slice.ensures.value ∙ c.in_ok-lines.ensures) c.in_ok-ranges.ensures c.in_ok-env.ensures c.as_slice-2.ensures.value c.in_ok-renew_each.ensures
