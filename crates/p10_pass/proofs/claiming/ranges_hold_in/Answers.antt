use Rattle.std.proofs.Common.{map, ap, ◌∙◌}
use Rattle.std.proofs.lemmas.Result.{IfOk-weaker}
use Rattle.p10_core.specs.Views.{plain_variable}
use Rattle.p10_cert.specs.Claims.{var_of}
use Rattle.p10_pass.proofs.Claimed.{held_made}
use Rattle.p10_pass.proofs.claiming.ranges_hold_in.Goals as goal

pub returns : goal.returns
returns c =
    IfOk-weaker _ _ _ (λ b is. held_made c.args.claim.now c.as_slice.result.now (map plain_variable c.args.variables.now) c.args.env.now.values c.in_ok-ranges.ranges.items c.as_slice-2.result.now b
    (ap (map var_of) c.as_slice.ensures.value ∙ c.in_ok-lines.ensures) c.in_ok-ranges.ensures c.as_slice-2.ensures.value is) c.all_lie.ensures
