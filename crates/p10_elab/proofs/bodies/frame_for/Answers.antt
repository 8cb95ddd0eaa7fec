use Rattle.std.proofs.Common.{◌∙◌}
use Rattle.p10_heads.specs.PlainHeads.{plain_heads}
use Rattle.p10_elab.proofs.bodies.frame_for.Goals as goal

pub returns : goal.returns
returns c =
    let taken = c.in_ok-taken.ensures ∙ c.in_ok-numbers.ensures in
    λ i. record { heads = plain_heads c.args.setting.now.heads.now; taken = taken i; number = c.args.head.now.number; result = c.in_ok-result.ensures i }
