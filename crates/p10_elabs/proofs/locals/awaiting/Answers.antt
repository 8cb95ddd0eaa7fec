use Rattle.std.proofs.Common.{false, ◌∙◌}
use Rattle.p10_syn.specs.Built.{identifier_of}
use Rattle.p10_elabx.specs.Scopes.{local}
use Rattle.p10_elabd.specs.Blocks.{with_name}
use Rattle.p10_elabd.specs.Views.{plain_standing}
use Rattle.p10_elabs.proofs.locals.awaiting.Goals as goal

pub returns : goal.returns
returns c =
    c.in_ok-set_name.ensures
    ∙ (λ i. with_name (record (plain_standing c.args.standing.now) { scope = c.in_ok-enter.ensures.ok i }) (identifier_of c.args.name).name (local 0 (c.in_ok-ty.ensures i) false))
