use Rattle.std.proofs.Common.{sym, ◌∙◌, ap, option_map, option_copied}
use Rattle.p10_core.specs.Types.{plain_body}
use Rattle.p10_elabx.proofs.KnownSizes.{structure_known}
use Rattle.p10_elabx.proofs.sizes.structure_size.Goals as goal

pub returns-in-Some : goal.returns-in-Some
returns-in-Some c =
    λ k. structure_known _ c.requires k _ (plain_body c.in-Some.body.now) (sym (ap (λ r. option_map plain_body (option_copied r)) c.in-Some.is) ∙ c.body.ensures)
