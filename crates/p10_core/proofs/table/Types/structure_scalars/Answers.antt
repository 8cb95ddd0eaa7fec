use Rattle.std.proofs.Common.{sym, ◌∙◌, ap, option_map, option_copied}
use Rattle.p10_core.specs.Types.{plain_body}
use Rattle.p10_core.proofs.SizesOfTypes.{kept_scalars, incomplete_scalars}
use Rattle.p10_core.proofs.table.Types.structure_scalars.Goals as goal

pub returns-in-Some : goal.returns-in-Some
returns-in-Some c =
    kept_scalars _ c.args.self.now.built.whole _ (plain_body c.in-Some.body.now) (sym (ap (λ r. option_map plain_body (option_copied r)) c.in-Some.is) ∙ c.body.ensures)

pub returns-in-None : goal.returns-in-None
returns-in-None c = incomplete_scalars _ _ (sym (ap (λ r. option_map plain_body (option_copied r)) c.in-None.is) ∙ c.body.ensures)
