-- A body keeps the number.
use Rattle.std.proofs.Common.{sym, ◌∙◌, ap, option_map, option_copied, length, false}
use Rattle.p10_core.specs.Types.{plain_body, structure}
use Rattle.p10_core.specs.Sizes.{scalars_of}
use Rattle.p10_core.specs.Views.{plain_types}
use Rattle.p10_store.proofs.ScalarsOfTypes.{kept_scalars, incomplete_scalars}
use Rattle.p10_machine.proofs.widths.structure_width.Goals as goal

pub returns-in-Some : goal.returns-in-Some
returns-in-Some c =
    kept_scalars _ c.requires.structures _ (plain_body c.in-Some.body.now) (sym (ap (λ r. option_map plain_body (option_copied r)) c.in-Some.is) ∙ c.body.ensures) ∙
    ap (λ n. length (scalars_of (plain_types c.args.types.now) (structure false n))) c.representative.ensures

pub returns-in-None : goal.returns-in-None
returns-in-None c =
    incomplete_scalars _ _ (sym (ap (λ r. option_map plain_body (option_copied r)) c.in-None.is) ∙ c.body.ensures) ∙
    ap (λ n. length (scalars_of (plain_types c.args.types.now) (structure false n))) c.representative.ensures
