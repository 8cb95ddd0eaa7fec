use Rattle.std.proofs.Common.{◌∙◌, sym}
use Rattle.std.specs.Prelude.{None, Some}
use Rattle.p10_core.specs.Types.{plain_type}
use Rattle.p10_elabx.specs.First.{only_first}
use Rattle.p10_elabd.specs.Views.{plain_standing}
use Rattle.p10_elabs.proofs.FilledArrays.{counted_beyond, counted_fits}
use Rattle.p10_elabs.proofs.locals.counted_array.Goals as goal

pub returns-in-Some : goal.returns-in-Some
returns-in-Some c =
    counted_fits only_first c.args.brackets (plain_standing c.args.standing.now) (plain_type c.args.element) _ c.args.count _ _ _ c.known_size-size.ensures c.is_some-known.ensures c.if-not-known.false c.in_ok-array.ensures (sym c.in-Some.is ∙ c.known_size.ensures)

pub returns-in-None : goal.returns-in-None
returns-in-None c =
    counted_beyond only_first c.args.brackets (plain_standing c.args.standing.now) _ (plain_type c.args.element) _ c.args.count _ _ c.known_size-size.ensures c.is_some-known.ensures c.if-not-known.false c.in_ok-array.ensures (sym c.in-None.is ∙ c.known_size.ensures)
    c.refuse.ensures
