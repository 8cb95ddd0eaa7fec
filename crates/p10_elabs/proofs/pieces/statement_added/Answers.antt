use Rattle.std.proofs.Common.{◌∙◌, sym}
use Rattle.p10_elabs.proofs.PieceRows.{item_added, item_lacks}
use Rattle.p10_elabs.proofs.pieces.statement_added.Goals as goal

pub returns-in_ok-push-in-Some : goal.returns-in_ok-push-in-Some
returns-in_ok-push-in-Some c = item_added c.args.items c.args.one _ _ _ (sym c.in-Some.is ∙ c.both.ensures) c.in_ok-push-in-Some.ensures.items

pub returns-in-None : goal.returns-in-None
returns-in-None c = item_lacks c.args.items c.args.one (sym c.in-None.is ∙ c.both.ensures)
