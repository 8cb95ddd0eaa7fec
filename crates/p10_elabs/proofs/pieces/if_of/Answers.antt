use Rattle.std.proofs.Common.{◌∙◌, sym}
use Rattle.p10_elabs.proofs.PieceRows.{if_made, if_lacks}
use Rattle.p10_elabs.proofs.pieces.if_of.Goals as goal

pub returns-in_ok-made-in-Some : goal.returns-in_ok-made-in-Some
returns-in_ok-made-in-Some c = if_made c.args.at c.args.test c.args.then _ _ _ (sym c.in-Some.is ∙ c.both.ensures) c.in_ok-made-in-Some.ensures

pub returns-in-None : goal.returns-in-None
returns-in-None c = if_lacks c.args.at c.args.test c.args.then (sym c.in-None.is ∙ c.both.ensures)
