use Rattle.std.proofs.Common.{◌∙◌, sym}
use Rattle.p10_elabs.proofs.PieceRows.{loop_lacks}
use Rattle.p10_elabs.proofs.pieces.tested_loop.Goals as goal

pub returns-in-None : goal.returns-in-None
returns-in-None c = loop_lacks c.args.at c.args.head c.args.test c.args.body (sym c.in-None.is ∙ c.both.ensures)
