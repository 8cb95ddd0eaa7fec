use Rattle.std.proofs.Common.{◌∙◌, ap, sym}
use Rattle.p10_elabs.specs.private.Parts.{both}
use Rattle.p10_elabs.proofs.PieceRows.{if_else_made, if_else_lacks}
use Rattle.p10_elabs.proofs.pieces.if_else_of.Goals as goal

pub returns-in_ok-made-in-Some : goal.returns-in_ok-made-in-Some
returns-in_ok-made-in-Some c =
    if_else_made c.args.at c.args.test c.args.then c.args.otherwise _ _ _ _ (sym c.in-Some.is ∙ c.both.ensures ∙ ap (λ m. both m c.args.otherwise) c.both-most.ensures) c.in_ok-made-in-Some.ensures

pub returns-in-None : goal.returns-in-None
returns-in-None c = if_else_lacks c.args.at c.args.test c.args.then c.args.otherwise (sym c.in-None.is ∙ c.both.ensures ∙ ap (λ m. both m c.args.otherwise) c.both-most.ensures)
