use Rattle.std.proofs.Common.{◌∙◌, ap, sym}
use Rattle.p10_elabs.specs.private.Parts.{both}
use Rattle.p10_elabs.proofs.PieceRows.{clauses_made, clauses_lack}
use Rattle.p10_elabs.proofs.pieces.loop_of.Goals as goal

pub returns-in_ok-made-in-Some : goal.returns-in_ok-made-in-Some
returns-in_ok-made-in-Some c =
    clauses_made c.args.at c.args.head c.args.clauses.0 c.args.clauses.1 c.args.clauses.2 c.args.body _ _ _ _ _
    (sym c.in-Some.is ∙ c.both.ensures ∙ ap (λ m. both m c.args.body) (c.both-most.ensures ∙ ap (λ m. both m c.args.clauses.2) c.both-start.ensures)) c.in_ok-made-in-Some.ensures

pub returns-in-None : goal.returns-in-None
returns-in-None c =
    clauses_lack c.args.at c.args.head c.args.clauses.0 c.args.clauses.1 c.args.clauses.2 c.args.body
    (sym c.in-None.is ∙ c.both.ensures ∙ ap (λ m. both m c.args.body) (c.both-most.ensures ∙ ap (λ m. both m c.args.clauses.2) c.both-start.ensures))
