use Rattle.std.proofs.Common.{◌∙◌, ap, sym, option_map}
use Rattle.p10_core.specs.Views.{plain_value, plain_statement}
use Rattle.p10_elabs.specs.Statements.{switch_of}
use Rattle.p10_elabs.specs.private.Parts.{both}
use Rattle.p10_elabs.proofs.PieceRows.{switch_made, switch_lacks}
use Rattle.p10_elabs.proofs.pieces.switch_of.Goals as goal

pub returns-in_ok-made-in-Some : goal.returns-in_ok-made-in-Some
returns-in_ok-made-in-Some c =
    λ l. switch_made c.args.at c.args.keyword c.args.value c.listed.result c.args.labels.otherwise l c.args.body _ _ _ _ _ (sym c.in-Some.is ∙ c.both.ensures ∙ ap (λ m. both m c.args.body) c.both-most.ensures) c.of.ensures c.in_ok-made-in-Some.ensures
    ∙ ap (λ cases. switch_of c.args.at c.args.keyword (option_map plain_value c.args.value) (record { cases = cases; otherwise = c.args.labels.otherwise; after = l }) (option_map plain_statement c.args.body)) c.listed.ensures

pub returns-in-None : goal.returns-in-None
returns-in-None c =
    λ l. switch_lacks c.args.at c.args.keyword c.args.value c.listed.result c.args.labels.otherwise l c.args.body (sym c.in-None.is ∙ c.both.ensures ∙ ap (λ m. both m c.args.body) c.both-most.ensures)
    ∙ ap (λ cases. switch_of c.args.at c.args.keyword (option_map plain_value c.args.value) (record { cases = cases; otherwise = c.args.labels.otherwise; after = l }) (option_map plain_statement c.args.body)) c.listed.ensures
