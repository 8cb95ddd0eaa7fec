use Rattle.std.proofs.Common.{sym, ◌∙◌, ap}
use Rattle.p10_core.specs.Views.{plain_statements, plain_statement_form}
use Rattle.p10_core.proofs.StatementRows.{plain_block}
use Rattle.p10_warn.specs.Ends.{has_break_form, have_break}
use Rattle.p10_warn.proofs.ends.+breaks.Goals as goal

pub has_break-returns-in-Block : goal.has_break-returns-in-Block
has_break-returns-in-Block t c =
    c.have_break.ensures ∙ ap (λ all. have_break (plain_statements all)) c.as_slice.ensures ∙ sym (ap has_break_form (ap plain_statement_form c.in-Block.is ∙ plain_block c.in-Block.items))
