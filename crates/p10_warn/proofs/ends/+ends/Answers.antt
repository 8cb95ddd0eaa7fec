use Rattle.std.proofs.Common.{sym, ◌∙◌, ap}
use Rattle.p10_core.specs.Views.{plain_statements, plain_statement_form}
use Rattle.p10_core.proofs.StatementRows.{plain_block}
use Rattle.p10_warn.specs.Ends.{reaches_end_form, reach_end}
use Rattle.p10_warn.proofs.ends.+ends.Goals as goal

pub reaches_end-returns-in-Block : goal.reaches_end-returns-in-Block
reaches_end-returns-in-Block t c =
    c.reach_end.ensures ∙ ap (λ all. reach_end (plain_statements all)) c.as_slice.ensures ∙ sym (ap reaches_end_form (ap plain_statement_form c.in-Block.is ∙ plain_block c.in-Block.items))
