use Rattle.std.proofs.Common.{sym, ◌∙◌, ap}
use Rattle.p10_core.specs.Views.{plain_statements, plain_statement_form}
use Rattle.p10_core.proofs.StatementRows.{plain_block}
use Rattle.p10_finder.specs.private.Looping.{has_loop_form, have_loop}
use Rattle.p10_finder.proofs.looping.+looping.Goals as goal

pub has_loop-returns-in-Block : goal.has_loop-returns-in-Block
has_loop-returns-in-Block t c =
    c.have_loop.ensures ∙ ap (λ all. have_loop (plain_statements all)) c.as_slice.ensures ∙ sym (ap has_loop_form (ap plain_statement_form c.in-Block.is ∙ plain_block c.in-Block.items))
