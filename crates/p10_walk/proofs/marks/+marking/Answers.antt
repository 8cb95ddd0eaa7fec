use Rattle.std.proofs.Common.{sym, ◌∙◌, ap}
use Rattle.p10_core.specs.Views.{plain_statement, plain_statements}
use Rattle.p10_walk.specs.private.Marking.{marks_statement, marks_form, marks_all}
use Rattle.p10_pass.proofs.ListedForms.{block_form, loop_form}
use Rattle.p10_walk.proofs.marks.+marking.Goals as goal

pub mark_statement-returns-in-Block : goal.mark_statement-returns-in-Block
mark_statement-returns-in-Block t c = c.mark_all.ensures ∙ ap (λ f. marks_form f c.args.marks.now.items) (sym (block_form c.args.s.now.form c.in-Block.items c.as_slice.result.now c.in-Block.is c.as_slice.ensures))

pub mark_statement-returns-in-Loop : goal.mark_statement-returns-in-Loop
mark_statement-returns-in-Loop t c =
    c.mark_statement-in-Loop.ensures ∙ (ap (marks_statement (plain_statement c.deref-in-Loop.result.now)) (c.mark_all-in-Loop-2.ensures ∙ ap (marks_all (plain_statements c.as_slice-in-Loop-2.result.now)) c.mark_all-in-Loop.ensures) ∙
    ap (λ f. marks_form f c.args.marks.now.items)
    (sym (loop_form c.args.s.now.form c.in-Loop.field-0 c.in-Loop.first c.in-Loop.field-2 c.in-Loop.third c.in-Loop.body c.as_slice-in-Loop.result.now c.as_slice-in-Loop-2.result.now c.deref-in-Loop.result.now
    c.in-Loop.is c.as_slice-in-Loop.ensures c.as_slice-in-Loop-2.ensures c.deref-in-Loop.ensures)))
