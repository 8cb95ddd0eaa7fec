-- What was counted of the body, of the items before the task loop, and of a turn.
use Rattle.std.proofs.Common.{sym, ◌∙◌, ap, take}
use Rattle.std.specs.Prelude.{slice_get}
use Rattle.p10_core.specs.Typed.{statements_list, statements_of_list}
use Rattle.p10_core.specs.Views.{plain_function, plain_statements}
use Rattle.p10_meaning.specs.Runs.{task_in}
use Rattle.p10_sums.specs.Sums.{sum_under}
use Rattle.p10_sums.specs.private.Tallies.{counting_by, capped}
use Rattle.p10_sums.specs.private.Walks.{statements_tally}
use Rattle.p10_sums.specs.private.Totals.{capped_sum, turn_tally}
use Rattle.p10_sums.proofs.Frames.{bytes_sum}
use Rattle.p10_sums.proofs.ListedStatements.{statements_listed}
use Rattle.p10_sums.proofs.Finishing.{finished, finished_task}
use Rattle.p10_sums.proofs.functions.sum_under.Goals as goal

pub returns-in-Some : goal.returns-in-Some
returns-in-Some c =
    finished_task (counting_by c.args.basis.now) (plain_function c.args.function.now) c.in-Some.place c.statements_tally-whole.result c.statements_tally-before.result c.turn_tally-turn.result
    c.frame_bytes-frame.result c.plus.result c.plus-in-Some.result c.plus-in-Some-2.result c.plus-in-Some-3.result
    (c.statements_tally-whole.ensures ∙ ap (λ ss. statements_tally (counting_by c.args.basis.now) (plain_statements ss)) c.as_slice-items.ensures)
    (c.frame_bytes-frame.ensures ∙ ap (λ vs. capped (bytes_sum vs)) c.as_slice.ensures)
    (c.statements_tally-before.ensures ∙ (ap (statements_tally (counting_by c.args.basis.now)) c.items_before.ensures ∙
    ap (λ ss. statements_tally (counting_by c.args.basis.now) (statements_of_list (take c.in-Some.place (statements_list (plain_statements ss))))) c.as_slice-items.ensures))
    (c.turn_tally-turn.ensures ∙ (ap (λ xs. turn_tally (counting_by c.args.basis.now) (task_in (slice_get xs c.in-Some.place))) (sym (statements_listed c.as_slice-items.result.now)) ∙
    ap (λ ss. turn_tally (counting_by c.args.basis.now) (task_in (slice_get (statements_list (plain_statements ss)) c.in-Some.place))) c.as_slice-items.ensures))
    c.plus.ensures c.plus-in-Some.ensures c.plus-in-Some-2.ensures c.plus-in-Some-3.ensures
    ∙ ap (λ t. capped_sum (sum_under (counting_by c.args.basis.now) t (plain_function c.args.function.now))) (sym c.in-Some.is)

pub returns-in-None : goal.returns-in-None
returns-in-None c =
    finished (counting_by c.args.basis.now) (plain_function c.args.function.now) c.statements_tally-whole.result
    c.frame_bytes-frame.result c.plus-in-None.result c.plus-in-None-2.result c.plus-in-None-3.result
    (c.statements_tally-whole.ensures ∙ ap (λ ss. statements_tally (counting_by c.args.basis.now) (plain_statements ss)) c.as_slice-items.ensures)
    (c.frame_bytes-frame.ensures ∙ ap (λ vs. capped (bytes_sum vs)) c.as_slice.ensures)
    c.plus-in-None.ensures c.plus-in-None-2.ensures c.plus-in-None-3.ensures
    ∙ ap (λ t. capped_sum (sum_under (counting_by c.args.basis.now) t (plain_function c.args.function.now))) (sym c.in-None.is)
