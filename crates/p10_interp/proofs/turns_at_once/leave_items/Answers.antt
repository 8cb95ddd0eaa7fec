-- The three pieces of work are on top.
use Rattle.std.proofs.Common.{◌∷◌, ap, ◌∙◌}
use Rattle.p10_core.specs.Views.{plain_statements}
use Rattle.p10_interp.specs.private.Tasks.{execute_statements, end_block}
use Rattle.p10_interp.specs.private.Views.{tasks_in}
use Rattle.p10_interp.specs.private.OpenCalls.{calls_in}
use Rattle.p10_interp.specs.private.Turning.{rig_at}
use Rattle.p10_interp.proofs.turns_at_once.leave_items.Goals as goal

pub returns-clause-ok : goal.returns-clause-ok
returns-clause-ok c = λ l ends.
    ap (λ tasks. rig_at tasks c.args.stacks.now.operands (calls_in c.args.stacks.now.calls))
    (c.in_ok-push-3.ensures.ok ∙ ap (λ tasks. execute_statements (plain_statements c.args.items.now) ∷ tasks) (c.in_ok-push-2.ensures.ok ∙ ap (λ tasks. end_block ∷ tasks) (c.in_ok-push.ensures.ok ∙ ap (λ t. t ∷ tasks_in c.args.stacks.now.tasks) ends)))
