-- Both pieces of work are on top.
use Rattle.std.proofs.Common.{◌∷◌, sym, ap, ◌∙◌}
use Rattle.p10_core.specs.Views.{plain_statement}
use Rattle.p10_interp.specs.private.Tasks.{execute_statement, end_turn}
use Rattle.p10_interp.specs.private.Views.{tasks_in}
use Rattle.p10_interp.specs.private.OpenCalls.{calls_in}
use Rattle.p10_interp.specs.private.Turning.{rig_at}
use Rattle.p10_interp.proofs.turns_at_once.leave_body.Goals as goal

pub returns-clause-ok : goal.returns-clause-ok
returns-clause-ok c = λ l body ends.
    ap (λ tasks. rig_at tasks c.args.stacks.now.operands (calls_in c.args.stacks.now.calls))
    (c.in_ok-push-2.ensures.ok ∙ (ap (λ tasks. execute_statement (plain_statement c.args.body.now) ∷ tasks) (c.in_ok-push.ensures.ok ∙ ap (λ t. t ∷ tasks_in c.args.stacks.now.tasks) ends) ∙ ap (λ x. execute_statement x ∷ (end_turn l ∷ tasks_in c.args.stacks.now.tasks)) (sym body)))
