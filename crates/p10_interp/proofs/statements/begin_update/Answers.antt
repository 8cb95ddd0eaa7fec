-- The step pays for the place, before which the work after it was put down.
use Rattle.std.proofs.Common.{◌∷◌, ◌∙◌, ap}
use Rattle.p10_core.specs.Views.{plain_program, plain_place, plain_value}
use Rattle.p10_meaning.specs.Statements.{normal}
use Rattle.p10_interp.specs.private.Tasks.{operate, evaluate_value}
use Rattle.p10_interp.specs.private.Views.{operation_of, tasks_in}
use Rattle.p10_interp.specs.private.Machines.{state_of, rig_of}
use Rattle.p10_interp.proofs.Begun.{sought_paid}
use Rattle.p10_interp.proofs.statements.begin_update.Goals as goal

pub returns : goal.returns
returns c = λ io f calls e.
    sought_paid (plain_program c.args.p.now) (plain_place c.args.place.now) (operate (operation_of c.args.after.0) ∷ (evaluate_value (plain_value c.args.value.now) ∷ (operate (operation_of c.args.after.1) ∷ tasks_in c.args.stacks.now.tasks))) _ c.args.stacks.now.operands f calls
    (state_of c.args.outside.now io) (state_of c.seek.new.outside io) c.seek.result (rig_of normal c.seek.new.stacks) c.if-outside-eq0.false
    (c.in_ok-push-3.ensures.ok ∙ ap (λ k. operate (operation_of c.args.after.0) ∷ k) (c.in_ok-push-2.ensures.ok ∙ ap (λ k. evaluate_value (plain_value c.args.value.now) ∷ k) c.in_ok-push.ensures.ok)) (c.seek.ensures io f calls e)
