-- The value is evaluated.
use Rattle.std.proofs.Common.{ap}
use Rattle.p10_core.specs.Views.{plain_program, plain_value}
use Rattle.p10_interp.specs.private.Tasks.{evaluate_value}
use Rattle.p10_interp.specs.private.Views.{value_task}
use Rattle.p10_interp.proofs.TurnedAtOnce.{does_as}
use Rattle.p10_interp.proofs.doing_at_once.value_at_once.Goals as goal

pub returns-in-Evaluate-clause-ok : goal.returns-in-Evaluate-clause-ok
returns-in-Evaluate-clause-ok c =
    does_as (plain_program c.args.p.now) (value_task c.args.step (plain_value c.args.value.now)) (evaluate_value (plain_value c.args.value.now)) c.args.stacks.now c.evaluate_at_once.new.stacks c.args.outside.now c.evaluate_at_once.new.outside c.evaluate_at_once.result (ap (λ step. value_task step (plain_value c.args.value.now)) c.in-Evaluate.is) c.evaluate_at_once.ensures.ok
