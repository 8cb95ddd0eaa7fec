-- The loop is the item of the body of `main` at the place of the task.
use Rattle.std.proofs.Common.{sym, ap}
use Rattle.p10_core.specs.Views.{plain_function, plain_statements}
use Rattle.p10_interp.proofs.ListedStatements.{task_is}
use Rattle.p10_interp.proofs.main_function.task_item.Goals as goal

pub returns-in-Some-task-clause-task : goal.returns-in-Some-task-clause-task
returns-in-Some-task-clause-task c =
    task_is _ _ (plain_function c.in-Some.function.now) c.in-Some-task.place c.as_slice.result.now _ (sym c.in-Some.ensures) c.in-Some-task.is (ap plain_statements (sym c.as_slice.ensures)) c.loop_at.ensures.task
