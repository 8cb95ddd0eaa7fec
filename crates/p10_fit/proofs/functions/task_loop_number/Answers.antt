-- The task loop stands among the items of `main`.
use Rattle.std.proofs.Common.{refl}
use Rattle.p10_core.specs.Views.{plain_function, plain_program}
use Rattle.p10_fit.proofs.Heading.{task_told}
use Rattle.p10_fit.proofs.functions.task_loop_number.Goals as goal

pub returns-in-Some : goal.returns-in-Some
returns-in-Some c =
    task_told (plain_program c.args.program.now) c.args.number (plain_function c.args.function.now) c.as_slice.result.now c.args.function.now.body _ c.loop_number_at.result
    c.if-number-program.false c.in-Some.is c.as_slice.ensures refl c.loop_number_at.ensures
