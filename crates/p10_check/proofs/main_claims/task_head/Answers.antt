-- The task loop stands among the items of `main`.
use Rattle.std.proofs.Common.{refl}
use Rattle.p10_core.specs.Views.{plain_function, plain_program}
use Rattle.p10_check.proofs.Heads.{head_told}
use Rattle.p10_check.proofs.main_claims.task_head.Goals as goal

pub returns-in-Some : goal.returns-in-Some
returns-in-Some c =
    head_told (plain_program c.args.program.now) c.args.number (plain_function c.args.function.now) c.as_slice.result.now c.args.function.now.body _ c.head_at.result
    c.if-number-program.false c.in-Some.is c.as_slice.ensures refl c.head_at.ensures
