use Rattle.p10_core.specs.Views.{plain_program}
use Rattle.p10_run_command.proofs.Running.{runs_within}
use Rattle.p10_run_command.proofs.program.run_within.Goals as goal

pub returns-in-Ok-Values-clause-comes : goal.returns-in-Ok-Values-clause-comes
returns-in-Ok-Values-clause-comes g c =
    runs_within (plain_program c.args.program.now) c.args.budget.now c.args.file.now c.in-Ok-Values.field-0 c.in-Ok-Values.values (g.I.Source.left c.args.input.now) (g.I.Source.left c.run-ran.new.input) (g.O.Sink.taken c.args.out.now) _ c.run-ran.result
    c.in-Ok-Values.field-0-is c.in-Ok-Values.ensures c.run-ran.ensures.told c.run-ran.ensures.run c.run-ran.ensures.told_prefix c.run-ran.ensures.prefix
