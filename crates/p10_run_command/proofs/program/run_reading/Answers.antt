use Rattle.p10_core.specs.Views.{plain_program}
use Rattle.p10_front.specs.Answers.{reading_of}
use Rattle.p10_front.specs.Digests.{reading_digests}
use Rattle.p10_run_command.proofs.Granted.{grants_of}
use Rattle.p10_run_command.proofs.Running.{comes_to}
use Rattle.p10_run_command.proofs.program.run_reading.Goals as goal

pub returns-in-Ok-Budget-clause-comes : goal.returns-in-Ok-Budget-clause-comes
returns-in-Ok-Budget-clause-comes g c =
    let digests = (reading_digests (reading_of c.args.reading.now)).funcs in
    comes_to digests c.args.reading.now.program c.in-Some.program c.args.request.now c.in-Ok-Budget.budget (g.I.Source.left c.args.input.now) (g.O.Sink.taken c.args.out.now) _ c.run_within.result
    c.in-Some.is (grants_of digests (plain_program c.in-Some.program) c.args.request.now c.in-Ok-Budget.field-0 c.in-Ok-Budget.budget c.in-Ok-Budget.field-0-is c.in-Ok-Budget.ensures) c.run_within.ensures.comes
