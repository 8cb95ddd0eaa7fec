use Rattle.p10_front.specs.Answers.{reading_of}
use Rattle.p10_verify_command.proofs.Weighing.{of_reading}
use Rattle.p10_verify_command.proofs.decide.weigh_reading.Goals as goal

pub returns : goal.returns
returns c =
    of_reading c.args.reading.now.program c.in-Some.program (reading_of c.args.reading.now) c.in_ok-found.found c.args.certificate.now c.args.clean c.weigh_program.result c.in-Some.is c.in_ok-found.ensures.right
    c.weigh_program.ensures
