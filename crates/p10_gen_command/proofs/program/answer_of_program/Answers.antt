use Rattle.p10_core.specs.Views.{plain_program}
use Rattle.p10_gen_command.proofs.Showing.{certificate_shown, limit_shown, violations_shown}
use Rattle.p10_gen_command.proofs.program.answer_of_program.Goals as goal

pub returns-in-Certificate : goal.returns-in-Certificate
returns-in-Certificate c = certificate_shown (plain_program c.args.program.now) c.in-Ok.found c.in-Certificate.certificate _ c.in-Certificate.is c.in-Ok.ensures.found c.answer_of_certificate.ensures

pub returns-in-Ok : goal.returns-in-Ok
returns-in-Ok c = violations_shown (plain_program c.args.program.now) c.in-Ok.found c.in-Ok.ensures.found c.in-Violations.field-0 c.in-Violations.is

pub returns-in-Over : goal.returns-in-Over
returns-in-Over c = limit_shown (plain_program c.args.program.now) c.in-Err.fault c.in-Over.limit c.in-Over.is c.in-Err.ensures.fault
