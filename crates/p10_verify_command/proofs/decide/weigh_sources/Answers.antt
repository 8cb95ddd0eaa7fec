use Rattle.p10_verify_command.proofs.Weighing.{program_weighed, whole_program}
use Rattle.p10_verify_command.proofs.decide.weigh_sources.Goals as goal

pub weigh_reading-answer-requires : goal.weigh_reading-answer-requires
weigh_reading-answer-requires c = whole_program c.args.sources.now c.in_ok-reading.field-0 c.in-Program.reading c.in-Program.is c.in_ok-reading.ensures

pub returns-in_ok-answer-in-Program : goal.returns-in_ok-answer-in-Program
returns-in_ok-answer-in-Program c =
    program_weighed c.args.sources.now c.in_ok-reading.field-0 c.in-Program.reading c.args.certificate.now c.args.clean c.in_ok-answer-in-Program.field-0 c.in-Program.is c.in_ok-reading.ensures
    c.in_ok-answer-in-Program.ensures
