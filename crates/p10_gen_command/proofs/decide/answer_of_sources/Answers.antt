use Rattle.p10_gen_command.proofs.Gathering.{program_right, unread_right}
use Rattle.p10_gen_command.proofs.decide.answer_of_sources.Goals as goal

pub returns-in-Program : goal.returns-in-Program
returns-in-Program c = program_right c.args.sources.now c.in_ok-reading.field-0 c.in-Program.reading _ c.in-Program.is c.in_ok-reading.ensures c.answer_of_reading-answer.ensures

pub returns-in-Unread : goal.returns-in-Unread
returns-in-Unread c = unread_right c.args.sources.now c.in_ok-reading.field-0 c.in-Unread.why c.unread_answer.result c.in-Unread.is c.in_ok-reading.ensures c.unread_answer.ensures
