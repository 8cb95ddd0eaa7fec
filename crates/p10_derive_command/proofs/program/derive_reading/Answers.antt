use Rattle.p10_front.specs.Answers.{reading_of}
use Rattle.p10_derive_command.proofs.Deriving.{found_as, fault_by}
use Rattle.p10_derive_command.proofs.program.derive_reading.Goals as goal

pub answer-requires : goal.answer-requires
answer-requires c = found_as c.args.reading.now.program c.args.diff c.find.result c.in-Ok.ranked c.find.ensures c.in-Ok.is

pub returns-in-Err : goal.returns-in-Err
returns-in-Err c = fault_by c.args.reading.now.program c.args.diff c.find.result c.find.ensures (reading_of c.args.reading.now) c.args.version c.in-Err.fault c.in-Err.is
