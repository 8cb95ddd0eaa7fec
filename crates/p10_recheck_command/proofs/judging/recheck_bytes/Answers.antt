use Rattle.p10_core.specs.Views.{plain_program}
use Rattle.p10_recheck_command.proofs.Rejudged.{unread_told}
use Rattle.p10_recheck_command.proofs.judging.recheck_bytes.Goals as goal

pub returns-in-Err : goal.returns-in-Err
returns-in-Err c = unread_told (plain_program c.args.program.now) c.args.found.now c.args.new.now c.args.old.now c.read2.result c.in-Err.fault c.unread.result c.read2.ensures c.in-Err.is c.unread.ensures
