use Rattle.p10_recheck_command.proofs.Deciding.{program_rechecked, whole_program}
use Rattle.p10_recheck_command.proofs.decide.recheck_sources.Goals as goal

pub recheck_reading-rechecking-requires : goal.recheck_reading-rechecking-requires
recheck_reading-rechecking-requires c = whole_program c.args.sources.now c.in_ok-reading.field-0 c.in-Program.reading c.in-Program.is c.in_ok-reading.ensures

pub returns-in_ok-rechecking-in-Program : goal.returns-in_ok-rechecking-in-Program
returns-in_ok-rechecking-in-Program c =
    program_rechecked c.args.sources.now c.in_ok-reading.field-0 c.in-Program.reading c.args.new.now c.args.old.now c.in_ok-rechecking-in-Program.field-0 c.in-Program.is c.in_ok-reading.ensures c.in_ok-rechecking-in-Program.ensures
