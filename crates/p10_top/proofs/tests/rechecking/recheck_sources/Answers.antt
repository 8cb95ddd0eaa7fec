use Rattle.p10_command.proofs.Sources.{are_program, whole_program}
use Rattle.p10_top.proofs.tests.rechecking.recheck_sources.Goals as goal

pub recheck_search-requires : goal.recheck_search-requires
recheck_search-requires g c =
    whole_program c.args.sources.now c.in-Program.reading (are_program c.args.sources.now c.in_ok-reading.field-0 c.in-Program.reading c.in-Program.is c.in_ok-reading.ensures)
