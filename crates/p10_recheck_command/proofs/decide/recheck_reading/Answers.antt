use Rattle.p10_front.specs.Answers.{reading_of}
use Rattle.p10_recheck_command.proofs.Deciding.{of_reading}
use Rattle.p10_recheck_command.proofs.decide.recheck_reading.Goals as goal

pub returns : goal.returns
returns c =
    of_reading c.args.reading.now.program c.in-Some.program (reading_of c.args.reading.now) c.in_ok-found.found c.args.new.now c.args.old.now c.recheck_bytes.result c.in-Some.is c.in_ok-found.ensures.right c.in_ok-found.ensures.each
    c.recheck_bytes.ensures
