use Rattle.p10_front.specs.Answers.{reading_of}
use Rattle.p10_migrate_command.proofs.Deciding.{of_reading, one_each}
use Rattle.p10_migrate_command.proofs.decide.migrate_reading.Goals as goal

pub migrate_bytes-requires : goal.migrate_bytes-requires
migrate_bytes-requires c = one_each c.args.reading.now.program c.in-Some.program c.in_ok-found.found c.in-Some.is c.in_ok-found.ensures.each

pub returns : goal.returns
returns c =
    of_reading c.args.reading.now.program c.in-Some.program (reading_of c.args.reading.now) c.in_ok-found.found c.args.certificate.now c.migrate_bytes.result c.in-Some.is c.in_ok-found.ensures.right c.in_ok-found.ensures.each
    c.migrate_bytes.ensures
