use Rattle.p10_migrate_command.proofs.Deciding.{program_migrated, whole_program}
use Rattle.p10_migrate_command.proofs.decide.migrate_sources.Goals as goal

pub migrate_reading-migration-requires : goal.migrate_reading-migration-requires
migrate_reading-migration-requires c = whole_program c.args.sources.now c.in_ok-reading.field-0 c.in-Program.reading c.in-Program.is c.in_ok-reading.ensures

pub returns-in_ok-migration-in-Program : goal.returns-in_ok-migration-in-Program
returns-in_ok-migration-in-Program c =
    program_migrated c.args.sources.now c.in_ok-reading.field-0 c.in-Program.reading c.args.certificate.now c.in_ok-migration-in-Program.field-0 c.in-Program.is c.in_ok-reading.ensures c.in_ok-migration-in-Program.ensures
