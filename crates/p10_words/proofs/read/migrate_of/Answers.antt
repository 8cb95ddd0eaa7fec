use Rattle.p10_words.proofs.Answering.{migrated_given}
use Rattle.p10_words.proofs.read.migrate_of.Goals as goal

pub returns-in-Some : goal.returns-in-Some
returns-in-Some c = migrated_given _ c.args.cert c.in-Some.cert _ c.migrate_with.result c.in-Some.is c.migrate_with.ensures
