use Rattle.p10_words.proofs.Answering.{migrate_done, migrate_without, migrate_lost}
use Rattle.p10_words.proofs.read.migrate.Goals as goal

pub returns-in-Some : goal.returns-in-Some
returns-in-Some c = migrate_done _ c.in-Ok.found _ _ _ c.migrate_of.result c.in-Ok.ensures c.get_str.ensures c.get_str-in-Some.ensures c.in-Some.ensures c.migrate_of.ensures

pub returns-in-Ok : goal.returns-in-Ok
returns-in-Ok c = migrate_without _ c.in-Ok.found c.in-Ok.ensures c.in-None.ensures

pub returns : goal.returns
returns c = migrate_lost _ c.in-Err.fault c.in-Err.ensures
