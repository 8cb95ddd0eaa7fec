use Rattle.p10_migrate_command.proofs.Sealed.{stays_the_same}
use Rattle.p10_migrate_command.proofs.laws.migrated_stays_the_same.Goals as goal

pub returns : goal.returns
returns c = stays_the_same c.sealed_is_a_certificate.ensures c.sealed_says_the_same.ensures c.fit_speaks.ensures
