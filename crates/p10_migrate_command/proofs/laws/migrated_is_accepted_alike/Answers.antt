use Rattle.p10_migrate_command.proofs.Sealed.{accepted_alike}
use Rattle.p10_migrate_command.proofs.laws.migrated_is_accepted_alike.Goals as goal

pub returns : goal.returns
returns c = accepted_alike c.sealed_says_the_same.ensures c.fit_speaks.ensures
