use Rattle.p10_migrate_command.proofs.Verified.{verified_alike}
use Rattle.p10_migrate_command.proofs.laws.migrated_is_verified_alike.Goals as goal

pub returns : goal.returns
returns c = verified_alike c.sealed_is_a_certificate.ensures c.sealed_says_the_same.ensures
