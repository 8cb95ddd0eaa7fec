use Rattle.p10_migrate_command.proofs.Judged.{judged_alike}
use Rattle.p10_migrate_command.proofs.laws.migrated_is_judged_alike.Goals as goal

pub returns : goal.returns
returns c = judged_alike c.sealed_is_a_certificate.ensures c.sealed_says_the_same.ensures
