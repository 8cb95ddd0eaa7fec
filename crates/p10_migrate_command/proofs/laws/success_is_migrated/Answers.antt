use Rattle.p10_migrate_command.proofs.Succeeding.{success}
use Rattle.p10_migrate_command.proofs.laws.success_is_migrated.Goals as goal

pub returns : goal.returns
returns c = success c.sealed_is_a_certificate.ensures c.reading_digests_are_sized.ensures
