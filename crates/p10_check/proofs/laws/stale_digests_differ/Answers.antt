use Rattle.p10_check.proofs.TextVerdicts.{stale_digests_differ}
use Rattle.p10_check.proofs.laws.stale_digests_differ.Goals as goal

pub returns : goal.returns
returns c = stale_digests_differ
