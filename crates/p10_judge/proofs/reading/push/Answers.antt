use Rattle.p10_judge.proofs.Keeping.{always}
use Rattle.p10_judge.proofs.reading.push.Goals as goal

pub returns-clause-claims : goal.returns-clause-claims
returns-clause-claims c = always c.push_kept.result _ c.in_ok-push_claim.ensures
