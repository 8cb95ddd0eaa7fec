use Rattle.p10_acceptance.proofs.Accepting.{derived_texts_accepted}
use Rattle.p10_acceptance.proofs.laws.texts_of_derived_certificates_are_accepted.Goals as goal

pub returns : goal.returns
returns c = derived_texts_accepted
