use Rattle.p10_derive_command.proofs.Succeeding as lemma
use Rattle.p10_derive_command.proofs.laws.one_is_violations.Goals as goal

pub returns : goal.returns
returns c = lemma.one
