use Rattle.p10_agreement.proofs.Asked.{only_candidates}
use Rattle.p10_agreement.proofs.laws.only_candidates_are_looked_for.Goals as goal

pub returns : goal.returns
returns c = only_candidates
