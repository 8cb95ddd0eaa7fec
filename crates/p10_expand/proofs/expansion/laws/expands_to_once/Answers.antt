use Rattle.p10_expand.proofs.OneExpansion.{expands_to_once}
use Rattle.p10_expand.proofs.expansion.laws.expands_to_once.Goals as goal

pub returns : goal.returns
returns c = expands_to_once c.one_ending.ensures c.one_cut.ensures c.one_outcome.ensures c.one_condition.ensures
