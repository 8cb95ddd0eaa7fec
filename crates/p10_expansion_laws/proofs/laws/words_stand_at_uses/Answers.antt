use Rattle.p10_expand.proofs.AtUses.{words_stand_at_uses}
use Rattle.p10_expansion_laws.proofs.laws.words_stand_at_uses.Goals as goal

pub returns : goal.returns
returns c = words_stand_at_uses
