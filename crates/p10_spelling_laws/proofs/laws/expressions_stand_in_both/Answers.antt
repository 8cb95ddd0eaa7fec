use Rattle.p10_spelling_laws.proofs.Both.{both}
use Rattle.p10_spelling_laws.proofs.First.{first}
use Rattle.p10_spelling_laws.proofs.Second.{second}
use Rattle.p10_spelling_laws.proofs.laws.expressions_stand_in_both.Goals as goal

pub returns : goal.returns
returns c = λ s n o h t. (both s n o h t, first s n o h t, second s n o h t)
