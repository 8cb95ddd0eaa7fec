use Rattle.p10_spelling_laws.proofs.Both.{both_declaration}
use Rattle.p10_spelling_laws.proofs.First.{first_declaration}
use Rattle.p10_spelling_laws.proofs.Second.{second_declaration}
use Rattle.p10_spelling_laws.proofs.laws.declarations_stand_in_both.Goals as goal

pub returns : goal.returns
returns c = λ s n o h t. (both_declaration s n o h t, first_declaration s n o h t, second_declaration s n o h t)
