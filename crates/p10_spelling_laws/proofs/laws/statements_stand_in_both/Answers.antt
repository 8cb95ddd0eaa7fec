use Rattle.p10_spelling_laws.proofs.Both.{both_statements}
use Rattle.p10_spelling_laws.proofs.First.{first_statements}
use Rattle.p10_spelling_laws.proofs.Second.{second_statements}
use Rattle.p10_spelling_laws.proofs.laws.statements_stand_in_both.Goals as goal

pub returns : goal.returns
returns c = λ s n o h t. (both_statements s n o h t, first_statements s n o h t, second_statements s n o h t)
