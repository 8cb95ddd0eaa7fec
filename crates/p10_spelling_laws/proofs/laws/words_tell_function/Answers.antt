use Rattle.p10_spelling_laws.proofs.Aligning.{words_tell_function}
use Rattle.p10_spelling_laws.proofs.laws.words_tell_function.Goals as goal

pub returns : goal.returns
returns c = words_tell_function
