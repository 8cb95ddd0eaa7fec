use Rattle.p10_spelling_laws.proofs.Lexed.{expanded_are_sound}
use Rattle.p10_spelling_laws.proofs.laws.expanded_are_sound.Goals as goal

pub returns : goal.returns
returns c = expanded_are_sound
