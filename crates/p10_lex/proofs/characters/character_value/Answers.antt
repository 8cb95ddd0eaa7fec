use Rattle.p10_lex.proofs.LiteralLaws.{character_found, character_none}
use Rattle.p10_lex.proofs.characters.character_value.Goals as goal

pub returns-clause-found : goal.returns-clause-found
returns-clause-found c = character_found _ _ c.read_character.ensures

pub returns-clause-none : goal.returns-clause-none
returns-clause-none c = character_none _ _ c.read_character.ensures
