use Rattle.p10_lex.proofs.LiteralLaws.{string_found, string_none}
use Rattle.p10_lex.proofs.characters.string_bytes.Goals as goal

pub returns-clause-found : goal.returns-clause-found
returns-clause-found c = string_found _ _ c.read_string.ensures

pub returns-clause-none : goal.returns-clause-none
returns-clause-none c = string_none _ _ c.read_string.ensures
