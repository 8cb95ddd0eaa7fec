use Rattle.p10_lex.proofs.Codes.{refused_code}
use Rattle.p10_lex.proofs.laws.refusals_have_codes.Goals as goal

pub returns : goal.returns
returns c = refused_code
