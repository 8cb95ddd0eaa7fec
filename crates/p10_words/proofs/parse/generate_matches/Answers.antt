use Rattle.std.proofs.Common.{[]}
use Rattle.p10_words.proofs.Asked.{none_askable}
use Rattle.p10_words.proofs.parse.generate_matches.Goals as goal

pub returns-in-Ok : goal.returns-in-Ok
returns-in-Ok c = c.matches.ensures [] c.in-Ok.ensures none_askable
