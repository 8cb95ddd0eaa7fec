use Rattle.p10_words.specs.Commands.{check_options}
use Rattle.p10_words.proofs.Asked.{check_askable}
use Rattle.p10_words.proofs.parse.check_matches.Goals as goal

pub returns-in-Ok : goal.returns-in-Ok
returns-in-Ok c = c.matches.ensures check_options c.in-Ok.ensures check_askable
