use Rattle.p10_words.specs.Commands.{verify_options}
use Rattle.p10_words.proofs.Asked.{verify_askable}
use Rattle.p10_words.proofs.parse.verify_matches.Goals as goal

pub returns-in-Ok : goal.returns-in-Ok
returns-in-Ok c = c.matches.ensures verify_options c.in-Ok.ensures verify_askable
