use Rattle.p10_words.specs.Commands.{recheck_options}
use Rattle.p10_words.proofs.Asked.{recheck_askable}
use Rattle.p10_words.proofs.parse.recheck_matches.Goals as goal

pub returns-in-Ok : goal.returns-in-Ok
returns-in-Ok c = c.matches.ensures recheck_options c.in-Ok.ensures recheck_askable
