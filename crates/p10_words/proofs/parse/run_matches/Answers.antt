use Rattle.p10_words.specs.Commands.{run_options}
use Rattle.p10_words.proofs.Asked.{run_askable}
use Rattle.p10_words.proofs.parse.run_matches.Goals as goal

pub returns-in-Ok : goal.returns-in-Ok
returns-in-Ok c = c.matches.ensures run_options c.in-Ok.ensures run_askable
