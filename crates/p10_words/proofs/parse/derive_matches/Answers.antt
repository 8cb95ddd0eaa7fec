use Rattle.p10_words.specs.Commands.{derive_options}
use Rattle.p10_words.proofs.Asked.{derive_askable}
use Rattle.p10_words.proofs.parse.derive_matches.Goals as goal

pub returns-in-Ok : goal.returns-in-Ok
returns-in-Ok c = c.matches.ensures derive_options c.in-Ok.ensures derive_askable
