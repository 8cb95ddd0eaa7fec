use Rattle.p10_words.specs.Commands.{migrate_options}
use Rattle.p10_words.proofs.Asked.{migrate_askable}
use Rattle.p10_words.proofs.parse.migrate_matches.Goals as goal

pub returns-in-Ok : goal.returns-in-Ok
returns-in-Ok c = c.matches.ensures migrate_options c.in-Ok.ensures migrate_askable
