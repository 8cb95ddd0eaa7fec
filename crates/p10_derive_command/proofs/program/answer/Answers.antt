use Rattle.p10_front.specs.Answers.{reading_of}
use Rattle.p10_derive_command.proofs.Deriving.{certified_by, ranked_by, violating_by}
use Rattle.p10_derive_command.proofs.program.answer.Goals as goal

pub in_version-requires-clause-derived : goal.in_version-requires-clause-derived
in_version-requires-clause-derived c = certified_by c.args.reading.now.program c.args.diff c.args.found c.args.ranks c.requires c.in-Certificate.claims c.in-Certificate.is

pub in_version-requires-clause-ranks : goal.in_version-requires-clause-ranks
in_version-requires-clause-ranks c = ranked_by c.args.reading.now.program c.args.diff c.args.found c.args.ranks c.requires c.in-Certificate.claims c.in-Certificate.is

pub returns-in-Violations : goal.returns-in-Violations
returns-in-Violations c = violating_by c.args.reading.now.program c.args.diff c.args.found c.args.ranks c.requires (reading_of c.args.reading.now) c.args.version c.in-Violations.violations c.in-Violations.is
