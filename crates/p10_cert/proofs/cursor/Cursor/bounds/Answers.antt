use Rattle.p10_cert.specs.private.Found.{place_of}
use Rattle.p10_cert.specs.private.States.{next_of}
use Rattle.p10_cert.proofs.AtPlaces.{wrong_here, total_is_not_over}
use Rattle.p10_cert.proofs.cursor.Cursor.bounds.Goals as goal

pub returns-in-None-clause-wrong : goal.returns-in-None-clause-wrong
returns-in-None-clause-wrong c = wrong_here (place_of c.args.self) c.bad.result.line c.in-None.ensures.exact (total_is_not_over (next_of c.args.self.next) c.requires.total) c.bad.ensures
