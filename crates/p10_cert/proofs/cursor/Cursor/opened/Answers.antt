use Rattle.std.proofs.Common.{ap, arith}
use Rattle.p10_cert.specs.private.Found.{place_of}
use Rattle.p10_cert.specs.private.Plain.{plain_line}
use Rattle.p10_cert.specs.private.States.{next_of}
use Rattle.p10_cert.proofs.AtPlaces.{wrong_here, opened_first, opened_later, not_first, first_is_not_over}
use Rattle.p10_cert.proofs.cursor.Cursor.opened.Goals as goal

pub returns-in-Some-clause-ok : goal.returns-in-Some-clause-ok
returns-in-Some-clause-ok c = opened_first (place_of c.args.self) (place_of c.in-Some.after) (plain_line c.in-Some.field-0-0) (ap next_of c.in-First.is) c.in-Some.ensures.exact c.in-Some.ensures.counted

pub returns-in-None-clause-err : goal.returns-in-None-clause-err
returns-in-None-clause-err c = wrong_here (place_of c.args.self) c.bad.result.line c.in-None.ensures.exact (first_is_not_over (next_of c.args.self.next) (ap next_of c.in-First.is)) c.bad.ensures

pub returns-in_default : goal.returns-in_default
returns-in_default c = record { ok = opened_later (place_of c.args.self) c.requires.start (not_first c.args.self.next c.in_default.not-First) c.requires.stops; err = tt; few = omega arith }
