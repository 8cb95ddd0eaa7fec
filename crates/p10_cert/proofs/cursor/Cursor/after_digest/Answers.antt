use Rattle.std.proofs.Common.{ap, arith}
use Rattle.p10_cert.specs.private.Found.{place_of}
use Rattle.p10_cert.specs.private.Plain.{plain_line}
use Rattle.p10_cert.specs.private.States.{next_of}
use Rattle.p10_cert.proofs.AtPlaces.{wrong_here, digest_leads, begun_here, digest_is_not_over}
use Rattle.p10_cert.proofs.Further.{leads_none}
use Rattle.p10_cert.proofs.cursor.Cursor.after_digest.Goals as goal

pub returns-in-Some : goal.returns-in-Some
returns-in-Some c =
    let found = digest_leads (place_of c.args.self) (place_of c.in-Some.after) (plain_line c.in-Some.field-0-0) _ _ (ap next_of c.in-Digest.is) c.in-Some.ensures.exact c.in-Some.ensures.counted in
    record { leads = found.0; param = found.1; few = c.in-Some.ensures.few; wrong = tt }

pub returns-in-None-clause-wrong : goal.returns-in-None-clause-wrong
returns-in-None-clause-wrong c = wrong_here (place_of c.args.self) c.bad.result.line c.in-None.ensures.exact (digest_is_not_over (next_of c.args.self.next) _ _ (ap next_of c.in-Digest.is)) c.bad.ensures

pub returns-in_default : goal.returns-in_default
returns-in_default c = record { leads = leads_none (place_of c.args.self); param = begun_here c.args.self.next c.requires.begun c.in_default.not-Digest; few = omega arith; wrong = tt }
