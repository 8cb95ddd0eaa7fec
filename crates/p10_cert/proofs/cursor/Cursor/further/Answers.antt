use Rattle.std.proofs.Common.{ap}
use Rattle.p10_cert.specs.private.Plain.{plain_line}
use Rattle.p10_cert.specs.private.States.{next_of}
use Rattle.p10_cert.specs.private.Places.{is_loop}
use Rattle.p10_cert.proofs.Further.{further_some}
use Rattle.p10_cert.proofs.cursor.Cursor.further.Goals as goal

pub returns-in-Loop-clause-goes : goal.returns-in-Loop-clause-goes
returns-in-Loop-clause-goes c =
    let to = c.in_ok-after.after in
    ((plain_line c.in_ok-after.field-0-0, further_some (next_of c.args.self.next) (next_of to.next) c.args.self.rest.now to.rest.now (plain_line c.in_ok-after.field-0-0) c.in_ok-after.ensures.exact (ap (λ s. is_loop (next_of s)) c.in-Loop.is)), c.in_ok-after.ensures.counted)
