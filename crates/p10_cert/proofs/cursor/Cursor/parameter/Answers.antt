use Rattle.std.proofs.Common.{ap}
use Rattle.p10_cert.specs.private.Plain.{plain_line}
use Rattle.p10_cert.specs.private.States.{next_of}
use Rattle.p10_cert.specs.private.Places.{is_param}
use Rattle.p10_cert.proofs.Further.{parameter_some}
use Rattle.p10_cert.proofs.cursor.Cursor.parameter.Goals as goal

pub returns-in-Param-clause-goes : goal.returns-in-Param-clause-goes
returns-in-Param-clause-goes c =
    let to = c.in_ok-after.after in
    ((plain_line c.in_ok-after.field-0-0, parameter_some (next_of c.args.self.next) (next_of to.next) c.args.self.rest.now to.rest.now (plain_line c.in_ok-after.field-0-0) c.in_ok-after.ensures.exact (ap (λ s. is_param (next_of s)) c.in-Param.is)), c.in_ok-after.ensures.counted)
