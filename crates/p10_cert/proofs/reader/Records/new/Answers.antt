use Rattle.std.proofs.Common.{List, None, ap}
use Rattle.p10_cert.specs.Records.{Progress}
use Rattle.p10_cert.specs.Statements.{Entry}
use Rattle.p10_cert.specs.private.States.{next_of}
use Rattle.p10_cert.proofs.Finding.{at_first}
use Rattle.p10_cert.proofs.Giving.{none_given}
use Rattle.p10_cert.proofs.reader.Records.new.Goals as goal

pub invariant_of-result : goal.invariant_of-result
invariant_of-result c = at_first c.args.bytes.now (next_of c.start.result.next) c.start.result.rest.now c.start.result.lines c.start.ensures.next c.start.ensures.rest c.start.ensures.lines

pub returns : goal.returns
returns c =
    let progress : List Entry → Progress = λ given. record { text = c.args.bytes.now; given = given; ending = None } in
    ap progress (none_given c.args.bytes.now c.start.result.lines c.start.ensures.lines)
