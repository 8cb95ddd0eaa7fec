use Rattle.std.proofs.Common.{◌≡◌, ◌<◌, ◌≤◌, length, Err, ap, arith}
use Rattle.p10_parse.proofs.Reading.{stuck_here}
use Rattle.p10_parse.proofs.root.next_unit.Goals as goal

pub returns-in-Err-Refused-clause-fault : goal.returns-in-Err-Refused-clause-fault
returns-in-Err-Refused-clause-fault c =
    stuck_here c.args.words.now c.args.scope.now c.args.cursor.now c.in-Some.budget _ _ c.syntax.result (omega (arith, c.in-Some.ensures, c.left-left.ensures)) (c.in-Err-Refused.ensures.refused (ap Err c.in-Err-Refused.field-0-is)) c.requires.some c.requires.within
    c.syntax.ensures.value (omega (arith, c.left-left.ensures))
