-- a line has a byte at least, so fewer lines than bytes were read
use Rattle.std.proofs.Common.{arith}
use Rattle.p10_cert.specs.private.Plain.{plain_line}
use Rattle.p10_cert.specs.private.States.{next_of}
use Rattle.p10_cert.proofs.ReadLines.{line_in_shorter}
use Rattle.p10_cert.proofs.cursor.Cursor.step.Goals as goal

pub overflow_add-after : goal.overflow_add-after
overflow_add-after c = omega (arith, line_in_shorter (next_of c.args.self.next) c.args.self.rest.now (plain_line c.in_ok-line.line) c.in_ok-line.rest.now c.in_ok-line.ensures)

pub returns-clause-shorter : goal.returns-clause-shorter
returns-clause-shorter c = line_in_shorter (next_of c.args.self.next) c.args.self.rest.now (plain_line c.in_ok-line.line) c.in_ok-line.rest.now c.in_ok-line.ensures

pub returns-clause-few : goal.returns-clause-few
returns-clause-few c = omega (arith, line_in_shorter (next_of c.args.self.next) c.args.self.rest.now (plain_line c.in_ok-line.line) c.in_ok-line.rest.now c.in_ok-line.ensures)
