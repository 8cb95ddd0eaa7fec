use Rattle.std.proofs.Common.{arith}
use Rattle.p10_sensors.proofs.Digits.{size_of_value, no_negative}
use Rattle.p10_sensors.proofs.numbers.negative.Goals as goal

pub returns-then-number-eq0-clause-none : goal.returns-then-number-eq0-clause-none
returns-then-number-eq0-clause-none c = λ z is e.
    let size = size_of_value z c.in-Some.number c.args.size.now is c.in-Some.ensures.some.0 c.in-Some.ensures.some.1 e in
    omega (arith, size.0, c.if-number-eq0.true)

pub returns-then-number-gt-LARGEST_SIZE-clause-none : goal.returns-then-number-gt-LARGEST_SIZE-clause-none
returns-then-number-gt-LARGEST_SIZE-clause-none c = λ z is e.
    let size = size_of_value z c.in-Some.number c.args.size.now is c.in-Some.ensures.some.0 c.in-Some.ensures.some.1 e in
    omega (arith, size.1, c.if-number-gt-LARGEST_SIZE.true)

pub returns-in-None-clause-none : goal.returns-in-None-clause-none
returns-in-None-clause-none c = no_negative c.args.size.now c.in-None.ensures.none
