-- The next number is looked at.
use Rattle.std.proofs.Common.{arith}
use Rattle.p10_meaning.specs.Values.{is_denied}
use Rattle.p10_machine.proofs.Requested.{denied_found, denied_passed, none_denied}
use Rattle.p10_machine.proofs.allocating.is_denied.Goals as goal

pub loop-place-preserved : goal.loop-place-preserved
loop-place-preserved c = denied_passed c.args.denied.now c.loop-place.place c.args.number (is_denied c.args.denied.now c.args.number) c.loop-place-test.true c.if-other-number.false c.loop-place.invariant

pub returns-then-other-number : goal.returns-then-other-number
returns-then-other-number c = denied_found c.args.denied.now c.loop-place.place c.args.number (is_denied c.args.denied.now c.args.number) c.loop-place-test.true c.if-other-number.true c.loop-place.invariant

pub returns : goal.returns
returns c = none_denied c.args.denied.now c.loop-place.place c.args.number (is_denied c.args.denied.now c.args.number) (omega (arith, c.loop-place-test.false)) c.loop-place.invariant
