-- The next item is passed.
use Rattle.p10_machine.proofs.Filled.{passes_one}
use Rattle.p10_machine.proofs.listed.passed.Goals as goal

pub passing-init : goal.passing-init
passing-init c = λ look from h. h

pub passing-preserved : goal.passing-preserved
passing-preserved c = λ look from h.
    passes_one c.args.number c.args.listed.items.now c.passing.place c.passing.slot c.in_ok-slot.slot c.index-items-place.result (c.ends_before.ensures.there c.passing-test.true) c.index-items-place.is c.in_ok-slot.ensures
    (c.ends_before.ensures.ends c.passing-test.true) look from (c.passing.invariant look from h)

pub returns-clause-passed : goal.returns-clause-passed
returns-clause-passed c = λ look from h. c.passing.invariant look from h

pub returns-clause-ahead : goal.returns-clause-ahead
returns-clause-ahead c = c.ends_before.ensures.ahead c.passing-test.false
