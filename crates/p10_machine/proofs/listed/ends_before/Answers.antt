-- There is no item, or it ends later, or before.
use Rattle.std.proofs.Common.{arith}
use Rattle.p10_machine.proofs.Filled.{ahead_none, ahead_some, ends_some}
use Rattle.p10_machine.proofs.listed.ends_before.Goals as goal

pub returns-then-place-items-clause-ahead : goal.returns-then-place-items-clause-ahead
returns-then-place-items-clause-ahead c = λ e. ahead_none c.args.number c.args.items.now c.args.place (omega (arith, c.if-place-items.true))

pub returns-then-number-past_item-clause-ahead : goal.returns-then-number-past_item-clause-ahead
returns-then-number-past_item-clause-ahead c = λ e.
    ahead_some c.args.number c.args.items.now c.args.place c.past_item.result c.index-items-place.result (omega (arith, c.if-place-items.false)) c.index-items-place.is c.if-number-past_item.true c.past_item.ensures

pub returns-clause-there : goal.returns-clause-there
returns-clause-there c = λ e. omega (arith, c.if-place-items.false)

pub returns-clause-ends : goal.returns-clause-ends
returns-clause-ends c = λ e.
    ends_some c.args.number c.args.items.now c.args.place c.past_item.result c.index-items-place.result (omega (arith, c.if-place-items.false)) c.index-items-place.is (omega (arith, c.if-number-past_item.false)) c.past_item.ensures
