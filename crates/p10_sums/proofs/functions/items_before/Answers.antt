-- The first items, or all of them.
use Rattle.std.proofs.Common.{arith}
use Rattle.p10_sums.proofs.ListedStatements.{take_plain, all_plain}
use Rattle.p10_sums.proofs.functions.items_before.Goals as goal

pub returns-then-place-items : goal.returns-then-place-items
returns-then-place-items c = take_plain c.args.place c.args.items.now

pub returns-else-place-items : goal.returns-else-place-items
returns-else-place-items c = all_plain c.args.place c.args.items.now (omega (arith, c.if-place-items.false))
