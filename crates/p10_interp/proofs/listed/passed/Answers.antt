-- The next item is passed.
use Rattle.std.proofs.Common.{map}
use Rattle.p10_core.specs.Views.{plain_item}
use Rattle.p10_interp.proofs.Ordered.{list_next}
use Rattle.p10_interp.proofs.listed.passed.Goals as goal

pub loop-next-preserved : goal.loop-next-preserved
loop-next-preserved c =
    list_next c.args.number (map plain_item c.args.listed.items.now) c.args.listed.values.now c.args.listed.ordered c.loop-next.place c.loop-next.used c.in-Some.next.0 c.in-Some.next.1 c.loop-next.invariant c.in-Some.ensures
