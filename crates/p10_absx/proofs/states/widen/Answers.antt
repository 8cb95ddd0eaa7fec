use Rattle.std.proofs.Common.{◌≡◌, ◌<◌, ◌+◌, List, take, length, subst, sym, arith}
use Rattle.p10_absx.specs.declared.changes.Change.{Change}
use Rattle.p10_absx.specs.private.Changes.{replaced_in, widened}
use Rattle.p10_absx.proofs.Changing.{widened_more}
use Rattle.p10_absx.proofs.states.widen.Goals as goal

pub loop-change-preserved : goal.loop-change-preserved
loop-change-preserved c =
    let below : c.loop-change.change-index < length c.args.changes.now = omega arith in
    subst (λ (all : List Change). replaced_in all ≡ widened c.args.env.now.values (replaced_in (take (c.loop-change.change-index + 1) c.args.changes.now))) (sym c.in_ok-push.ensures.items)
    (widened_more c.args.env.now.values c.loop-change.all.items c.args.changes.now c.loop-change.change-index c.change-item.result c.widen_one.result c.loop-change.invariant below c.change-item.is c.widen_one.ensures)
