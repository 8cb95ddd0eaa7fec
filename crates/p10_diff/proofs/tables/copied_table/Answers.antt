use Rattle.std.proofs.Common.{[], ◌∷◌, ◌++◌, ap, ◌∙◌}
use Rattle.p10_diff.proofs.Lists.{again_next, again_end}
use Rattle.p10_diff.proofs.tables.copied_table.Goals as goal

pub loop-list-preserved : goal.loop-list-preserved
loop-list-preserved c =
    again_next c.args.table.now c.loop-list.all.items c.push.new.self.items _ c.loop-list.list-index c.list-item.result c.loop-list-test.true c.list-item.is c.loop-list.invariant
    (c.in_ok-push.ensures.items ∙ ap (λ z. c.loop-list.all.items ++ (z ∷ [])) (c.of.ensures ∙ c.in_ok-again.ensures ∙ c.as_slice.ensures))

pub returns : goal.returns
returns c = again_end c.args.table.now c.loop-list.all.items _ c.loop-list.list-index c.loop-list-test.false c.loop-list.invariant
