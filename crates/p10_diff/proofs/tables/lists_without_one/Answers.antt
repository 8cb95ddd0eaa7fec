use Rattle.std.proofs.Common.{ap, ◌∙◌}
use Rattle.p10_diff.specs.Domain.{only}
use Rattle.p10_diff.specs.Listed.{without_marked}
use Rattle.p10_diff.proofs.Tabled.{mapped_next, mapped_end}
use Rattle.p10_diff.proofs.tables.lists_without_one.Goals as goal

pub loop-list-preserved : goal.loop-list-preserved
loop-list-preserved c =
    mapped_next (without_marked (only c.args.n)) c.args.table.now c.loop-list.left.items c.push.new.self.items _ c.loop-list.list-index c.list-item.result c.of.result
    c.loop-list-test.true c.list-item.is (c.of.ensures ∙ c.in_ok-others.ensures ∙ ap (without_marked (only c.args.n)) c.as_slice.ensures) c.loop-list.invariant c.in_ok-push.ensures.items

pub returns : goal.returns
returns c = mapped_end (without_marked (only c.args.n)) c.args.table.now c.loop-list.left.items _ c.loop-list.list-index c.loop-list-test.false c.loop-list.invariant
