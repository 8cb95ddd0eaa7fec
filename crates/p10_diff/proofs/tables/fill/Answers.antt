use Rattle.std.proofs.Common.{◌∙◌}
use Rattle.p10_diff.proofs.Tabled.{room_next}
use Rattle.p10_diff.proofs.tables.fill.Goals as goal

pub loop-alloc-preserved : goal.loop-alloc-preserved
loop-alloc-preserved c = room_next c.args.table.now.items c.loop-alloc.table.items c.push.new.self.items c.of.result (c.of.ensures ∙ c.new-none.ensures.items) c.in_ok-push.ensures.items c.loop-alloc.invariant
