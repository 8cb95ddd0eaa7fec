use Rattle.std.proofs.Common.{map}
use Rattle.p10_heads.specs.HeadViews.{plain_head}
use Rattle.p10_heads.proofs.RootHeads.{step_tables}
use Rattle.p10_heads.proofs.numbers.own_tables.Goals as goal

pub loop-root-preserved : goal.loop-root-preserved
loop-root-preserved c = step_tables c.loop-root.root (map plain_head c.args.heads.now) _ _ c.in_ok-put_table.ensures c.loop-root.invariant
