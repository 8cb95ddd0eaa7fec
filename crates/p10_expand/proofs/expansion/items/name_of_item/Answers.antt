use Rattle.std.proofs.Common.{arith}
use Rattle.p10_expand.proofs.ItemLines.{item_of}
use Rattle.p10_expand.proofs.expansion.items.name_of_item.Goals as goal

pub returns : goal.returns
returns c = item_of c.args.line.now c.saturating_sub.result _ c.requires (omega (arith, c.saturating_sub.ensures))
