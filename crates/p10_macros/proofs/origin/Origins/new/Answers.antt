use Rattle.std.proofs.Common.{[]}
use Rattle.p10_macros.proofs.Blocks.{none_below, below_same}
use Rattle.p10_macros.proofs.origin.Origins.new.Goals as goal

pub invariant_of-result : goal.invariant_of-result
invariant_of-result c = record { below = below_same [] _ _ c.new-2.ensures.items (none_below _) }
