use Rattle.std.proofs.Common.{ap, None}
use Rattle.p10_absx.specs.Trails.{Branching}
use Rattle.p10_diff.proofs.ranks.at_head.Goals as goal

pub returns : goal.returns
returns c = λ i. record { ranges = ap (λ (b : Branching). b.values) c.in_ok-copy.ensures i; bounds = c.in_ok-bounds.ensures i; fall = None }
