use Rattle.std.proofs.Common.{◌∙◌}
use Rattle.p10_core.specs.Types.{plain_type}
use Rattle.p10_core.specs.Views.{plain_types}
use Rattle.p10_linkage.specs.Compatible.{types_compatible, compatible_within}
use Rattle.p10_linkage.proofs.Comparisons.{told_compared}
use Rattle.p10_linkage.proofs.compatible.is_compatible.Goals as goal

pub returns : goal.returns
returns c =
    told_compared c.in_ok-alike.alike c.compare_types.new.pairs _
    (c.in_ok-alike.ensures ∙ (λ i. types_compatible (compatible_within (c.in_ok-more.ensures i) (plain_types c.args.types.now)) (plain_type c.args.t.now) (plain_type c.args.u.now) (c.new-pairs.ensures.items i)))
