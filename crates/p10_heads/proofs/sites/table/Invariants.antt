use Rattle.std.proofs.Common.{◌≡◌, [], map, drop}
use Rattle.p10_bindings.specs.Bound.{bound_in}
use Rattle.p10_heads.specs.HeadViews.{plain_outline}
use Rattle.p10_heads.specs.private.Firsts.{firsts}
use Rattle.p10_heads.specs.private.Sites.{passes, sites_among}
use Rattle.p10_heads.proofs.sites.table.Given as goal

abbrev pub invariant-loop-outline : goal.invariant-loop-outline
invariant-loop-outline l =
    firsts (bound_in l.into) (sites_among (passes l.asked) (map plain_outline (drop l.outline-index l.all)))
    ≡ firsts [] (sites_among (passes l.asked) (map plain_outline l.all))
