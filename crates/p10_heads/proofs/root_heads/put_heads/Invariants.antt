use Rattle.std.proofs.Common.{◌≡◌, ◌++◌, map, drop}
use Rattle.p10_heads.specs.HeadViews.{plain_head}
use Rattle.p10_heads.specs.HeadViews.{plain_outline}
use Rattle.p10_heads.specs.private.Sites.{plain_sites, heads_among}
use Rattle.p10_heads.proofs.root_heads.put_heads.Given as goal

abbrev pub invariant-loop-o : goal.invariant-loop-o
invariant-loop-o l =
    map plain_head l.into.items ++ heads_among l.functions l.root (plain_sites l.sites) (map plain_outline (drop l.o-index l.all))
    ≡ map plain_head l.fn.into.items ++ heads_among l.functions l.root (plain_sites l.sites) (map plain_outline l.all)
