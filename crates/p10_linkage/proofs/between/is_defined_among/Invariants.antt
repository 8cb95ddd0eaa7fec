use Rattle.std.proofs.Common.{◌≡◌, map, drop}
use Rattle.p10_heads.specs.HeadViews.{plain_head}
use Rattle.p10_linkage.specs.Between.{is_defined_before}
use Rattle.p10_linkage.specs.private.Grouping.{rows_at}
use Rattle.p10_linkage.proofs.between.is_defined_among.Given as goal

abbrev pub invariant-loop-place : goal.invariant-loop-place
invariant-loop-place l = is_defined_before (rows_at (drop l.place-index l.before) (map plain_head l.heads)) (plain_head l.head)
    ≡ is_defined_before (rows_at l.before (map plain_head l.heads)) (plain_head l.head)
