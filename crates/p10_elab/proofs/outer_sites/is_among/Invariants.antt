use Rattle.std.proofs.Common.{◌≡◌, map, drop}
use Rattle.p10_heads.specs.HeadViews.{plain_head}
use Rattle.p10_elab.specs.Outer.{is_defined_at}
use Rattle.p10_elab.proofs.outer_sites.is_among.Given as goal

abbrev pub invariant-loop-head : goal.invariant-loop-head
invariant-loop-head l = is_defined_at l.first (map plain_head (drop l.head-index l.objects)) ≡ is_defined_at l.first (map plain_head l.objects)
