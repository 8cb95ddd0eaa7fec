use Rattle.std.proofs.Common.{◌≡◌, max, map, drop}
use Rattle.p10_heads.specs.HeadViews.{plain_head}
use Rattle.p10_heads.specs.private.Numbering.{roots_in}
use Rattle.p10_heads.proofs.numbers.roots_in.Given as goal

abbrev pub invariant-loop-head : goal.invariant-loop-head
invariant-loop-head l = max l.roots (roots_in (map plain_head (drop l.head-index l.heads))) ≡ roots_in (map plain_head l.heads)
