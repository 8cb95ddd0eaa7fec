use Rattle.std.proofs.Common.{◌≡◌, ℕ, nat_eq, map, drop}
use Rattle.std.specs.List.{position_from}
use Rattle.indexmap.specs.IndexMap.{get}
use Rattle.p10_heads.specs.HeadViews.{plain_head}
use Rattle.p10_heads.specs.private.Numbering.{stands_at, block_place, or_found}
use Rattle.p10_heads.proofs.block_numbers.block_numbers.Given as goal

abbrev pub invariant-loop-head : goal.invariant-loop-head
invariant-loop-head l =
    (first : ℕ) → or_found (get nat_eq l.table first) (position_from (stands_at first) l.number (map plain_head (drop l.head-index l.heads))) ≡ block_place first (map plain_head l.heads)
