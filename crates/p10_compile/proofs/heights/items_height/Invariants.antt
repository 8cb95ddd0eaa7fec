-- What the items so far need, and what is left needs after them.
use Rattle.std.proofs.Common.{◌≡◌, ◌+◌, max, map, drop}
use Rattle.p10_core.specs.Views.{plain_item}
use Rattle.p10_code.specs.StatementCode.{items_height}
use Rattle.p10_compile.proofs.heights.items_height.Given as goal

abbrev pub invariant-loop-item : goal.invariant-loop-item
invariant-loop-item l = max l.most (l.count + items_height (map plain_item (drop l.item-index l.items))) ≡ items_height (map plain_item l.items)
