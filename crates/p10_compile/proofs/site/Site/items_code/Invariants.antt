-- The code of the items so far, and of those that are left after it.
use Rattle.std.proofs.Common.{◌≡◌, ◌+◌, ◌++◌, length, map, drop}
use Rattle.p10_core.specs.Views.{plain_item}
use Rattle.p10_code.specs.StatementCode.{items_code}
use Rattle.p10_compile.specs.Views.{plain_op, plain_site}
use Rattle.p10_compile.proofs.site.Site.items_code.Given as goal

abbrev pub invariant-loop-item : goal.invariant-loop-item
invariant-loop-item l =
    map plain_op l.code.items ++ items_code (plain_site l.self) l.next (l.at + length (map plain_op l.code.items)) (map plain_item (drop l.item-index l.items))
    ≡ items_code (plain_site l.self) l.slot l.at (map plain_item l.items)
