use Rattle.std.proofs.Common.{drop}
use Rattle.p10_whole.proofs.StaticItems.{AreStatic}
use Rattle.p10_whole.proofs.initializers.are_static_items.Given as goal

-- those that are left are constant, so that all are
abbrev pub invariant-loop-item : goal.invariant-loop-item
invariant-loop-item l = AreStatic (drop l.item-index l.items) → AreStatic l.items
