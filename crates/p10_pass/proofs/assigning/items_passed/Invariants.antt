use Rattle.std.proofs.Common.{◌≡◌, drop, map}
use Rattle.p10_core.specs.Views.{plain_item}
use Rattle.p10_pass.specs.Passing.{and_then_pass, items_passed}
use Rattle.p10_pass.specs.Leaving.{left_of}
use Rattle.p10_pass.specs.Manners.{manner_by}
use Rattle.p10_pass.proofs.assigning.items_passed.Given as goal

-- what is left, after what was passed, gives what the whole gives
abbrev pub invariant-loop-item : goal.invariant-loop-item
invariant-loop-item l = and_then_pass (left_of l.total) (items_passed (manner_by l.m) (map plain_item (drop l.item-index l.items))) ≡ items_passed (manner_by l.m) (map plain_item l.items) l.fn.env.values
