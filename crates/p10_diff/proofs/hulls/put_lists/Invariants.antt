use Rattle.std.proofs.Common.{◌≡◌, drop}
use Rattle.p10_diff.specs.Knowing.{pair_by, differences_of}
use Rattle.p10_diff.specs.Listed.{bounds_listed}
use Rattle.p10_diff.specs.private.Hulls.{hulled, put_lists}
use Rattle.p10_diff.proofs.hulls.put_lists.Given as goal

-- what is left to be put, after what was put, gives what the whole gives
abbrev pub invariant-loop-list : goal.invariant-loop-list
invariant-loop-list l =
    put_lists (hulled (pair_by l.p) (differences_of l.a) (differences_of l.b)) (bounds_listed l.bounds.items) (drop l.list-index l.of) ≡
    put_lists (hulled (pair_by l.p) (differences_of l.a) (differences_of l.b)) (bounds_listed l.initial.bounds.items) l.of
