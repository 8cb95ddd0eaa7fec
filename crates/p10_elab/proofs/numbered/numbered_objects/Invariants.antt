-- The objects that were passed stand before those that are left.
use Rattle.std.proofs.Common.{◌≡◌, ◌++◌, List, ℕ, map, length}
use Rattle.std.specs.Vec.Iter.{into_iter_items}
use Rattle.p10_core.specs.declared.program.Extent.{Extent}
use Rattle.p10_core.specs.Views.{plain_types, plain_object}
use Rattle.p10_program.specs.Numbered.{visible_from}
use Rattle.p10_elab.specs.OuterViews.{plain_outer_object}
use Rattle.p10_elab.specs.Programs.{numbered_objects}
use Rattle.p10_elab.proofs.numbered.numbered_objects.Given as goal

abbrev pub invariant-loop-object : goal.invariant-loop-object
invariant-loop-object l = (count : ℕ) (visible : List (ℕ × Extent)) → l.groups ≡ visible_from 0 count visible →
    map (λ b. (b.0, plain_object b.1)) l.all.items ++ numbered_objects (plain_types l.types) visible (map plain_outer_object (into_iter_items l.rest))
    ≡ numbered_objects (plain_types l.types) visible (map plain_outer_object l.fn.objects.items)

abbrev pub decreases-loop-object : goal.decreases-loop-object
decreases-loop-object l = length (into_iter_items l.rest)
