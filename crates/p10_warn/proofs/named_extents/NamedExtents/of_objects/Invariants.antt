use Rattle.std.proofs.Common.{◌≡◌, ◌++◌, List, ℕ, map, drop}
use Rattle.p10_core.specs.Views.{plain_object}
use Rattle.p10_warn.specs.private.NamedExtents.{noted_for, extents_named}
use Rattle.p10_warn.proofs.named_extents.NamedExtents.of_objects.Given as goal

-- the extents of the objects so far are noted; with those of the objects that are left they are those of all
abbrev pub invariant-loop-object : goal.invariant-loop-object
invariant-loop-object l = (name : List ℕ) → noted_for l.extents name ++ extents_named (map plain_object (drop l.object-index l.objects)) name ≡ extents_named (map plain_object l.objects) name
