use Rattle.std.proofs.Common.{◌≡◌, ◌++◌, List, ℕ, map, drop}
use Rattle.p10_core.specs.Views.{plain_object, plain_seen}
use Rattle.p10_warn.specs.private.NamedExtents.{noted_for, extents_named, extents_outside}
use Rattle.p10_warn.proofs.named_extents.NamedExtents.of.Given as goal

-- the extents of the names so far are noted; with those of the names that are left they are those of all
abbrev pub invariant-loop-seen : goal.invariant-loop-seen
invariant-loop-seen l = (name : List ℕ) → noted_for l.extents name ++ extents_outside (map plain_seen (drop l.seen-index l.outside)) name ≡ extents_named (map plain_object l.objects) name ++ extents_outside (map plain_seen l.outside) name
