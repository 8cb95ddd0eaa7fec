use Rattle.std.proofs.Common.{◌≡◌, ◌++◌, [], if◌then◌else◌, bytes_eq, List, ℕ, take}
use Rattle.p10_warn.specs.private.NamedExtents.{noted_for}
use Rattle.p10_warn.proofs.named_extents.NamedExtents.add_all.Given as goal

-- the extents so far are noted
abbrev pub invariant-loop-extent : goal.invariant-loop-extent
invariant-loop-extent l = (other : List ℕ) → noted_for l.self other ≡ noted_for l.initial.self other ++ (if bytes_eq l.name other then take l.extent-index l.all else [])
