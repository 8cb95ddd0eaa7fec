-- What the buffer held stays at its beginning, and it grew by what the reader gave, no more than was taken off the limit.
use Rattle.std.proofs.Common.{◌≡◌, ◌≤◌, ◌+◌, take, vec_len}
use Rattle.p10_world.proofs.Readings.{Appended}
use Rattle.p10_world.proofs.host_files.append_bytes.Given as goal

abbrev pub invariant-loop-left : goal.invariant-loop-left
invariant-loop-left g l =
    (take (vec_len l.fn.into) l.into.items ≡ l.fn.into.items) × (vec_len l.into + l.left ≤ vec_len l.fn.into + l.fn.limit)
    × Appended (g.F.Read.remaining l.fn.file) (g.F.Read.remaining l.file) l.fn.into.items l.into.items l.fn.limit l.left

abbrev pub decreases-loop-left : goal.decreases-loop-left
decreases-loop-left g l = l.left
