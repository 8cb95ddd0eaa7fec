use Rattle.std.proofs.Common.{◌≡◌, ℕ, ◌<◌, Some, length, slice_get}
use Rattle.p10_linkage.specs.private.Reaching.{IsWithin, part_of}
use Rattle.p10_linkage.proofs.reaches.reaches_of.Given as goal

abbrev pub invariant-loop-place : goal.invariant-loop-place
invariant-loop-place l = (p n : ℕ) → p < l.place → slice_get l.numbers p ≡ Some n → IsWithin (part_of l.reaches.items n (length l.numbers)) p
