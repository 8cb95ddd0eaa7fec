use Rattle.std.proofs.Common.{◌≡◌, ℕ, ◌+◌, ◌-◌, false, length, slice_index_or}
use Rattle.p10_elab.proofs.sightings.reach.Given as goal

-- as many turns are left as flags are still missing
abbrev pub decreases-loop-flags : goal.decreases-loop-flags
decreases-loop-flags l = l.number + 1 - length l.flags.items

abbrev pub invariant-loop-flags : goal.invariant-loop-flags
invariant-loop-flags l = (n : ℕ) → slice_index_or l.flags.items n false ≡ slice_index_or l.fn.flags.items n false
