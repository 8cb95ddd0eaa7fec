use Rattle.std.proofs.Common.{◌≡◌, drop, None}
use Rattle.p10_diff.specs.Listed.{name_of, found_after}
use Rattle.p10_diff.proofs.listed.found_in.Given as goal

-- what is found in the rest, after what was found, is what the whole gives
abbrev pub invariant-loop-x : goal.invariant-loop-x
invariant-loop-x l = found_after l.last (drop l.x-index l.bounds) (name_of l.u) (name_of l.w) ≡ found_after None l.bounds (name_of l.u) (name_of l.w)
