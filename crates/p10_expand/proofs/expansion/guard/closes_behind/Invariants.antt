use Rattle.std.proofs.Common.{◌≡◌, ◌+◌, ◌≤◌, length, map}
use Rattle.p10_direct.specs.Lines.{piece_of}
use Rattle.p10_direct.specs.Balance.{mark_of}
use Rattle.p10_expand.specs.Guards.{closes_last}
use Rattle.p10_expand.proofs.expansion.guard.closes_behind.Given as goal

-- what is asked of all lines is asked of those that are left
abbrev pub invariant-loop-rest : goal.invariant-loop-rest
invariant-loop-rest l = record {
  few : l.inner + length l.rest ≤ length l.lines;
  same : closes_last l.inner (map mark_of (map piece_of l.rest)) ≡ closes_last 0 (map mark_of (map piece_of l.lines));
}

abbrev pub decreases-loop-rest : goal.decreases-loop-rest
decreases-loop-rest l = length l.rest
