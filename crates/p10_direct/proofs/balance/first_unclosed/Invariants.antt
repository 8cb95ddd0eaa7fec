use Rattle.std.proofs.Common.{◌≡◌, ◌+◌, ◌≤◌, length, map, drop}
use Rattle.p10_direct.specs.Lines.{piece_of}
use Rattle.p10_direct.specs.Balance.{mark_of}
use Rattle.p10_direct.specs.private.Breaks.{read_back}
use Rattle.p10_direct.proofs.Breaking.{with_count}
use Rattle.p10_direct.proofs.balance.first_unclosed.Given as goal

-- what is known of the lines from this place on
abbrev pub invariant-loop-place : goal.invariant-loop-place
invariant-loop-place l = record {
  bounded : l.place + l.closing ≤ length l.lines;
  behind : with_count l.first l.closing ≡ read_back (map mark_of (map piece_of (drop l.place l.lines))) l.place;
}

abbrev pub decreases-loop-place : goal.decreases-loop-place
decreases-loop-place l = l.place
