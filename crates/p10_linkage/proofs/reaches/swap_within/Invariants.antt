use Rattle.std.proofs.Common.{◌≡◌, ◌≤◌}
use Rattle.p10_linkage.proofs.Reaching.{swapped_on}
use Rattle.p10_linkage.proofs.reaches.swap_within.Given as goal

abbrev pub invariant-loop-place : goal.invariant-loop-place
invariant-loop-place l = record {
  low : l.fn.part.first ≤ l.place;
  same : l.numbers.items ≡ swapped_on l.fn.part.first l.place l.old l.new 0 l.fn.numbers.items;
}
