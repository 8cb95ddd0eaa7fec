use Rattle.std.proofs.Common.{◌≡◌, drop}
use Rattle.p10_linkage.specs.Compatible.{were_met}
use Rattle.p10_linkage.proofs.compatible.were_met.Given as goal

abbrev pub invariant-loop-pair : goal.invariant-loop-pair
invariant-loop-pair l = were_met l.m l.n (drop l.pair-index l.pairs) ≡ were_met l.m l.n l.pairs
