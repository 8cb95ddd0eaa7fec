use Rattle.std.proofs.Common.{◌≡◌, ◌+◌, map, length}
use Rattle.p10_cert.specs.Sealed.{bytes_of}
use Rattle.p10_judge.specs.Kept.{kept_of, stale_among}
use Rattle.p10_judge.proofs.stale.first_stale.Given as goal

abbrev pub invariant-loop-digests : goal.invariant-loop-digests
invariant-loop-digests l = record {
  same : stale_among 0 (map kept_of l.initial.digests) (map bytes_of l.initial.others) ≡ stale_among l.number (map kept_of l.digests) (map bytes_of l.others);
  count : l.number + length l.digests ≡ length l.initial.digests;
}

abbrev pub decreases-loop-digests : goal.decreases-loop-digests
decreases-loop-digests l = length l.digests
