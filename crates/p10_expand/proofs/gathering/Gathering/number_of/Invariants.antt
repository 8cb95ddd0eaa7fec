use Rattle.std.proofs.Common.{ℕ, ◌<◌}
use Rattle.p10_expand.specs.Gathering.{IsAt}
use Rattle.p10_expand.proofs.gathering.Gathering.number_of.Given as goal

abbrev pub invariant-loop-number : goal.invariant-loop-number
invariant-loop-number l = (k : ℕ) → k < l.number → IsAt l.self.known.items l.place k → ⊥
