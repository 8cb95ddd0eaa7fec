-- Intervals as sets of numbers.
use Rattle.std.proofs.Common.{true, false, Bool as Flag, arith, ℤ, Some, None}
use Rattle.std.proofs.lemmas.Int.{ints, clamps}
use Rattle.std.specs.Prelude.{if◌then◌else◌, int_le}
use Rattle.p10_range.specs.Ranges.{Interval, IsMember, meet_of}
use Rattle.p10_range.specs.Laws.{HasNumber, MeetIsCommonPart}
use Rattle.p10_range.proofs.Holding.{met, met_has, meet_is, has_some}

meet_gives : (a b : Interval) (z : ℤ) → HasNumber (meet_of a b) z → IsMember a z × IsMember b z
meet_gives a b z = by_test (int_le (met a b).low (met a b).high)
  where
    by_test : (c : Flag) → HasNumber (if c then Some (met a b) else None) z → IsMember a z × IsMember b z
    by_test true m = (
      record { above = omega (arith, ints, clamps, m.above); below = omega (arith, ints, clamps, m.below) },
      record { above = omega (arith, ints, clamps, m.above); below = omega (arith, ints, clamps, m.below) },
    )
    by_test false m = absurd m

pub meet_common : MeetIsCommonPart
meet_common a b z = (meet_gives a b z, λ p. has_some (meet_of a b) (met a b) z (meet_is a b z p.0 p.1) (met_has a b z p.0 p.1))
