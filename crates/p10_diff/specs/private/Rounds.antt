-- Rounds of loops, as the code's functions speak of them.
use Rattle.std.specs.Prelude.{Bool, false, Option, Some, None}
use Rattle.p10_cert.specs.Claims.{Loop}
use Rattle.p10_walk.specs.Walking.{Round}
use Rattle.p10_diff.specs.Differences.{Pair, Differences}
use Rattle.p10_diff.specs.Evidence.{Rank, turns_so}

-- whether in a round the rank is positive, and falls; a statement that is no loop has no round
abbrev pub round_turns_so : Pair → Loop → Rank → Option (Round Differences) → Bool
round_turns_so p claim r None = false
round_turns_so p claim r (Some round) = turns_so p claim r round
