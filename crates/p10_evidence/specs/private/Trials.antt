-- Whether a claim of a loop holds by a round.
use Rattle.std.specs.Prelude.{◌&&◌, Bool, false, List, Option, Some, None}
use Rattle.p10_core.specs.Typed.{PlainVariable}
use Rattle.p10_cert.specs.Claims.{Loop}
use Rattle.p10_absx.specs.Environments.{Environment}
use Rattle.p10_pass.specs.Claiming.{ranges_hold, ranges_hold_reached, rank_in, enters_ranked, goes_back_ranked, is_enough}
use Rattle.p10_pass.specs.Passing.{Round}
use Rattle.p10_turns.specs.Ranked.{is_ranked}

-- K8 to K10 of a claim by a round; a task loop has no rank
abbrev pub rank_holds : Loop → Environment → Round → Bool
rank_holds claim entry r = is_ranked claim.rank && (enters_ranked claim.rank r.enters && (goes_back_ranked claim.rank r.back && is_enough claim.turns (rank_in claim.rank entry)))

-- K6 to K10
abbrev pub round_stands : List PlainVariable → Round → Environment → Loop → Bool
round_stands variables r entry claim = rank_holds claim entry r && (ranges_hold claim 0 variables entry && ranges_hold_reached claim variables r.back)

-- the same for a round that may be lacking
abbrev pub stands_with : List PlainVariable → Option Round → Environment → Loop → Bool
stands_with variables None entry claim = false
stands_with variables (Some r) entry claim = round_stands variables r entry claim
