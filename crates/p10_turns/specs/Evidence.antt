-- The evidence of ranges: that a loop's claim stands by a trial pass over the loop alone.
use Rattle.std.specs.Prelude.{ℕ, ◌&&◌, Bool, true, false, List, [], ◌∷◌, slice_get, Option, Some, None}
use Rattle.p10_core.specs.Typed.{PlainVariable, PlainFunction, PlainProgram}
use Rattle.p10_cert.specs.Claims.{Loop}
use Rattle.p10_absx.specs.Environments.{Environment}
use Rattle.p10_pass.specs.Claiming.{ranges_hold, ranges_hold_reached}
use Rattle.p10_pass.specs.Passing.{Failing, Round, rank_fails, trial_manner}
use Rattle.p10_turns.specs.LoopParts.{LoopParts, loops_among, round_under}
use Rattle.p10_turns.specs.Ranked.{is_ranked}

-- whether no condition fails
abbrev pub has_none : List Failing → Bool
has_none [] = true
has_none (e ∷ rest) = false

-- whether K6 to K10 hold for a claim of a loop by the trial pass from an entry environment; a task loop has no rank
abbrev pub holds_by_ranges : List PlainVariable → LoopParts → Environment → Loop → Bool
holds_by_ranges variables l entry claim =
    let r : Round = round_under (trial_manner variables) claim l entry in
    (is_ranked claim.rank && has_none (rank_fails claim l.head.span entry r)) && (ranges_hold claim 0 variables entry && ranges_hold_reached claim variables r.back)

-- the same for a loop that may be lacking
abbrev pub loop_stands : List PlainVariable → Option LoopParts → Environment → Loop → Bool
loop_stands variables None entry claim = false
loop_stands variables (Some l) entry claim = holds_by_ranges variables l entry claim

-- the same for the loop with a number, of a function that may be lacking
abbrev pub stands_in : Option PlainFunction → ℕ → Environment → Loop → Bool
stands_in None k entry claim = false
stands_in (Some f) k entry claim = loop_stands f.variables (slice_get (loops_among f.body) k) entry claim

-- for which function and loop, by their numbers, for which entry environment and which claim the evidence of ranges stands
abbrev pub stands_by_ranges : PlainProgram → ℕ → ℕ → Environment → Loop → Bool
stands_by_ranges p number k entry claim = stands_in (slice_get p.functions number) k entry claim
