-- Loops in which two variables approach each other: the claims that their guards offer, with the ranks that stand for them.
use Rattle.std.specs.Prelude.{ℕ, if◌then◌else◌, Bool, List, [], ◌∷◌, ℤ, pos, ◌+ℤ◌, ◌-ℤ◌, unsigned_abs, Option, Some, None}
use Rattle.std.specs.Int.{int_max}
use Rattle.p10_core.specs.Typed.{PlainFunction}
use Rattle.p10_cert.specs.declared.claims.Rank.TheVariants.{One}
use Rattle.p10_cert.specs.Claims.{Loop}
use Rattle.p10_absx.specs.Abstract.{Abstract}
use Rattle.p10_absx.specs.Environments.{known}
use Rattle.p10_turns.specs.LoopParts.{LoopParts}
use Rattle.p10_diff.specs.Evidence.{Rank, loop_stands}
use Rattle.p10_candidates.specs.Candidates.{LoopEntry, any_trial}
use Rattle.p10_candidates.specs.Approaches.{Approach, approaches}
use Rattle.p10_candidates.specs.Trials.{counted, claim_by}

-- by how much the rank is more than the distance from the first variable up to the second: while the guard holds, it is at least 1
abbrev pub more_of : Approach → ℤ
more_of a = if a.may_equal then pos 1 else pos 0

-- the greatest rank at entry, as a number of turns: 0 where it is negative, or where a variable isn't known
abbrev pub turns_by : ℤ → Option Abstract → Option Abstract → ℕ
turns_by more (Some below) (Some above) = counted (unsigned_abs (int_max ((above.range.high -ℤ below.range.low) +ℤ more) (pos 0)))
turns_by more below above = 0

-- where a loop stands: the numbers of its function and of the loop, and how many loops it stands in
pub record Site : Type 0 where
  pub function : ℕ
  pub loop : ℕ
  pub depth : ℕ

-- the claim: the rank 1, with the least turns that are enough
abbrev pub approach_claim : Site → LoopEntry → Approach → Loop
approach_claim site l a = claim_by l site.depth One (turns_by (more_of a) (known l.entry a.below) (known l.entry a.above)) (any_trial l)

-- the rank that stands for it, by the numbers of the function and of the loop, without facts
abbrev pub approach_rank : ℕ → ℕ → Approach → Rank
approach_rank n k a = record { function = n; loop = k; below = a.below; above = a.above; more = more_of a; facts = [] }

-- a claim that was found, with the approach by whose rank it stands
pub record Approached : Type 0 where
  pub claim : Loop
  pub approach : Approach

abbrev pub approached_by : Site → LoopEntry → Approach → Approached
approached_by site l a = record { claim = approach_claim site l a; approach = a }

-- whether the rank stands for a claim of a loop with these parts, where it is entered
abbrev pub stands : PlainFunction → Option LoopParts → Site → LoopEntry → Approached → Bool
stands f parts site l a = loop_stands f parts l.entry a.claim (Some (approach_rank site.function site.loop a.approach))

-- the first that stands
abbrev pub first_standing : PlainFunction → Option LoopParts → Site → LoopEntry → List Approach → Option Approached
first_standing f parts site l [] = None
first_standing f parts site l (a ∷ rest) = if stands f parts site l (approached_by site l a) then Some (approached_by site l a) else first_standing f parts site l rest

-- what a loop counts with whose guard offers something that stands
abbrev pub first_approach : PlainFunction → Option LoopParts → Site → LoopEntry → Option Approached
first_approach f parts site l = first_standing f parts site l (approaches l)
