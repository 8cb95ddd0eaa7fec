-- Approaches that are tried one after the other.
use Rattle.std.proofs.Common.{◌≡◌, ℕ, ◌+◌, ◌<◌, Bool, true, false, List, ◌∷◌, length, drop, get_or, map, Option, Some, if◌then◌else◌, sym, ◌∙◌, ap}
use Rattle.std.proofs.lemmas.List.{drop_more}
use Rattle.p10_core.specs.Typed.{PlainFunction}
use Rattle.p10_cert.specs.Claims.{Loop}
use Rattle.p10_turns.specs.LoopParts.{LoopParts}
use Rattle.p10_diff.specs.Evidence.{Rank, loop_stands}
use Rattle.p10_candidates.specs.Candidates.{LoopEntry}
use Rattle.p10_candidates.specs.Approaches.{Approach}
use Rattle.p10_candidates.specs.declared.offers.Approach.{Approach as CodeApproach}
use Rattle.p10_approach.specs.Approaches.{Site, Approached, approach_claim, approach_rank, stands, first_standing}
use Rattle.p10_candidates.specs.Offering.{approach_by}

-- the approaches from one on
tried : (xs : List CodeApproach) (i : ℕ) (d : CodeApproach) → i < length xs → map approach_by (drop i xs) ≡ approach_by (get_or xs i d) ∷ map approach_by (drop (i + 1) xs)
tried xs i d inside = ap (map approach_by) (drop_more xs i d inside)

-- what comes of a claim that stands or doesn't
chosen : Bool → Approached → Option Approached → Option Approached
chosen stands a rest = if stands then Some a else rest

module _ (f : PlainFunction) (parts : Option LoopParts) (site : Site) (l : LoopEntry) (xs : List CodeApproach) (i : ℕ) (d : CodeApproach) (claim : Loop) (rank : Rank) (first : Option Approached) where
  abbrev here : Approach
  here = approach_by (get_or xs i d)

  abbrev found : Approached
  found = record { claim = claim; approach = here }

  abbrev rest : Option Approached
  rest = first_standing f parts site l (map approach_by (drop (i + 1) xs))

  tried_so : i < length xs → claim ≡ approach_claim site l here → first_standing f parts site l (map approach_by (drop i xs)) ≡ first → chosen (stands f parts site l found) found rest ≡ first
  unfolding chosen
  tried_so inside claimed all =
      (λ k. let a : Approached = record { claim = claimed k; approach = here } in chosen (stands f parts site l a) a rest) ∙ (ap (first_standing f parts site l) (sym (tried xs i d inside)) ∙ all)

  -- whether its rank stands
  pub standing_by : rank ≡ approach_rank site.function site.loop here → (b : Bool) → b ≡ loop_stands f parts l.entry claim (Some rank) → b ≡ stands f parts site l found
  standing_by ranked b so = so ∙ ap (λ (r : Rank). loop_stands f parts l.entry claim (Some r)) ranked

  -- the first one stands
  pub one_stands : i < length xs → claim ≡ approach_claim site l here → rank ≡ approach_rank site.function site.loop here → true ≡ loop_stands f parts l.entry claim (Some rank) → first_standing f parts site l (map approach_by (drop i xs)) ≡ first → Some found ≡ first
  unfolding chosen
  one_stands inside claimed ranked so all = ap (λ b. chosen b found rest) (standing_by ranked true so) ∙ tried_so inside claimed all

  -- the first one doesn't
  pub one_falls : i < length xs → claim ≡ approach_claim site l here → rank ≡ approach_rank site.function site.loop here → false ≡ loop_stands f parts l.entry claim (Some rank) → first_standing f parts site l (map approach_by (drop i xs)) ≡ first → rest ≡ first
  unfolding chosen
  one_falls inside claimed ranked so all = ap (λ b. chosen b found rest) (standing_by ranked false so) ∙ tried_so inside claimed all
