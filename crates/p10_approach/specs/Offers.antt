-- What may be claimed of loops before their candidates are tried.
use Rattle.std.specs.Prelude.{◌≡◌, ℕ, ◌<◌, length, Bool, true, false, Option, None, IfSome}
use Rattle.p10_core.specs.Typed.{PlainFunction}
use Rattle.p10_turns.specs.LoopParts.{LoopParts}
use Rattle.p10_cert.specs.declared.claims.Rank.TheVariants.{One}
use Rattle.p10_candidates.specs.Candidates.{LoopEntry, any_trial}
use Rattle.p10_candidates.specs.Trials.{claim_by}
use Rattle.p10_approach.specs.Approaches.{Approached, first_approach}

-- what may be claimed of a loop: by the number of its function and the function, by the loop's number, by how many loops it stands in, by
-- its parts, and by how it is entered
abbrev pub Offers : Type 0
Offers = ℕ → PlainFunction → ℕ → ℕ → Option LoopParts → LoopEntry → Option Approached

-- a claim of a loop that stands in so many others: the rank 1, where each variable that the loop assigns has any value of its type; and two
-- variables of the function
pub record IsOffer (f : PlainFunction) (l : LoopEntry) (depth : ℕ) (a : Approached) : Type 0 where
  pub claim : a.claim ≡ claim_by l depth One a.claim.turns (any_trial l)
  pub below : a.approach.below < length f.variables
  pub above : a.approach.above < length f.variables

-- all claims are such
abbrev pub AreOffers : Offers → Type 0
AreOffers o = (n : ℕ) (f : PlainFunction) (k depth : ℕ) (parts : Option LoopParts) (l : LoopEntry) → IfSome (o n f k depth parts l) (IsOffer f l depth)

-- nothing
abbrev pub no_offers : Offers
no_offers n f k depth parts l = None

-- what guards offer that stands
abbrev pub approach_offers : Offers
approach_offers n f k depth parts l = first_approach f parts (record { function = n; loop = k; depth = depth }) l

-- the second where differences of variables are to be looked at
abbrev pub offers_if : Bool → Offers
offers_if false = no_offers
offers_if true = approach_offers
