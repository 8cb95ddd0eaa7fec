-- What guards offer are claims of the rank 1 that stand.
use Rattle.std.proofs.Common.{◌≡◌, ℕ, ◌<◌, length, Bool, true, false, List, [], ◌∷◌, Option, Some, None, if◌then◌else◌, refl, sym, ◌∙◌, ap}
use Rattle.std.specs.Prelude.{slice_get, IfSome}
use Rattle.std.proofs.lemmas.Bool.{and_parts}
use Rattle.p10_core.specs.Typed.{PlainVariable, PlainFunction}
use Rattle.p10_cert.specs.declared.claims.Rank.TheVariants.{One}
use Rattle.p10_cert.specs.Claims.{Loop}
use Rattle.p10_absx.specs.Environments.{Environment}
use Rattle.p10_absx.proofs.Entries.{get_below}
use Rattle.p10_turns.specs.LoopParts.{LoopParts}
use Rattle.p10_diff.specs.Differences.{has_name_in}
use Rattle.p10_diff.specs.Evidence.{Rank, loop_stands}
use Rattle.p10_candidates.specs.Candidates.{LoopEntry, any_trial}
use Rattle.p10_candidates.specs.Approaches.{Approach, approaches}
use Rattle.p10_candidates.specs.Trials.{claim_by}
use Rattle.p10_approach.specs.Approaches.{Site, Approached, approach_rank, approached_by, stands, first_standing}
use Rattle.p10_approach.specs.Offers.{AreOffers, approach_offers}

module _ (f : PlainFunction) (parts : Option LoopParts) (site : Site) (l : LoopEntry) where
  -- a claim that was found is that of its approach, and its rank stands
  pub record Found (a : Approached) : Type 0 where
    pub is : a ≡ approached_by site l a.approach
    pub held : stands f parts site l a ≡ true

  pub all_found : (xs : List Approach) → IfSome (first_standing f parts site l xs) Found
  all_found [] = tt
  all_found (x ∷ rest) = at (stands f parts site l (approached_by site l x)) refl (all_found rest)
    where
      at : (b : Bool) → stands f parts site l (approached_by site l x) ≡ b → IfSome (first_standing f parts site l rest) Found → IfSome (if b then Some (approached_by site l x) else first_standing f parts site l rest) Found
      at true e h = record { is = refl; held = e }
      at false e h = h

some_weaker : {A : Type 0} {P Q : A → Type 0} (o : Option A) → ((a : A) → P a → Q a) → IfSome o P → IfSome o Q
some_weaker None h p = tt
some_weaker (Some a) h p = h a p

-- a variable with a name is one of the function's
named_below : (variables : List PlainVariable) (n : ℕ) (o : Option PlainVariable) → slice_get variables n ≡ o → has_name_in o ≡ true → n < length variables
named_below variables n None e h = absurd cc
named_below variables n (Some v) e h = get_below variables n v e

-- the variables of a rank that stands
names : (f : PlainFunction) (parts : Option LoopParts) (entry : Environment) (claim : Loop) (r : Rank) → loop_stands f parts entry claim (Some r) ≡ true → (r.below < length f.variables) × (r.above < length f.variables)
names f None entry claim r h = absurd cc
names f (Some l) entry claim r h =
    let named = (and_parts _ _ (and_parts _ _ h).0).0 in
    let both = and_parts _ _ named in
    (named_below f.variables r.below (slice_get f.variables r.below) refl (and_parts _ _ both.0).0, named_below f.variables r.above (slice_get f.variables r.above) refl (and_parts _ _ both.1).0)

pub guards_offer : AreOffers approach_offers
guards_offer n f k depth parts l =
    let site : Site = record { function = n; loop = k; depth = depth } in
    some_weaker (first_standing f parts site l (approaches l)) (λ a found.
    let e : a.claim ≡ (approached_by site l a.approach).claim = ap (λ (x : Approached). x.claim) found.is in
    let named = names f parts l.entry a.claim (approach_rank n k a.approach) found.held in
    record { claim = e ∙ ap (λ t. claim_by l depth One t (any_trial l)) (sym (ap (λ (x : Loop). x.turns) e)); below = named.0; above = named.1 }) (all_found f parts site l (approaches l))
