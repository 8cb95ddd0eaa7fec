-- Evidence that supports what is offered for loops.
use Rattle.std.specs.Prelude.{◌≡◌, ℕ, Bool, false, true, Some, slice_get}
use Rattle.p10_core.specs.Typed.{PlainFunction, PlainProgram}
use Rattle.p10_cert.specs.Claims.{Loop, Claims}
use Rattle.p10_absx.specs.Environments.{Environment}
use Rattle.p10_turns.specs.LoopParts.{LoopParts, loops_among}
use Rattle.p10_turns.specs.Evidence.{stands_by_ranges}
use Rattle.p10_diff.specs.Evidence.{stands_by_differences}
use Rattle.p10_check.specs.Passes.{Standing}
use Rattle.p10_candidates.specs.Candidates.{LoopEntry}
use Rattle.p10_approach.specs.Approaches.{Approached}
use Rattle.p10_approach.specs.Offers.{Offers, AreOffers, approach_offers}
use Rattle.p10_finder.specs.Functions.{loops_of}
use Rattle.p10_finder.specs.Ranking.{ranks_of}

-- evidence stands where that of ranges does, and for each loop of a program that counts with what is offered for it under these claims
pub record Supports (o : Offers) (stands : Standing) (p : PlainProgram) (c : Claims) : Type 0 where
  pub are : AreOffers o
  pub by_ranges : (n k : ℕ) (entry : Environment) (l : Loop) → stands_by_ranges p n k entry l ≡ true → stands n k entry l ≡ true
  pub by_offers : (n : ℕ) (f : PlainFunction) → slice_get p.functions n ≡ Some f → (k depth : ℕ) (parts : LoopParts) (l : LoopEntry) (a : Approached) → slice_get (loops_among f.body) k ≡ Some parts
      → slice_get (loops_of o p c n f).claims k ≡ Some a.claim → slice_get (loops_of o p c n f).approaches k ≡ Some (Some a.approach) → o n f k depth (Some parts) l ≡ Some a → stands n k l.entry a.claim ≡ true

-- the evidence of a derived certificate: that of ranges, or where variables that approach each other bound turns, that of differences by its
-- ranks
abbrev pub standing_if : Bool → PlainProgram → Claims → Standing
standing_if false p c = stands_by_ranges p
standing_if true p c = stands_by_differences (ranks_of approach_offers p c) p
