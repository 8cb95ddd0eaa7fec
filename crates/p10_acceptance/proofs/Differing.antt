-- The evidence of differences supports what guards offer.
use Rattle.std.proofs.Common.{◌≡◌, ℕ, zero, suc, ◌+◌, Bool, true, false, List, [], ◌∷◌, ◌++◌, Option, Some, None, refl, ap, sym, ◌∙◌, subst, arith, eq-eqb}
use Rattle.std.specs.Prelude.{slice_get, if◌then◌else◌, nat_eq, ◌&&◌, ◌||◌, IfSome}
use Rattle.std.proofs.lemmas.Bool.{ne_eqb}
use Rattle.std.proofs.lemmas.Option.{none-some}
use Rattle.p10_core.specs.Typed.{PlainFunction, PlainProgram}
use Rattle.p10_cert.specs.Claims.{Claims}
use Rattle.p10_turns.specs.LoopParts.{LoopParts, loops_among}
use Rattle.p10_turns.specs.Evidence.{stands_by_ranges}
use Rattle.p10_diff.specs.Evidence.{Rank, rank_for, loop_stands, stands_in, stands_by_differences}
use Rattle.p10_candidates.specs.Candidates.{LoopEntry}
use Rattle.p10_candidates.specs.Approaches.{Approach}
use Rattle.p10_approach.specs.Approaches.{Site, Approached, approach_rank, first_approach}
use Rattle.p10_approach.specs.Offers.{Offers, approach_offers}
use Rattle.p10_approach.proofs.Offered.{Found, all_found, guards_offer}
use Rattle.p10_finder.specs.Functions.{loops_of}
use Rattle.p10_finder.specs.Ranking.{ranks_by, ranks_from, ranks_of}
use Rattle.p10_acceptance.specs.Supporting.{Supports}

-- ## The rank of a loop

-- a rank that is looked for, where the first one is another one's, or its own
passed : (r : Rank) (rest : List Rank) (n k : ℕ) (b c : Bool) → nat_eq r.function n ≡ b → nat_eq r.loop k ≡ c → b && c ≡ false → rank_for (r ∷ rest) n k ≡ rank_for rest n k
passed r rest n k b c e g none = (λ i. if e i && g i then Some r else rank_for rest n k) ∙ ap (λ d. if d then Some r else rank_for rest n k) none

found_here : (r : Rank) (rest : List Rank) (n k : ℕ) → nat_eq r.function n ≡ true → nat_eq r.loop k ≡ true → rank_for (r ∷ rest) n k ≡ Some r
found_here r rest n k e g = λ i. if e i && g i then Some r else rank_for rest n k

-- the ranks of another function
of_another : (m n k : ℕ) → (m ≡ n → ⊥) → (i : ℕ) (xs : List (Option Approach)) (rest : List Rank) → rank_for (ranks_by m i xs ++ rest) n k ≡ rank_for rest n k
of_another m n k apart i [] rest = refl
of_another m n k apart i (None ∷ xs) rest = of_another m n k apart (suc i) xs rest
of_another m n k apart i (Some a ∷ xs) rest = passed (approach_rank m i a) (ranks_by m (suc i) xs ++ rest) n k false _ (ne_eqb m n apart) refl refl ∙ of_another m n k apart (suc i) xs rest

-- the rank of a loop of a function
of_loop : (n k i j : ℕ) (xs : List (Option Approach)) (a : Approach) (rest : List Rank) → k ≡ i + j → slice_get xs j ≡ Some (Some a) → rank_for (ranks_by n i xs ++ rest) n k ≡ Some (approach_rank n k a)
of_loop n k i j [] a rest at e = absurd (none-some _ e)
of_loop n k i zero (Some b ∷ xs) a rest at e =
    let here : i ≡ k = omega (arith, at) in
    let same : b ≡ a = cc in
    found_here (approach_rank n i b) (ranks_by n (suc i) xs ++ rest) n k (eq-eqb n n refl) (eq-eqb i k here) ∙ (λ q. Some (approach_rank n (here q) (same q)))
of_loop n k i zero (None ∷ xs) a rest at e = absurd cc
of_loop n k i (suc j) (None ∷ xs) a rest at e = of_loop n k (suc i) j xs a rest (omega (arith, at)) e
of_loop n k i (suc j) (Some b ∷ xs) a rest at e =
    let apart : i ≡ k → ⊥ = λ same. omega (arith, at, same) in
    passed (approach_rank n i b) (ranks_by n (suc i) xs ++ rest) n k true false (eq-eqb n n refl) (ne_eqb i k apart) refl ∙ of_loop n k (suc i) j xs a rest (omega (arith, at)) e

-- the rank of a loop of a program
of_program : (o : Offers) (p : PlainProgram) (c : Claims) (n k m j : ℕ) (fs : List PlainFunction) (f : PlainFunction) (a : Approach) → n ≡ m + j → slice_get fs j ≡ Some f → slice_get (loops_of o p c n f).approaches k ≡ Some (Some a) →
    rank_for (ranks_from o p c m fs) n k ≡ Some (approach_rank n k a)
of_program o p c n k m j [] f a at e is = absurd (none-some _ e)
of_program o p c n k m zero (g ∷ fs) f a at e is =
    let here : n ≡ m = omega (arith, at) in
    let same : f ≡ g = cc in
    let zeroth : k ≡ 0 + k = omega arith in
    subst (λ (i : ℕ). rank_for (ranks_from o p c i (g ∷ fs)) n k ≡ Some (approach_rank n k a)) here
    (of_loop n k 0 k (loops_of o p c n g).approaches a (ranks_from o p c (suc n) fs) zeroth (subst (λ (h : PlainFunction). slice_get (loops_of o p c n h).approaches k ≡ Some (Some a)) same is))
of_program o p c n k m (suc j) (g ∷ fs) f a at e is =
    of_another m n k (λ same. omega (arith, at, same)) 0 (loops_of o p c m g).approaches (ranks_from o p c (suc m) fs) ∙ of_program o p c n k (suc m) j fs f a (omega (arith, at)) e is

-- ## The evidence

or_second : (a b : Bool) → b ≡ true → a || b ≡ true
or_second true b e = refl
or_second false b e = e

pub differences_support : (p : PlainProgram) (c : Claims) → Supports approach_offers (stands_by_differences (ranks_of approach_offers p c) p) p c
differences_support p c = record {
  are = guards_offer;
  by_ranges = λ n k entry l e. ap (λ b. b || stands_in (slice_get p.functions n) k entry l (rank_for (ranks_of approach_offers p c) n k)) e;
  by_offers = λ n f there k depth parts l a placed claimed marked offered.
      let site : Site = record { function = n; loop = k; depth = depth } in
      let ranks : List Rank = ranks_of approach_offers p c in
      let rank : rank_for ranks n k ≡ Some (approach_rank n k a.approach) = of_program approach_offers p c n k 0 n p.functions f a.approach (omega arith) there marked in
      let held = (subst (λ (o : Option Approached). IfSome o (Found f (Some parts) site l)) offered (all_found f (Some parts) site l _)).held in
      or_second (stands_by_ranges p n k l.entry a.claim) (stands_in (slice_get p.functions n) k l.entry a.claim (rank_for ranks n k))
      (ap (λ (g : Option PlainFunction). stands_in g k l.entry a.claim (rank_for ranks n k)) there
      ∙ (ap (λ (q : Option LoopParts). loop_stands f q l.entry a.claim (rank_for ranks n k)) placed ∙ (ap (λ (r : Option Rank). loop_stands f (Some parts) l.entry a.claim r) rank ∙ held)));
}
