-- No rank is as great as there are nodes.
use Rattle.std.proofs.Common.{◌≡◌, ℕ, zero, suc, ◌+◌, ◌<◌, ◌≤◌, Bool, true, false, List, [], ◌∷◌, length, map, refl, sym, ap, ◌∙◌, subst, arith, inl, inr, Some}
use Rattle.std.specs.Prelude.{slice_get, nat_lt, if◌then◌else◌}
use Rattle.std.specs.List.{slice_index, Contains}
use Rattle.std.proofs.lemmas.Bool.{ltb-true}
use Rattle.std.proofs.lemmas.List.{length-map}
use Rattle.std.proofs.lemmas.Option.{slice_get_cases}
use Rattle.p10_core.specs.declared.uses.FunctionUse.{FunctionUse}
use Rattle.p10_core.specs.Typed.{PlainProgram}
use Rattle.p10_graph.specs.Graphs.{Edge}
use Rattle.p10_graph.proofs.Found.{edge_within}
use Rattle.p10_calls.specs.CallSites.{calls_by}
use Rattle.p10_calls.specs.CallGraphs.{callees_of, call_graph}
use Rattle.p10_calls.specs.Ranks.{AreRanks}
use Rattle.p10_calls.proofs.Lists.{passed}
use Rattle.p10_finder.proofs.OneResult.{row_at}

-- how many numbers of a list are below k
abbrev below : ℕ → List ℕ → ℕ
below k [] = 0
below k (x ∷ xs) = (if nat_lt x k then 1 else 0) + below k xs

none_past : (k : ℕ) (xs : List ℕ) → below k xs ≤ length xs
none_past k [] = omega arith
none_past k (x ∷ xs) = at (nat_lt x k) (none_past k xs)
  where
    at : (b : Bool) → below k xs ≤ length xs → (if b then 1 else 0) + below k xs ≤ suc (length xs)
    at true h = omega (arith, h)
    at false h = omega (arith, h)

one_less : (x k : ℕ) → (if nat_lt x k then 1 else 0) ≤ (if nat_lt x (suc k) then 1 else 0)
one_less x k = at (nat_lt x k) (nat_lt x (suc k)) refl refl
  where
    at : (a b : Bool) → nat_lt x k ≡ a → nat_lt x (suc k) ≡ b → (if a then 1 else 0) ≤ (if b then 1 else 0)
    at true true e f = omega arith
    at true false e f = absurd (grind (arith, e, f))
    at false b e f = omega arith

more_below : (k : ℕ) (xs : List ℕ) → below k xs ≤ below (suc k) xs
more_below k [] = omega arith
more_below k (x ∷ xs) = omega (arith, one_less x k, more_below k xs)

one_counts : (k : ℕ) → (if nat_lt k k then 1 else 0) + 1 ≤ (if nat_lt k (suc k) then 1 else 0)
one_counts k = at (nat_lt k k) (nat_lt k (suc k)) refl refl
  where
    at : (a b : Bool) → nat_lt k k ≡ a → nat_lt k (suc k) ≡ b → (if a then 1 else 0) + 1 ≤ (if b then 1 else 0)
    at true b e f = absurd (grind (arith, e))
    at false true e f = omega arith
    at false false e f = absurd (grind (arith, f))

-- a number that stands in the list counts from there on
one_more : (k : ℕ) (xs : List ℕ) (n : ℕ) → slice_get xs n ≡ Some k → below k xs + 1 ≤ below (suc k) xs
one_more k [] n e = absurd cc
one_more k (x ∷ xs) zero e = let same : x ≡ k = cc in let here : (if nat_lt x k then 1 else 0) + 1 ≤ (if nat_lt x (suc k) then 1 else 0) = subst (λ y. (if nat_lt y k then 1 else 0) + 1 ≤ (if nat_lt y (suc k) then 1 else 0)) (sym same) (one_counts k) in
    omega (arith, here, more_below k xs)
one_more k (x ∷ xs) (suc n) e = omega (arith, one_less x k, one_more k xs n e)

pub index_at : (xs : List ℕ) (n : ℕ) → n < length xs → slice_get xs n ≡ Some (slice_index xs n)
index_at [] n h = absurd (omega (arith, h))
index_at (x ∷ xs) zero h = refl
index_at (x ∷ xs) (suc n) h = index_at xs n (omega (arith, h))

module _ (g : List (List ℕ)) (ranks : List ℕ) (is : AreRanks g ranks) (held : (u v : ℕ) → Edge g u v → v < length g) where
  -- where a node has a rank, as many have smaller ones
  ranks_below : (k u : ℕ) → u < length g → slice_index ranks u ≡ k → k ≤ below k ranks
  ranks_below zero u low e = omega arith
  ranks_below (suc k) u low e = elim (is.exact u low).least [
    | inl none ↦ absurd (omega (arith, none, e))
    | inr (v, edge, next) ↦
        let under : v < length g = held u v edge in
        let rank : slice_index ranks v ≡ k = omega (arith, next, e) in
        let each : length ranks ≡ length g = is.each in
        let there : slice_get ranks v ≡ Some k = index_at ranks v (omega (arith, under, each)) ∙ ap (λ m. Some m) rank in
        let before : k ≤ below k ranks = ranks_below k v under rank in
        omega (arith, before, one_more k ranks v there)
  ]

  pub rank_small : (u : ℕ) → u < length g → slice_index ranks u < length g
  rank_small u low =
      let each : length ranks ≡ length g = is.each in
      let before : slice_index ranks u ≤ below (slice_index ranks u) ranks = ranks_below (slice_index ranks u) u low refl in
      let there : slice_get ranks u ≡ Some (slice_index ranks u) = index_at ranks u (omega (arith, low, each)) in
      omega (arith, before, each, one_more (slice_index ranks u) ranks u there, none_past (suc (slice_index ranks u)) ranks)

-- an edge in the graph of calls leads to a function
pub edge_held : (p : PlainProgram) (u v : ℕ) → Edge (call_graph p) u v → v < length (call_graph p)
edge_held p u v edge =
    let nodes : length (call_graph p) ≡ length p.functions = length-map p.functions (callees_of (length p.functions)) in
    let low : u < length (call_graph p) = edge_within (call_graph p) u v edge in
    elim (slice_get_cases p.functions u).1 [
      | inl (f, under, there, got) ↦
          let row : Contains (callees_of (length p.functions) f) v = subst (λ (row : List ℕ). Contains row v) (row_at (callees_of (length p.functions)) p.functions u f there) edge in
          let called = passed (λ (w : ℕ). nat_lt w (length p.functions)) (map (λ (c : FunctionUse). c.function) (calls_by f)) v row in
          let small : v < length p.functions = ltb-true v (length p.functions) called.1 in
          omega (arith, small, nodes)
      | inr (past, none) ↦ absurd (omega (arith, past, low, nodes))
    ]
