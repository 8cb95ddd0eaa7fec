-- Ranks are unique, and there are none on cycles.
use Rattle.std.proofs.Common.{◌≡◌, ℕ, zero, suc, ◌<◌, ◌≤◌, List, length, sym, ◌∙◌, ap, arith, inl, inr}
use Rattle.std.specs.List.{slice_index}
use Rattle.std.proofs.lemmas.Bool.{cases_lt}
use Rattle.std.proofs.lemmas.List.{get_or_past}
use Rattle.std.proofs.lemmas.Grind.{same_number_lists}
use Rattle.p10_graph.specs.Graphs.{Walk}
use Rattle.p10_graph.proofs.Found.{edge_within}
use Rattle.p10_calls.specs.CallSites.{call_sites}
use Rattle.p10_calls.specs.Laws.{RanksAreUnique, NoRanksOnCycles, RecursiveCallsAreOneList}
use Rattle.p10_calls.specs.Recursion.{IsRecursiveCall}
use Rattle.p10_calls.specs.Ranks.{HasRank, AreRanks}
use Rattle.p10_calls.proofs.Lists.{those_are_one}

-- ## One list of ranks

-- two ranks of a node, where those of smaller rank are the same
one_rank : (g : List (List ℕ)) (these others : List ℕ) (u : ℕ) → ((v : ℕ) → slice_index these v < slice_index these u → slice_index these v ≡ slice_index others v) → HasRank g these u → HasRank g others u
    → slice_index these u ≡ slice_index others u
one_rank g these others u smaller first second =
    elim first.least [
      | inl none ↦ elim second.least [
        | inl none2 ↦ none ∙ sym none2
        | inr (w, edge, is) ↦ let up : slice_index these w < slice_index these u = first.above w edge in absurd (omega (arith, up, none))
      ]
      | inr (v, edge, is) ↦
          let up : slice_index these v < slice_index these u = first.above v edge in
          let same : slice_index these v ≡ slice_index others v = smaller v up in
          let over : slice_index others v < slice_index others u = second.above v edge in
          elim second.least [
            | inl none2 ↦ absurd (omega (arith, over, none2))
            | inr (w, edge2, is2) ↦
                let up2 : slice_index these w < slice_index these u = first.above w edge2 in
                let same2 : slice_index these w ≡ slice_index others w = smaller w up2 in
                omega (arith, up, same, over, is, is2, up2, same2)
          ]
    ]

rank_below : (g : List (List ℕ)) (these others : List ℕ) → AreRanks g these → AreRanks g others → (k u : ℕ) → slice_index these u < k → slice_index these u ≡ slice_index others u
rank_below g these others first second zero u low = absurd (omega (arith, low))
rank_below g these others first second (suc k) u low =
    elim (cases_lt u (length g)) [
      | inl within ↦ one_rank g these others u (λ v up. rank_below g these others first second k v (omega (arith, low, up))) (first.exact u within) (second.exact u within)
      | inr past ↦
          let each : length these ≡ length g = first.each in
          let each2 : length others ≡ length g = second.each in
          get_or_past these u 0 (omega (arith, past, each)) ∙ sym (get_or_past others u 0 (omega (arith, past, each2)))
    ]

pub ranks_are_unique : RanksAreUnique
ranks_are_unique g these others first second =
    same_number_lists these others (first.each ∙ sym second.each) (λ u low. rank_below g these others first second (suc (slice_index these u)) u (omega arith))

-- ## Cycles

walk_down : (g : List (List ℕ)) (ranks : List ℕ) → AreRanks g ranks → (n u v : ℕ) → Walk g n u v → slice_index ranks v ≤ slice_index ranks u
walk_down g ranks are zero u v w = let e : slice_index ranks u ≡ slice_index ranks v = ap (slice_index ranks) w in omega (arith, e)
walk_down g ranks are (suc n) u v w =
    let first : slice_index ranks w.0 < slice_index ranks u = (are.exact u (edge_within g u w.0 w.1)).above w.0 w.1 in
    let rest : slice_index ranks v ≤ slice_index ranks w.0 = walk_down g ranks are n w.0 v w.2 in
    omega (arith, first, rest)

pub no_ranks_on_cycles : NoRanksOnCycles
no_ranks_on_cycles g ranks are u on =
    let first : slice_index ranks on.next < slice_index ranks u = (are.exact u (edge_within g u on.next on.edge)).above on.next on.edge in
    let rest : slice_index ranks u ≤ slice_index ranks on.next = walk_down g ranks are on.back.edges on.next u on.back.walk in
    absurd (omega (arith, first, rest))

-- ## Recursive calls

pub recursive_calls_are_one_list : RecursiveCallsAreOneList
recursive_calls_are_one_list p these others first second = those_are_one (IsRecursiveCall p) (call_sites p) these others first second
