-- Ranks exist where no cycle is, and each graph is one of calls.
use Rattle.std.proofs.Common.{◌≡◌, ℕ, zero, suc, ◌+◌, ◌<◌, ◌≤◌, List, [], ◌∷◌, length, map, get_or, max, take, replicate, nat_lt, Bool, cond, refl, sym, ◌∙◌, ap, subst, arith, ◌⊎◌, inl, inr}
use Rattle.std.specs.List.{Contains, filter, slice_index}
use Rattle.std.proofs.lemmas.Bool.{cases_eq, lt-ltb}
use Rattle.std.proofs.Math.ListN.{set}
use Rattle.std.proofs.lemmas.List.{length-replicate, length-map, take_all, get_or_default}
use Rattle.std.proofs.lemmas.Option.{slice_get_within}
use Rattle.p10_core.specs.declared.uses.FunctionUse.{FunctionUse}
use Rattle.p10_core.specs.Nodes.{nodes_of_statements}
use Rattle.p10_core.specs.Typed.{statements_of_list}
use Rattle.p10_graph.specs.Graphs.{Edge, IsGraph, IsOnCycle, Reaches, Walk}
use Rattle.p10_graph.specs.Components.{AreComponents}
use Rattle.p10_graph.proofs.Cycles.{cycle_from}
use Rattle.p10_calls.specs.declared.sites.CallSite.{CallSite}
use Rattle.p10_calls.specs.CallSites.{call_sites, calls_among}
use Rattle.p10_calls.specs.CallGraphs.{callees_of, call_graph}
use Rattle.p10_calls.specs.Laws.{EachGraphIsOfCalls, RanksExist, RanksMeanNoRecursion}
use Rattle.p10_calls.specs.Ranks.{AreRanks}
use Rattle.p10_calls.specs.Samples.{call_statement, caller_of}
use Rattle.p10_calls.specs.private.Numbering.{AreRankedBelow, Descends, IsRankAbove}
use Rattle.p10_calls.proofs.Edges.{edge_there, reaches_within, NamesTwo}
use Rattle.p10_calls.proofs.Lists.{here, there, passed}
use Rattle.p10_calls.proofs.Numbered.{above_none, above_more, all_ranked, ranked_none, ranked_more}
use Rattle.p10_calls.proofs.Standing.{stands_in}
use Rattle.p10_calls.proofs.Uniqueness.{no_ranks_on_cycles}

-- ## Ranks exist

module _ (g : List (List ℕ)) (numbers : List ℕ) (is : IsGraph g) (are : AreComponents g numbers) (none : (u : ℕ) → IsOnCycle g u → ⊥) where
  falls : (u v : ℕ) → Edge g u v → slice_index numbers v < slice_index numbers u
  falls u v edge =
      let down : slice_index numbers v ≤ slice_index numbers u = are.order u v edge in
      let apart : slice_index numbers u ≡ slice_index numbers v → ⊥ = λ same. none u (cycle_from g numbers u v are (is.held u v edge) edge same) in
      omega (arith, down, apart)

  walk_falls : (n : ℕ) (u v : ℕ) → Walk g n u v → slice_index numbers v ≤ slice_index numbers u
  walk_falls zero u v w = let e : slice_index numbers u ≡ slice_index numbers v = ap (slice_index numbers) w in omega (arith, e)
  walk_falls (suc n) u v w =
      let first : slice_index numbers w.0 < slice_index numbers u = falls u w.0 w.1 in
      let rest : slice_index numbers v ≤ slice_index numbers w.0 = walk_falls n w.0 v w.2 in
      omega (arith, first, rest)

  one_apart : (n : ℕ) (u v : ℕ) → slice_index numbers u ≡ slice_index numbers v → Walk g n u v → u ≡ v
  one_apart zero u v same w = w
  one_apart (suc n) u v same w =
      let first : slice_index numbers w.0 < slice_index numbers u = falls u w.0 w.1 in
      let rest : slice_index numbers v ≤ slice_index numbers w.0 = walk_falls n w.0 v w.2 in
      absurd (omega (arith, first, rest, same))

  descend : Descends g numbers
  descend = record {
    each = are.each;
    below = are.below;
    apart = λ u v low low2 same. let there = ((are.same u v low low2).0 same).there in one_apart there.edges u v same there.walk;
    falls = falls;
  }

  greatest : (ranks row : List ℕ) (i : ℕ) → i ≤ length row → (r : ℕ) × IsRankAbove ranks (take i row) r
  greatest ranks row zero low = (0, above_none ranks)
  greatest ranks row (suc i) low =
      let before = greatest ranks row i (omega (arith, low)) in
      let next : ℕ = max before.0 (slice_index ranks (slice_index row i) + 1) in
      let number : i + 1 ≡ suc i = omega arith in
      (next, subst (λ (n : ℕ). IsRankAbove ranks (take n row) next) number (above_more ranks row i before.0 next (omega (arith, low)) before.1 refl))

  -- a node below a bound has a number, or none has
  with_number : (number n : ℕ) → ((u : ℕ) × (u < n) × (slice_index numbers u ≡ number)) ⊎ ((u : ℕ) → u < n → slice_index numbers u ≡ number → ⊥)
  with_number number zero = inr (λ u low same. absurd (omega (arith, low)))
  with_number number (suc n) =
      elim (with_number number n) [
        | inl (u, low, same) ↦ inl (u, omega (arith, low), same)
        | inr others ↦ elim (cases_eq (slice_index numbers n) number) [
          | inl same ↦ inl (n, omega arith, same)
          | inr other ↦ inr (λ u low same. elim (cases_eq u n) [
            | inl last ↦ other (ap (slice_index numbers) (sym last) ∙ same)
            | inr earlier ↦ others u (omega (arith, low, earlier)) same
          ])
        ]
      ]

  -- ranks below a number that no node has
  ranked_without : (ranks : List ℕ) (k : ℕ) → ((u : ℕ) → u < length g → slice_index numbers u ≡ k → ⊥) → AreRankedBelow g numbers ranks k → AreRankedBelow g numbers ranks (k + 1)
  ranked_without ranks k others ranked =
      let under : (u : ℕ) → u < length g → slice_index numbers u < k + 1 → slice_index numbers u < k =
      λ u low l. let apart : slice_index numbers u ≡ k → ⊥ = others u low in omega (arith, l, apart) in
      record {
        each = ranked.each;
        exact = λ u low l. ranked.exact u low (under u low l);
        small = λ u low l. ranked.small u low (under u low l);
      }

  ranked_to : (k : ℕ) → (ranks : List ℕ) × AreRankedBelow g numbers ranks k
  ranked_to zero = (replicate (length g) 0, ranked_none g numbers (replicate (length g) 0) (length-replicate (length g) 0))
  ranked_to (suc k) =
      let before = ranked_to k in
      let more : k + 1 ≡ suc k = omega arith in
      elim (with_number k (length g)) [
        | inl (u, low, same) ↦
            let row : List ℕ = get_or g u [] in
            let rank = greatest before.0 row (length row) (omega arith) in
            let above : IsRankAbove before.0 row rank.0 = subst (λ (l : List ℕ). IsRankAbove before.0 l rank.0) (take_all (length row) row (omega arith)) rank.1 in (
              set before.0 u rank.0,
              subst (AreRankedBelow g numbers (set before.0 u rank.0)) (ap (λ (n : ℕ). n + 1) same ∙ more)
                  (ranked_more g numbers before.0 u rank.0 descend low above (subst (AreRankedBelow g numbers before.0) (sym same) before.1)),
            )
        | inr others ↦ (
          before.0,
          subst (AreRankedBelow g numbers before.0) more
              (ranked_without before.0 k others before.1),
        )
      ]

  pub ranks_here : (ranks : List ℕ) × AreRanks g ranks
  ranks_here = let all = ranked_to (length g) in (all.0, all_ranked g numbers all.0 (length g) descend refl all.1)

pub ranks_exist : RanksExist
ranks_exist g numbers is are none = ranks_here g numbers is are none

-- ## Ranks and recursion

pub ranks_mean_no_recursion : RanksMeanNoRecursion
ranks_mean_no_recursion p ranks [] are recursive = refl
ranks_mean_no_recursion p ranks (s ∷ found) are recursive =
    let n : ℕ = length p.functions in
    let in' = passed recursive.test (call_sites p) s (subst (λ (l : List CallSite). Contains l s) recursive.are (here s found)) in
    let back : Reaches (call_graph p) s.call.function s.caller = (recursive.exact s in'.0).0 in'.1 in
    let at = stands_in 0 p.functions s in'.0 in
    let low : at.place < n = slice_get_within p.functions at.place at.function at.there in
    let number : s.caller ≡ 0 + at.place = at.caller_is in
    let nodes : length (call_graph p) ≡ n = length-map p.functions (callees_of n) in
    let called : s.call.function < length (call_graph p) = reaches_within (call_graph p) s.call.function s.caller (omega (arith, nodes, low, number)) back in
    let two : NamesTwo n s s.caller s.call.function = record { caller_is = refl; called_is = refl; caller_low = omega (arith, low, number); called_low = omega (arith, called, nodes) } in
    absurd (no_ranks_on_cycles (call_graph p) ranks are s.caller (record { next = s.call.function; edge = edge_there p s s.caller s.call.function in'.0 two; back = back }))

-- ## Each graph is one of calls

calls_are : (row : List ℕ) → map (λ (c : FunctionUse). c.function) (calls_among (nodes_of_statements (statements_of_list (map call_statement row)))) ≡ row
calls_are [] = refl
calls_are (v ∷ row) = ap (λ (l : List ℕ). v ∷ l) (calls_are row)

all_low : (n : ℕ) (row : List ℕ) → ((v : ℕ) → Contains row v → v < n) → filter (λ v. nat_lt v n) row ≡ row
all_low n [] low = refl
all_low n (v ∷ row) low =
    ap (λ (b : Bool). cond b (v ∷ filter (λ w. nat_lt w n) row) (filter (λ w. nat_lt w n) row)) (lt-ltb v n (low v (here v row)))
    ∙ ap (λ (l : List ℕ). v ∷ l) (all_low n row (λ w held. low w (there v row w held)))

rows_are : (n : ℕ) (rows : List (List ℕ)) → ((row : List ℕ) → Contains rows row → (v : ℕ) → Contains row v → v < n) → map (callees_of n) (map caller_of rows) ≡ rows
rows_are n [] low = refl
rows_are n (row ∷ rows) low =
    ap (λ (l : List ℕ). l ∷ map (callees_of n) (map caller_of rows)) (ap (filter (λ v. nat_lt v n)) (calls_are row) ∙ all_low n row (low row (here row rows)))
    ∙ ap (λ (l : List (List ℕ)). row ∷ l) (rows_are n rows (λ r held. low r (there row rows r held)))

pub each_graph_is_of_calls : EachGraphIsOfCalls
each_graph_is_of_calls g is =
    ap (λ (n : ℕ). map (callees_of n) (map caller_of g)) (length-map g caller_of)
    ∙ rows_are (length g) g (λ row at v held. is.held at.0 v (subst (λ (l : List ℕ). Contains l v) (sym (get_or_default g at.0 [] row at.1 ∙ at.2)) held))
