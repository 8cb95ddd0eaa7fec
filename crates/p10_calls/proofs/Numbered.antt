-- Ranks, made node by node in the order of numbers.
use Rattle.std.proofs.Common.{◌≡◌, ℕ, zero, suc, ◌+◌, ◌<◌, ◌≤◌, ◌^◌, ◌≢◌, ◌∷◌, ◌++◌, List, [], length, get_or, max, take, replicate, refl, sym, ◌∙◌, ap, subst, arith, ◌⊎◌, inl, inr}
use Rattle.std.specs.List.{All, Contains, slice_index}
use Rattle.std.proofs.Math.ListN.{set, length-set}
use Rattle.std.proofs.lemmas.Bool.{cases_lt, cases_eq}
use Rattle.std.proofs.lemmas.List.{get_or-set_same, get_or-set_other, get_or_past, take_more, length-replicate}
use Rattle.std.proofs.lemmas.List.Elements.{Contains-append_left, Contains-push, Contains-push_cases, Contains-get_or}
use Rattle.p10_graph.specs.Graphs.{Edge}
use Rattle.p10_calls.specs.Ranks.{HasRank, AreRanks}
use Rattle.p10_calls.specs.private.Numbering.{AreRankedBelow, Descends, FindsByNumber, IsRankAbove}
use Rattle.p10_calls.proofs.Lists.{none_in}

-- ## Nodes by their numbers

-- the first nodes are at the places of their numbers
pub record ByNumber (numbers nodes : List ℕ) (i : ℕ) : Type 0 where
  pub each : length nodes ≡ length numbers
  pub found : (u : ℕ) → u < i → slice_index nodes (slice_index numbers u) ≡ u
  pub below : (k : ℕ) → k < length numbers → slice_index nodes k < length numbers

zero_at : (n k : ℕ) → slice_index (replicate n 0) k ≡ 0
zero_at zero k = refl
zero_at (suc n) zero = refl
zero_at (suc n) (suc k) = zero_at n k

pub by_number_none : (numbers nodes : List ℕ) → nodes ≡ replicate (length numbers) 0 → ByNumber numbers nodes 0
by_number_none numbers nodes e = record {
  each = ap length e ∙ length-replicate (length numbers) 0;
  found = λ u low. absurd (omega (arith, low));
  below = λ k low. let is : slice_index nodes k ≡ 0 = ap (λ (l : List ℕ). slice_index l k) e ∙ zero_at (length numbers) k in omega (arith, is, low);
}

pub by_number_more : (numbers nodes : List ℕ) (i : ℕ) → i < length numbers → ((u : ℕ) → u < length numbers → slice_index numbers u < length numbers)
    → ((u v : ℕ) → u < length numbers → v < length numbers → slice_index numbers u ≡ slice_index numbers v → u ≡ v) → ByNumber numbers nodes i → ByNumber numbers (set nodes (slice_index numbers i) i) (i + 1)
by_number_more numbers nodes i inside below apart by =
    let at : ℕ = slice_index numbers i in
    let low : at < length numbers = below i inside in
    let each : length nodes ≡ length numbers = by.each in
    let within : at < length nodes = omega (arith, low, each) in
    record {
      each = length-set nodes at i ∙ each;
      found = λ u l. elim (cases_lt u i) [
        | inl earlier ↦
            let other : slice_index numbers u ≢ at = λ same. let e : u ≡ i = apart u i (omega (arith, earlier, inside)) inside same in omega (arith, e, earlier) in
            get_or-set_other nodes at (slice_index numbers u) i 0 other ∙ by.found u earlier
        | inr now ↦
            let e : u ≡ i = omega (arith, now, l) in
            subst (λ (w : ℕ). slice_index (set nodes at i) (slice_index numbers w) ≡ w) (sym e) (get_or-set_same nodes at i 0 within)
      ];
      below = λ k l. elim (cases_eq k at) [
        | inl same ↦ let e : slice_index (set nodes at i) k ≡ i = ap (slice_index (set nodes at i)) same ∙ get_or-set_same nodes at i 0 within in omega (arith, e, inside)
        | inr other ↦ let e : slice_index (set nodes at i) k ≡ slice_index nodes k = get_or-set_other nodes at k i 0 other in let b : slice_index nodes k < length numbers = by.below k l in omega (arith, e, b)
      ];
    }

pub finds : (numbers nodes : List ℕ) → ByNumber numbers nodes (length numbers) → FindsByNumber numbers nodes
finds numbers nodes by = record { each = by.each; found = by.found; below = by.below }

-- the node at a number is the only one that may have it
pub only_node : (g : List (List ℕ)) (numbers nodes : List ℕ) (number : ℕ) → Descends g numbers → FindsByNumber numbers nodes → (u : ℕ) → u < length g → slice_index numbers u ≡ number → u ≡ slice_index nodes number
only_node g numbers nodes number down finds u low is =
    let each : length numbers ≡ length g = down.each in
    sym (finds.found u (omega (arith, each, low))) ∙ ap (slice_index nodes) is

-- ## The greatest rank of nodes

pub above_none : (ranks : List ℕ) → IsRankAbove ranks [] 0
above_none ranks = record { above = λ v held. absurd (none_in v held); least = inl refl }

above_push : (ranks nodes : List ℕ) (v rank new : ℕ) → IsRankAbove ranks nodes rank → slice_index ranks v < new → rank ≤ new → ((new ≡ rank) ⊎ (new ≡ slice_index ranks v + 1)) → IsRankAbove ranks (nodes ++ v ∷ []) new
above_push ranks nodes v rank new before over grown is = record {
  above = λ w held. elim (Contains-push_cases nodes v w held) [
    | inl earlier ↦ let under : slice_index ranks w < rank = before.above w earlier in omega (arith, under, grown)
    | inr same ↦ subst (λ (x : ℕ). slice_index ranks x < new) same over
  ];
  least = elim is [
    | inl stays ↦ elim before.least [
      | inl none ↦ inl (stays ∙ none)
      | inr (w, held, e) ↦ inr (w, Contains-append_left nodes (v ∷ []) w held, stays ∙ e)
    ]
    | inr now ↦ inr (v, Contains-push nodes v, now)
  ];
}

-- one node more
pub above_more : (ranks nodes : List ℕ) (i rank new : ℕ) → i < length nodes → IsRankAbove ranks (take i nodes) rank → new ≡ max rank (slice_index ranks (slice_index nodes i) + 1) → IsRankAbove ranks (take (i + 1) nodes) new
above_more ranks nodes i rank new inside before e =
    let v : ℕ = slice_index nodes i in
    let one : (new ≡ rank) ⊎ (new ≡ slice_index ranks v + 1) = elim (cases_lt rank (slice_index ranks v + 1)) [ inl less ↦ inr (omega (arith, e, less)) | inr over ↦ inl (omega (arith, e, over)) ] in
    subst (λ (l : List ℕ). IsRankAbove ranks l new) (sym (take_more nodes i 0 inside))
    (above_push ranks (take i nodes) v rank new before (omega (arith, e)) (omega (arith, e)) one)

-- ## One node ranked

pub ranked_none : (g : List (List ℕ)) (numbers ranks : List ℕ) → length ranks ≡ length g → AreRankedBelow g numbers ranks 0
ranked_none g numbers ranks each = record {
  each = each;
  exact = λ u low under. absurd (omega (arith, under));
  small = λ u low under. absurd (omega (arith, under));
}

-- no node has the next number
pub ranked_passed : (g : List (List ℕ)) (numbers ranks : List ℕ) (node number : ℕ) → (slice_index numbers node ≡ number → ⊥) → ((u : ℕ) → u < length g → slice_index numbers u ≡ number → u ≡ node)
    → AreRankedBelow g numbers ranks number → AreRankedBelow g numbers ranks (number + 1)
ranked_passed g numbers ranks node number other only ranked =
    let under : (u : ℕ) → u < length g → slice_index numbers u < number + 1 → slice_index numbers u < number =
    λ u low l. let apart : slice_index numbers u ≡ number → ⊥ = λ is. other (ap (slice_index numbers) (sym (only u low is)) ∙ is) in omega (arith, l, apart) in
    record {
      each = ranked.each;
      exact = λ u low l. ranked.exact u low (under u low l);
      small = λ u low l. ranked.small u low (under u low l);
    }

module _ (g : List (List ℕ)) (numbers ranks : List ℕ) (node rank : ℕ) (down : Descends g numbers) (there : node < length g) (is : IsRankAbove ranks (get_or g node []) rank)
    (ranked : AreRankedBelow g numbers ranks (slice_index numbers node)) where
  abbrev after : List ℕ
  after = set ranks node rank

  at_other : (u : ℕ) → u ≢ node → slice_index after u ≡ slice_index ranks u
  at_other u other = get_or-set_other ranks node u rank 0 other

  at_node : slice_index after node ≡ rank
  at_node = let each : length ranks ≡ length g = ranked.each in get_or-set_same ranks node rank 0 (omega (arith, there, each))

  -- what an edge leads to keeps its rank, where the number at its beginning isn't greater
  kept_rank : (u v : ℕ) → Edge g u v → slice_index numbers u ≤ slice_index numbers node → slice_index after v ≡ slice_index ranks v
  kept_rank u v edge low =
      let less : slice_index numbers v < slice_index numbers u = down.falls u v edge in
      at_other v (λ same. let e : slice_index numbers v ≡ slice_index numbers node = ap (slice_index numbers) same in omega (arith, e, less, low))

  rank_again : (u : ℕ) → u ≢ node → slice_index numbers u ≤ slice_index numbers node → HasRank g ranks u → HasRank g after u
  rank_again u other low before =
      let same : slice_index after u ≡ slice_index ranks u = at_other u other in
      record {
        above = λ v edge. let e : slice_index after v ≡ slice_index ranks v = kept_rank u v edge low in let over : slice_index ranks v < slice_index ranks u = before.above v edge in omega (arith, same, e, over);
        least = elim before.least [
          | inl none ↦ inl (same ∙ none)
          | inr (v, edge, more) ↦ let e : slice_index after v ≡ slice_index ranks v = kept_rank u v edge low in inr (v, edge, omega (arith, same, e, more))
        ];
      }

  rank_of_node : HasRank g after node
  rank_of_node = record {
    above = λ v edge. let e : slice_index after v ≡ slice_index ranks v = kept_rank node v edge (omega arith) in let here : slice_index after node ≡ rank = at_node in
        let over : slice_index ranks v < rank = is.above v edge in omega (arith, here, e, over);
    least = elim is.least [
      | inl none ↦ inl (at_node ∙ none)
      | inr (v, held, more) ↦ let e : slice_index after v ≡ slice_index ranks v = kept_rank node v held (omega arith) in let here : slice_index after node ≡ rank = at_node in
          inr (v, held, omega (arith, here, e, more))
    ];
  }

  small_node : rank ≤ slice_index numbers node
  small_node = elim is.least [
    | inl none ↦ omega (arith, none)
    | inr (v, held, more) ↦
        let less : slice_index numbers v < slice_index numbers node = down.falls node v held in
        elim (cases_lt v (length g)) [
          | inl low ↦ let small : slice_index ranks v ≤ slice_index numbers v = ranked.small v low less in omega (arith, small, more, less)
          | inr high ↦ let each : length ranks ≡ length g = ranked.each in let past : slice_index ranks v ≡ 0 = get_or_past ranks v 0 (omega (arith, high, each)) in omega (arith, past, more, less)
        ]
  ]

  earlier : (u : ℕ) → u ≢ node → u < length g → slice_index numbers u < slice_index numbers node + 1 → slice_index numbers u < slice_index numbers node
  earlier u other low l =
      let apart : slice_index numbers u ≡ slice_index numbers node → ⊥ = λ same. other (down.apart u node low there same) in
      omega (arith, l, apart)

  pub ranked_more : AreRankedBelow g numbers after (slice_index numbers node + 1)
  ranked_more = record {
    each = length-set ranks node rank ∙ ranked.each;
    exact = λ u low l. elim (cases_eq u node) [
      | inl same ↦ subst (HasRank g after) (sym same) rank_of_node
      | inr other ↦ let less : slice_index numbers u < slice_index numbers node = earlier u other low l in rank_again u other (omega (arith, less)) (ranked.exact u low less)
    ];
    small = λ u low l. elim (cases_eq u node) [
      | inl same ↦ let e : slice_index after u ≡ rank = ap (slice_index after) same ∙ at_node in let n : slice_index numbers u ≡ slice_index numbers node = ap (slice_index numbers) same in
          let m : rank ≤ slice_index numbers node = small_node in omega (arith, e, n, m)
      | inr other ↦ let less : slice_index numbers u < slice_index numbers node = earlier u other low l in let e : slice_index after u ≡ slice_index ranks u = at_other u other in
          let m : slice_index ranks u ≤ slice_index numbers u = ranked.small u low less in omega (arith, e, m)
    ];
  }

-- the rank of the node that has the next number
pub ranked_next : (g : List (List ℕ)) (numbers ranks slice row : List ℕ) (node number rank : ℕ) → slice ≡ ranks → row ≡ get_or g node [] → slice_index numbers node ≡ number → Descends g numbers → node < length g
    → IsRankAbove slice row rank → AreRankedBelow g numbers ranks number → AreRankedBelow g numbers (set ranks node rank) (number + 1)
ranked_next g numbers ranks slice row node number rank first second same down there is ranked =
    let above : IsRankAbove ranks (get_or g node []) rank = subst (λ (l : List ℕ). IsRankAbove ranks l rank) second (subst (λ (l : List ℕ). IsRankAbove l row rank) first is) in
    subst (λ (k : ℕ). AreRankedBelow g numbers (set ranks node rank) (k + 1)) same
    (ranked_more g numbers ranks node rank down there above (subst (AreRankedBelow g numbers ranks) (sym same) ranked))

-- what the edges of a node lead to has ranks, which leave room for one more
pub room_above : (g : List (List ℕ)) (numbers ranks : List ℕ) (node number : ℕ) (row : List ℕ) → Descends g numbers → length g < 2 ^ 32 → node < length g → slice_index numbers node ≡ number → AreRankedBelow g numbers ranks number
    → row ≡ get_or g node [] → All (λ v. v < length g) row → All (λ v. slice_index ranks v + 1 < 2 ^ 32) row
room_above g numbers ranks node number row down few there is ranked e held k d inside =
    let v : ℕ = get_or row k d in
    let edge : Edge g node v = subst (λ (l : List ℕ). Contains l v) e (Contains-get_or row k d inside) in
    let less : slice_index numbers v < slice_index numbers node = down.falls node v edge in
    let low : v < length g = held k d inside in
    let small : slice_index ranks v ≤ slice_index numbers v = ranked.small v low (omega (arith, less, is)) in
    let under : slice_index numbers node < length g = down.below node there in
    omega (arith, less, small, under, few)

pub all_ranked : (g : List (List ℕ)) (numbers ranks : List ℕ) (k : ℕ) → Descends g numbers → k ≡ length g → AreRankedBelow g numbers ranks k → AreRanks g ranks
all_ranked g numbers ranks k down e ranked = record {
  each = ranked.each;
  exact = λ u low. let under : slice_index numbers u < length g = down.below u low in ranked.exact u low (omega (arith, e, under));
}
