-- Nodes by the numbers of their components, and which numbers edges lead to.
use Rattle.std.proofs.Common.{◌≡◌, ℕ, zero, suc, ◌+◌, ◌<◌, ◌≤◌, ◌≢◌, List, length, replicate, refl, sym, ◌∙◌, ap, subst, arith, inl, inr}
use Rattle.std.specs.List.{slice_index}
use Rattle.std.proofs.Math.ListN.{set, length-set}
use Rattle.std.proofs.lemmas.Bool.{cases_lt, cases_eq}
use Rattle.std.proofs.lemmas.List.{get_or-set_same, get_or-set_other, length-replicate}
use Rattle.p10_graph.specs.Graphs.{Edge, IsGraph, Walk, Reaches, IsOnCycle}
use Rattle.p10_graph.specs.Components.{AreConnected, AreComponents}
use Rattle.p10_graph.proofs.Walks.{reaches_itself, reaches_on}
use Rattle.p10_finder.specs.private.Visiting.{FindsLone, IsLoneAt}

-- ## Nodes by their numbers

zero_at : (n k : ℕ) → slice_index (replicate n 0) k ≡ 0
zero_at zero k = refl
zero_at (suc n) zero = refl
zero_at (suc n) (suc k) = zero_at n k

pub lone_none : (numbers nodes : List ℕ) → nodes ≡ replicate (length numbers) 0 → FindsLone numbers nodes 0
lone_none numbers nodes e = record {
  each = ap length e ∙ length-replicate (length numbers) 0;
  found = λ u low alone. absurd (omega (arith, low));
  below = λ k low. let is : slice_index nodes k ≡ 0 = ap (λ (l : List ℕ). slice_index l k) e ∙ zero_at (length numbers) k in omega (arith, is, low);
}

pub lone_more : (numbers nodes : List ℕ) (i : ℕ) → i < length numbers → ((u : ℕ) → u < length numbers → slice_index numbers u < length numbers) → FindsLone numbers nodes i → FindsLone numbers (set nodes (slice_index numbers i) i) (i + 1)
lone_more numbers nodes i inside below by =
    let at : ℕ = slice_index numbers i in
    let low : at < length numbers = below i inside in
    let each : length nodes ≡ length numbers = by.each in
    let within : at < length nodes = omega (arith, low, each) in
    record {
      each = length-set nodes at i ∙ each;
      found = λ u l alone. elim (cases_lt u i) [
        | inl earlier ↦
            let other : slice_index numbers u ≢ at = λ same. let e : i ≡ u = alone i inside (sym same) in omega (arith, e, earlier) in
            get_or-set_other nodes at (slice_index numbers u) i 0 other ∙ by.found u earlier alone
        | inr now ↦
            let e : u ≡ i = omega (arith, now, l) in
            subst (λ (w : ℕ). slice_index (set nodes at i) (slice_index numbers w) ≡ w) (sym e) (get_or-set_same nodes at i 0 within)
      ];
      below = λ k l. elim (cases_eq k at) [
        | inl same ↦ let e : slice_index (set nodes at i) k ≡ i = ap (slice_index (set nodes at i)) same ∙ get_or-set_same nodes at i 0 within in omega (arith, e, inside)
        | inr other ↦ let e : slice_index (set nodes at i) k ≡ slice_index nodes k = get_or-set_other nodes at k i 0 other in let b : slice_index nodes k < length numbers = by.below k l in omega (arith, e, b)
      ];
    }

-- ## Nodes on no cycle

module _ (g : List (List ℕ)) (numbers : List ℕ) (whole : IsGraph g) (are : AreComponents g numbers) where
  back_again : (u v n : ℕ) → u ≢ v → Walk g n u v → Reaches g v u → IsOnCycle g u
  back_again u v zero apart walk back = absurd (apart walk)
  back_again u v (suc n) apart walk back = record { next = walk.0; edge = walk.1; back = reaches_on g walk.0 v u (record { edges = n; walk = walk.2 }) back }

  -- each is alone with its number
  pub alone : (u : ℕ) → u < length g → (IsOnCycle g u → ⊥) → (v : ℕ) → v < length g → slice_index numbers v ≡ slice_index numbers u → v ≡ u
  alone u low off v low2 same = elim (cases_eq v u) [
    | inl is ↦ is
    | inr apart ↦ let both : AreConnected g v u = (are.same v u low2 low).0 same in absurd (off (back_again u v both.back.edges (λ e. apart (sym e)) both.back.walk both.there))
  ]

  -- edges lead to smaller numbers
  pub falls : (u v : ℕ) → u < length g → (IsOnCycle g u → ⊥) → Edge g u v → slice_index numbers v < slice_index numbers u
  falls u v low off edge =
      let most : slice_index numbers v ≤ slice_index numbers u = are.order u v edge in
      let apart : slice_index numbers v ≡ slice_index numbers u → ⊥ =
      λ same. let is : v ≡ u = alone u low off v (whole.held u v edge) same in off (record { next = u; edge = subst (Edge g u) is edge; back = reaches_itself g u }) in
      omega (arith, most, apart)

-- the node at a number is the only one that is alone with it
pub only_lone : (g : List (List ℕ)) (numbers nodes : List ℕ) (number : ℕ) → length numbers ≡ length g → FindsLone numbers nodes (length numbers) → IsLoneAt g numbers number (slice_index nodes number)
only_lone g numbers nodes number each finds u low free is =
    let e : length numbers ≡ length g = each in
    sym (finds.found u (omega (arith, low, e)) (λ v inside same. free v (omega (arith, inside, e)) same)) ∙ ap (slice_index nodes) is
