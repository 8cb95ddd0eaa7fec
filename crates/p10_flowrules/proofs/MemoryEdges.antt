-- The edges of the graph of calls with the memory.
use Rattle.std.proofs.Common.{◌≡◌, ℕ, zero, suc, ◌+◌, ◌-◌, ◌<◌, ◌≤◌, append_assoc, List, [], ◌∷◌, ◌++◌, length, get_or, Bool, true, false, Some, refl, sym, ◌∙◌, ap, subst, arith, ◌⊎◌, inl, inr}
use Rattle.std.specs.Prelude.{slice_get}
use Rattle.std.specs.List.{All, Contains}
use Rattle.std.proofs.lemmas.List.Elements.{Contains-append_left, Contains-append_right, Contains-append_cases, Contains-get_or}
use Rattle.std.proofs.lemmas.Bool.{cases_eq}
use Rattle.std.proofs.lemmas.Option.{slice_get_within}
use Rattle.p10_core.specs.Typed.{PlainFunction}
use Rattle.p10_core.specs.Nodes.{nodes_of_statements}
use Rattle.p10_graph.specs.Graphs.{Edge, IsGraph}
use Rattle.p10_calls.proofs.Lists.{none_in, here, there, lone, first_or_later, mapped, mapped_from}
use Rattle.p10_flowrules.specs.Allocating.{has_memory_call}
use Rattle.p10_flowrules.specs.private.MemoryGraphs.{edges_to, edges_from, memory_edge, memory_edges, back_edges}

abbrev pub pair : ℕ → ℕ → ℕ × ℕ
pair u v = (u, v)

-- ## Edges of a graph

pub record RowEdge (from : ℕ) (g : List (List ℕ)) (e : ℕ × ℕ) : Type 0 where
  pub place : ℕ
  pub begins : e.0 ≡ from + place
  pub within : place < length g
  pub leads : Contains (get_or g place []) e.1

pub row_edge : (from : ℕ) (g : List (List ℕ)) (e : ℕ × ℕ) → Contains (edges_from from g) e → RowEdge from g e
row_edge from [] e held = absurd (none_in e held)
row_edge from (row ∷ g) e held =
    elim (Contains-append_cases (edges_to from row) (edges_from (from + 1) g) e held) [
      | inl first ↦ let found = mapped_from (pair from) row e first in record {
        place = 0;
        begins = let same : from ≡ e.0 = ap (λ (x : ℕ × ℕ). x.0) found.2 in omega (arith, same);
        within = omega arith;
        leads = subst (λ (x : ℕ × ℕ). Contains row x.1) found.2 found.1;
      }
      | inr later ↦ let rest = row_edge (from + 1) g e later in record {
        place = suc rest.place;
        begins = let same : e.0 ≡ from + 1 + rest.place = rest.begins in omega (arith, same);
        within = let low : rest.place < length g = rest.within in omega (arith, low);
        leads = rest.leads;
      }
    ]

pub edge_of_row : (from place v : ℕ) (g : List (List ℕ)) → Contains (get_or g place []) v → Contains (edges_from from g) (pair (from + place) v)
edge_of_row from place v [] held = absurd (none_in v held)
edge_of_row from zero v (row ∷ g) held =
    let same : from ≡ from + 0 = omega arith in
    Contains-append_left (edges_to from row) (edges_from (from + 1) g) (pair (from + 0) v) (subst (λ (u : ℕ). Contains (edges_to from row) (pair u v)) same (mapped (pair from) row v held))
edge_of_row from (suc place) v (row ∷ g) held =
    let same : from + 1 + place ≡ from + suc place = omega arith in
    Contains-append_right (edges_to from row) (edges_from (from + 1) g) (pair (from + suc place) v)
    (subst (λ (u : ℕ). Contains (edges_from (from + 1) g) (pair u v)) same (edge_of_row (from + 1) place v g held))

-- ## Edges to the memory

pub record MemoryEdge (memory from : ℕ) (fs : List PlainFunction) (e : ℕ × ℕ) : Type 0 where
  pub place : ℕ
  pub function : PlainFunction
  pub begins : e.0 ≡ from + place
  pub stands : slice_get fs place ≡ Some function
  pub itself : has_memory_call (nodes_of_statements function.body) ≡ true
  pub ends : e.1 ≡ memory

first_edge : (memory from : ℕ) (b : Bool) (e : ℕ × ℕ) → Contains (memory_edge memory from b) e → (b ≡ true) × (pair from memory ≡ e)
first_edge memory from true e held = (refl, lone (pair from memory) e held)
first_edge memory from false e held = absurd (none_in e held)

edge_first : (memory from : ℕ) (b : Bool) → b ≡ true → Contains (memory_edge memory from b) (pair from memory)
edge_first memory from b is = subst (λ (x : Bool). Contains (memory_edge memory from x) (pair from memory)) (sym is) (here (pair from memory) [])

pub memory_edge_of : (memory from : ℕ) (fs : List PlainFunction) (e : ℕ × ℕ) → Contains (memory_edges memory from fs) e → MemoryEdge memory from fs e
memory_edge_of memory from [] e held = absurd (none_in e held)
memory_edge_of memory from (f ∷ fs) e held =
    elim (Contains-append_cases (memory_edge memory from (has_memory_call (nodes_of_statements f.body))) (memory_edges memory (from + 1) fs) e held) [
      | inl first ↦ let found = first_edge memory from (has_memory_call (nodes_of_statements f.body)) e first in record {
        place = 0;
        function = f;
        begins = let same : from ≡ e.0 = ap (λ (x : ℕ × ℕ). x.0) found.1 in omega (arith, same);
        stands = refl;
        itself = found.0;
        ends = sym (ap (λ (x : ℕ × ℕ). x.1) found.1);
      }
      | inr later ↦ let rest = memory_edge_of memory (from + 1) fs e later in record {
        place = suc rest.place;
        function = rest.function;
        begins = let same : e.0 ≡ from + 1 + rest.place = rest.begins in omega (arith, same);
        stands = rest.stands;
        itself = rest.itself;
        ends = rest.ends;
      }
    ]

pub edge_to_memory : (memory from place : ℕ) (fs : List PlainFunction) (f : PlainFunction) → slice_get fs place ≡ Some f → has_memory_call (nodes_of_statements f.body) ≡ true → Contains (memory_edges memory from fs) (pair (from + place) memory)
edge_to_memory memory from place [] f e is = absurd cc
edge_to_memory memory from zero (h ∷ fs) f e is =
    let same : h ≡ f = cc in
    let number : from ≡ from + 0 = omega arith in
    let itself : has_memory_call (nodes_of_statements h.body) ≡ true = ap (λ (x : PlainFunction). has_memory_call (nodes_of_statements x.body)) same ∙ is in
    Contains-append_left (memory_edge memory from (has_memory_call (nodes_of_statements h.body))) (memory_edges memory (from + 1) fs) (pair (from + 0) memory)
    (subst (λ (u : ℕ). Contains (memory_edge memory from (has_memory_call (nodes_of_statements h.body))) (pair u memory)) number (edge_first memory from (has_memory_call (nodes_of_statements h.body)) itself))
edge_to_memory memory from (suc place) (h ∷ fs) f e is =
    let number : from + 1 + place ≡ from + suc place = omega arith in
    Contains-append_right (memory_edge memory from (has_memory_call (nodes_of_statements h.body))) (memory_edges memory (from + 1) fs) (pair (from + suc place) memory)
    (subst (λ (u : ℕ). Contains (memory_edges memory (from + 1) fs) (pair u memory)) number (edge_to_memory memory (from + 1) place fs f e is))

-- ## Edges from the memory

pub back_edge_of : (memory n : ℕ) (e : ℕ × ℕ) → Contains (back_edges memory n) e → (e.0 ≡ memory) × (e.1 < n)
back_edge_of memory zero e held = absurd (none_in e held)
back_edge_of memory (suc n) e held =
    elim (first_or_later (pair memory n) (back_edges memory n) e held) [
      | inl first ↦ let same : n ≡ e.1 = ap (λ (x : ℕ × ℕ). x.1) first in (sym (ap (λ (x : ℕ × ℕ). x.0) first), omega (arith, same))
      | inr later ↦ let rest = back_edge_of memory n e later in let low : e.1 < n = rest.1 in (rest.0, omega (arith, low))
    ]

pub edge_back : (memory n u : ℕ) → u < n → Contains (back_edges memory n) (pair memory u)
edge_back memory zero u low = absurd (omega (arith, low))
edge_back memory (suc n) u low =
    elim (cases_eq u n) [
      | inl same ↦ subst (λ (v : ℕ). Contains (back_edges memory (suc n)) (pair memory v)) (sym same) (here (pair memory n) (back_edges memory n))
      | inr other ↦ there (pair memory n) (back_edges memory n) (pair memory u) (edge_back memory n u (omega (arith, low, other)))
    ]

-- ## All edges

-- all edges of the graph of calls with the memory
abbrev pub all_edges : List (List ℕ) → List PlainFunction → List (ℕ × ℕ)
all_edges calls fs = (edges_from 0 calls ++ memory_edges (length calls) 0 fs) ++ back_edges (length calls) (length calls)

module _ (calls : List (List ℕ)) (fs : List PlainFunction) (is : IsGraph calls) (each : length fs ≡ length calls) where
  abbrev n : ℕ
  n = length calls

  -- where an edge comes from
  cases_edge : (e : ℕ × ℕ) → Contains (all_edges calls fs) e → RowEdge 0 calls e ⊎ (MemoryEdge n 0 fs e ⊎ ((e.0 ≡ n) × (e.1 < n)))
  cases_edge e held =
      elim (Contains-append_cases (edges_from 0 calls ++ memory_edges n 0 fs) (back_edges n n) e held) [
        | inl front ↦ elim (Contains-append_cases (edges_from 0 calls) (memory_edges n 0 fs) e front) [
          | inl call ↦ inl (row_edge 0 calls e call)
          | inr memory ↦ inr (inl (memory_edge_of n 0 fs e memory))
        ]
        | inr back ↦ inr (inr (back_edge_of n n e back))
      ]

  -- an edge between functions is a call
  pub call_edge : (u v : ℕ) → u < n → v < n → Contains (all_edges calls fs) (pair u v) → Edge calls u v
  call_edge u v low low2 held =
      elim (cases_edge (pair u v) held) [
        | inl call ↦ let same : u ≡ 0 + call.place = call.begins in let place : call.place ≡ u = omega (arith, same) in subst (λ (k : ℕ). Contains (get_or calls k []) v) place call.leads
        | inr other ↦ elim other [
          | inl memory ↦ let ends : v ≡ n = memory.ends in absurd (omega (arith, ends, low2))
          | inr back ↦ let begins : u ≡ n = back.0 in absurd (omega (arith, begins, low))
        ]
      ]

  pub edge_call : (u v : ℕ) → Edge calls u v → Contains (all_edges calls fs) (pair u v)
  edge_call u v edge =
      let number : 0 + u ≡ u = omega arith in
      Contains-append_left (edges_from 0 calls ++ memory_edges n 0 fs) (back_edges n n) (pair u v)
      (Contains-append_left (edges_from 0 calls) (memory_edges n 0 fs) (pair u v) (subst (λ (k : ℕ). Contains (edges_from 0 calls) (pair k v)) number (edge_of_row 0 u v calls edge)))

  -- an edge from a function to the memory is an allocation or `free` in its body
  pub itself_of : (u : ℕ) → u < n → Contains (all_edges calls fs) (pair u n) → (f : PlainFunction) × (slice_get fs u ≡ Some f) × (has_memory_call (nodes_of_statements f.body) ≡ true)
  itself_of u low held =
      elim (cases_edge (pair u n) held) [
        | inl call ↦ let within : n < n = is.held call.place n call.leads in absurd (omega (arith, within))
        | inr other ↦ elim other [
          | inl memory ↦ let same : u ≡ 0 + memory.place = memory.begins in let place : memory.place ≡ u = omega (arith, same) in
              (memory.function, ap (λ (k : ℕ). slice_get fs k) (sym place) ∙ memory.stands, memory.itself)
          | inr back ↦ let begins : u ≡ n = back.0 in absurd (omega (arith, begins, low))
        ]
      ]

  pub of_itself : (u : ℕ) (f : PlainFunction) → slice_get fs u ≡ Some f → has_memory_call (nodes_of_statements f.body) ≡ true → Contains (all_edges calls fs) (pair u n)
  of_itself u f stands itself =
      let number : 0 + u ≡ u = omega arith in
      Contains-append_left (edges_from 0 calls ++ memory_edges n 0 fs) (back_edges n n) (pair u n)
      (Contains-append_right (edges_from 0 calls) (memory_edges n 0 fs) (pair u n) (subst (λ (k : ℕ). Contains (memory_edges n 0 fs) (pair k n)) number (edge_to_memory n 0 u fs f stands itself)))

  pub of_back : (u : ℕ) → u < n → Contains (all_edges calls fs) (pair n u)
  of_back u low = Contains-append_right (edges_from 0 calls ++ memory_edges n 0 fs) (back_edges n n) (pair n u) (edge_back n n u low)

  -- every edge lies between nodes
  edge_low : (e : ℕ × ℕ) → Contains (all_edges calls fs) e → (e.0 < n + 1) × (e.1 < n + 1)
  edge_low e held =
      elim (cases_edge e held) [
        | inl call ↦ let begins : e.0 ≡ 0 + call.place = call.begins in let low : call.place < n = call.within in let ends : e.1 < n = is.held call.place e.1 call.leads in
            (omega (arith, begins, low), omega (arith, ends))
        | inr other ↦ elim other [
          | inl memory ↦ let begins : e.0 ≡ 0 + memory.place = memory.begins in let low : memory.place < length fs = slice_get_within fs memory.place memory.function memory.stands in let ends : e.1 ≡ n = memory.ends in
              (omega (arith, begins, low, each), omega (arith, ends))
          | inr back ↦ let begins : e.0 ≡ n = back.0 in let ends : e.1 < n = back.1 in (omega (arith, begins), omega (arith, ends))
        ]
      ]

  pub edges_low : (edges : List (ℕ × ℕ)) → edges ≡ all_edges calls fs → All (λ e. (e.0 < n + 1) × (e.1 < n + 1)) edges
  edges_low edges same k d inside = edge_low (get_or edges k d) (subst (λ (l : List (ℕ × ℕ)). Contains l (get_or edges k d)) same (Contains-get_or edges k d inside))

-- one edge back more
pub back_more : (memory left : ℕ) (old new all : List (ℕ × ℕ)) → 0 < left → left ≤ memory → new ≡ old ++ pair memory (left - 1) ∷ [] → old ++ back_edges memory left ≡ all → (left - 1 ≤ memory) × (new ++ back_edges memory (left - 1) ≡ all)
back_more memory zero old new all low under put before = absurd (omega (arith, low))
back_more memory (suc left) old new all low under put before =
    let one : suc left - 1 ≡ left = omega arith in (
      omega (arith, under),
      ap (λ (l : List (ℕ × ℕ)). l ++ back_edges memory (suc left - 1)) put
          ∙ ap (λ (k : ℕ). (old ++ pair memory k ∷ []) ++ back_edges memory k) one
          ∙ append_assoc old (pair memory left ∷ []) (back_edges memory left)
          ∙ before,
    )

-- the edges that were put down, one kind after the other
pub edges_are : (calls : List (List ℕ)) (fs : List PlainFunction) (n : ℕ) (none first second third : List (ℕ × ℕ)) → n ≡ length calls → none ≡ [] → first ≡ none ++ edges_from 0 calls → second ≡ first ++ memory_edges n 0 fs →
    third ≡ second ++ back_edges n n → third ≡ all_edges calls fs
edges_are calls fs n none first second third is e0 e1 e2 e3 =
    e3 ∙ ap (λ (l : List (ℕ × ℕ)). l ++ back_edges n n) (e2 ∙ ap (λ (l : List (ℕ × ℕ)). l ++ memory_edges n 0 fs) (e1 ∙ ap (λ (l : List (ℕ × ℕ)). l ++ edges_from 0 calls) e0))
    ∙ ap (λ (k : ℕ). (edges_from 0 calls ++ memory_edges k 0 fs) ++ back_edges k k) is
