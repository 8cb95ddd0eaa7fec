-- Cycles, by the numbers of components.
use Rattle.std.proofs.Common.{◌≡◌, ℕ, ◌<◌, ◌≤◌, ◌↔◌, List, [], length, get_or, All, sym, ap, ◌∙◌, subst, arith}
use Rattle.std.specs.List.{Contains, slice_index}
use Rattle.std.proofs.lemmas.List.{get_or_default}
use Rattle.p10_graph.specs.Graphs.{Edge, IsOnCycle, Reaches}
use Rattle.p10_graph.specs.Components.{AreComponents}
use Rattle.p10_graph.proofs.Found.{edge_within}
use Rattle.p10_graph.proofs.Walks.{reaches_next}

-- the end of an edge to a node reaches its beginning exactly where both have one number
pub edge_law : (g : List (List ℕ)) (numbers : List ℕ) (u v : ℕ) → AreComponents g numbers → v < length g → Edge g u v → Reaches g v u ↔ (slice_index numbers u ≡ slice_index numbers v)
edge_law g numbers u v are l edge = (
  (λ back. (are.same u v (edge_within g u v edge) l).1 (record { there = reaches_next g u v edge; back = back })),
  (λ same. ((are.same u v (edge_within g u v edge) l).0 same).back),
)

pub cycle_from : (g : List (List ℕ)) (numbers : List ℕ) (u v : ℕ) → AreComponents g numbers → v < length g → Edge g u v → slice_index numbers u ≡ slice_index numbers v → IsOnCycle g u
cycle_from g numbers u v are l edge same = record { next = v; edge = edge; back = (edge_law g numbers u v are l edge).1 same }

pub cycle_same : (g : List (List ℕ)) (numbers : List ℕ) (u : ℕ) → AreComponents g numbers → ((v : ℕ) → Edge g u v → v < length g) → IsOnCycle g u → (v : ℕ) × Edge g u v × (slice_index numbers u ≡ slice_index numbers v)
cycle_same g numbers u are held on = (on.next, on.edge, (edge_law g numbers u on.next are (held on.next on.edge) on.edge).0 on.back)

-- a node whose edges all lead to other numbers lies on no cycle
pub on_no_cycle : (g : List (List ℕ)) (numbers row : List ℕ) (u n : ℕ) → AreComponents g numbers → row ≡ get_or g u [] → All (λ next. next < length g) row → length row ≤ n
    → ((k : ℕ) → k < n → get_or numbers (get_or row k 0) 0 ≡ slice_index numbers u → ⊥) → IsOnCycle g u → ⊥
on_no_cycle g numbers row u n are e held long other on =
    let edge : Contains row on.next = subst (λ (xs : List ℕ). Contains xs on.next) (sym e) on.edge in
    let there : get_or row edge.0 0 ≡ on.next = get_or_default row edge.0 0 on.next edge.1 ∙ edge.2 in
    let within : on.next < length g = subst (λ (v : ℕ). v < length g) there (held edge.0 0 edge.1) in
    let low = edge.1 in
    other edge.0 (omega arith) (ap (λ (v : ℕ). get_or numbers v 0) there ∙ sym ((edge_law g numbers u on.next are within on.edge).0 on.back))
