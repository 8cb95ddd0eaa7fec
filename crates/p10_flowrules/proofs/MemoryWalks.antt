-- Functions that reach the memory.
use Rattle.std.proofs.Common.{◌≡◌, ℕ, zero, suc, ◌+◌, ◌<◌, List, length, Some, sym, ◌∙◌, ap, subst, arith, inl, inr}
use Rattle.std.specs.Prelude.{◌↔◌, slice_get}
use Rattle.std.specs.List.{Contains, slice_index}
use Rattle.std.proofs.lemmas.Bool.{cases_eq}
use Rattle.std.proofs.lemmas.List.{length-map}
use Rattle.std.proofs.lemmas.Option.{slice_get_within}
use Rattle.p10_core.specs.Typed.{PlainFunction, PlainProgram}
use Rattle.p10_graph.specs.Graphs.{Edge, IsGraph, Reaches, Walk}
use Rattle.p10_graph.specs.Components.{AreComponents}
use Rattle.p10_graph.proofs.Walks.{reaches_itself, reaches_next, reaches_on}
use Rattle.p10_calls.specs.CallGraphs.{callees_of, call_graph}
use Rattle.p10_calls.proofs.Edges.{reaches_within}
use Rattle.p10_flowrules.specs.Allocating.{AllocatesOrFrees}
use Rattle.p10_flowrules.specs.private.MemoryGraphs.{TellsAllocating}
use Rattle.p10_flowrules.proofs.MemoryEdges.{pair, all_edges, call_edge, edge_call, itself_of, of_itself, of_back}

module _ (p : PlainProgram) (calls whole : List (List ℕ)) (fs : List PlainFunction) (edges : List (ℕ × ℕ)) (is : IsGraph calls) (each : length calls ≡ length p.functions)
    (same : (u v : ℕ) → Edge calls u v ↔ Edge (call_graph p) u v) (functions : fs ≡ p.functions) (nodes : length whole ≡ length calls + 1) (are : edges ≡ all_edges calls fs)
    (edged : (u v : ℕ) → Edge whole u v ↔ Contains edges (u, v)) (held : IsGraph whole) where
  abbrev n : ℕ
  n = length calls

  all_there : length fs ≡ n
  all_there = ap length functions ∙ sym each

  listed : (u v : ℕ) → Edge whole u v → Contains (all_edges calls fs) (pair u v)
  listed u v edge = subst (λ (l : List (ℕ × ℕ)). Contains l (pair u v)) are ((edged u v).0 edge)

  edge_listed : (u v : ℕ) → Contains (all_edges calls fs) (pair u v) → Edge whole u v
  edge_listed u v there = (edged u v).1 (subst (λ (l : List (ℕ × ℕ)). Contains l (pair u v)) (sym are) there)

  -- a walk to the memory goes through a function that allocates or frees itself
  by_walk : (k u : ℕ) → u < n → Walk whole k u n → AllocatesOrFrees p u
  by_walk zero u low walk = let e : u ≡ n = walk in absurd (omega (arith, e, low))
  by_walk (suc k) u low walk =
      let w : ℕ = walk.0 in
      let within : w < length whole = held.held u w walk.1 in
      elim (cases_eq w n) [
        | inl last ↦
            let found = itself_of calls fs is all_there u low (listed u n (subst (λ (v : ℕ). Edge whole u v) last walk.1)) in
            record { last = u; function = found.0; there = ap (λ (l : List PlainFunction). slice_get l u) (sym functions) ∙ found.1; itself = found.2; reached = reaches_itself (call_graph p) u }
        | inr other ↦
            let low2 : w < n = omega (arith, within, nodes, other) in
            let rest : AllocatesOrFrees p w = by_walk k w low2 walk.2 in
            let call : Edge (call_graph p) u w = (same u w).0 (call_edge calls fs is all_there u w low low2 (listed u w walk.1)) in
            record { last = rest.last; function = rest.function; there = rest.there; itself = rest.itself; reached = reaches_on (call_graph p) u w rest.last (reaches_next (call_graph p) u w call) rest.reached }
      ]

  -- a walk along calls is one in the whole graph
  walk_there : (k u v : ℕ) → Walk (call_graph p) k u v → Reaches whole u v
  walk_there zero u v walk = subst (λ (w : ℕ). Reaches whole u w) walk (reaches_itself whole u)
  walk_there (suc k) u v walk =
      let edge : Edge whole u walk.0 = edge_listed u walk.0 (edge_call calls fs is all_there u walk.0 ((same u walk.0).1 walk.1)) in
      reaches_on whole u walk.0 v (reaches_next whole u walk.0 edge) (walk_there k walk.0 v walk.2)

  to_memory : (u : ℕ) → AllocatesOrFrees p u → Reaches whole u n
  to_memory u a =
      let stands : slice_get fs a.last ≡ Some a.function = ap (λ (l : List PlainFunction). slice_get l a.last) functions ∙ a.there in
      let edge : Edge whole a.last n = edge_listed a.last n (of_itself calls fs is all_there a.last a.function stands a.itself) in
      reaches_on whole u a.last n (walk_there a.reached.edges u a.last a.reached.walk) (reaches_next whole a.last n edge)

  pub tells_allocating : (numbers : List ℕ) → AreComponents whole numbers → TellsAllocating p numbers
  tells_allocating numbers components = record {
    each = let e : length numbers ≡ length whole = components.each in omega (arith, e, nodes, each);
    exact = λ u low.
        let within : u < length whole = omega (arith, low, nodes, each) in
        let within2 : n < length whole = omega (arith, nodes) in
        let same_node : (slice_index numbers u ≡ slice_index numbers n) ↔ AllocatesOrFrees p u = (
          (λ e. let there = ((components.same u n within within2).0 e).there in by_walk there.edges u (omega (arith, low, each)) there.walk),
          (λ a. (components.same u n within within2).1 (record { there = to_memory u a; back = reaches_next whole n u (edge_listed n u (of_back calls fs is all_there u (omega (arith, low, each)))) })),
        ) in
        subst (λ (k : ℕ). (slice_index numbers u ≡ slice_index numbers k) ↔ AllocatesOrFrees p u) each same_node;
  }

-- a function that allocates is there
pub allocating_within : (p : PlainProgram) (u : ℕ) → AllocatesOrFrees p u → u < length p.functions
allocating_within p u a =
    let low : a.last < length p.functions = slice_get_within p.functions a.last a.function a.there in
    let nodes : length (call_graph p) ≡ length p.functions = length-map p.functions (callees_of (length p.functions)) in
    let within : u < length (call_graph p) = reaches_within (call_graph p) u a.last (omega (arith, low, nodes)) a.reached in
    omega (arith, within, nodes)
