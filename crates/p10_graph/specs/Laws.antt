-- What holds of the numbers of components, for all graphs.
use Rattle.std.specs.Prelude.{◌≡◌, ℕ, ◌↔◌, List, slice_index}
use Rattle.p10_graph.specs.Graphs.{Edge, IsGraph, IsOnCycle, Reaches}
use Rattle.p10_graph.specs.Components.{AreComponents}

-- an edge lies on a cycle, that is its end reaches its beginning, exactly where both have one number
abbrev pub EdgeIsOnCycle : Type 0
EdgeIsOnCycle = (g : List (List ℕ)) (numbers : List ℕ) → IsGraph g → AreComponents g numbers →
    (u v : ℕ) → Edge g u v → Reaches g v u ↔ (slice_index numbers u ≡ slice_index numbers v)

-- a node lies on a cycle exactly where one of its edges leads to its own number
abbrev pub NodeIsOnCycle : Type 0
NodeIsOnCycle = (g : List (List ℕ)) (numbers : List ℕ) → IsGraph g → AreComponents g numbers →
    (u : ℕ) → IsOnCycle g u ↔ ((v : ℕ) × Edge g u v × (slice_index numbers u ≡ slice_index numbers v))
