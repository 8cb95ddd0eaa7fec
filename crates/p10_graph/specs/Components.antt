-- Strongly connected components, by the number of each node's component (Cormen, Leiserson, Rivest and Stein,
-- Introduction to Algorithms, 22.5).
use Rattle.std.specs.Prelude.{◌≡◌, ℕ, ◌<◌, ◌≤◌, ◌↔◌, List, length, slice_index}
use Rattle.p10_graph.specs.Graphs.{Edge, Reaches}

-- u and v reach each other: they are in one strongly connected component
pub record AreConnected (g : List (List ℕ)) (u v : ℕ) : Type 0 where
  pub there : Reaches g u v
  pub back : Reaches g v u

-- The numbers, one for each node in order, are those of the strongly connected components: two nodes have one number
-- exactly where they reach each other, and no edge leads to a greater number. So the components are in reverse
-- topological order: each comes after those that its edges lead to.
pub record AreComponents (g : List (List ℕ)) (numbers : List ℕ) : Type 0 where
  pub each : length numbers ≡ length g
  pub below : (u : ℕ) → u < length g → slice_index numbers u < length g
  pub same : (u v : ℕ) → u < length g → v < length g → (slice_index numbers u ≡ slice_index numbers v) ↔ AreConnected g u v
  pub order : (u v : ℕ) → Edge g u v → slice_index numbers v ≤ slice_index numbers u
