-- Ranks: how many calls of functions can be open at once below a function.
use Rattle.std.specs.Prelude.{◌≡◌, ℕ, ◌+◌, ◌<◌, List, length, slice_index, ◌⊎◌}
use Rattle.p10_graph.specs.Graphs.{Edge}

-- A node's rank is greater than that of each node to which an edge leads from it, and no greater than it must be: it is 0, or one
-- more than the rank of one of these. So it is 0 where no edge leads on, and else one more than the greatest of them: the length
-- of the longest walk that begins at the node.
pub record HasRank (g : List (List ℕ)) (ranks : List ℕ) (u : ℕ) : Type 0 where
  pub above : (v : ℕ) → Edge g u v → slice_index ranks v < slice_index ranks u
  pub least : (slice_index ranks u ≡ 0) ⊎ ((v : ℕ) × Edge g u v × (slice_index ranks u ≡ slice_index ranks v + 1))

-- the ranks of all nodes, in order
pub record AreRanks (g : List (List ℕ)) (ranks : List ℕ) : Type 0 where
  pub each : length ranks ≡ length g
  pub exact : (u : ℕ) → u < length g → HasRank g ranks u
