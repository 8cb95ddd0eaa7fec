-- How ranks are made, along the numbers of strongly connected components.
use Rattle.std.specs.Prelude.{◌≡◌, ℕ, ◌+◌, ◌<◌, ◌≤◌, nat_lt, nat_eq, Bool, ◌&&◌, List, length, slice_index, Option, Some, None, if◌then◌else◌, ◌↔◌, ◌⊎◌}
use Rattle.std.specs.List.{Contains}
use Rattle.p10_graph.specs.Graphs.{Edge}
use Rattle.p10_calls.specs.declared.sites.CallSite.{CallSite}
use Rattle.p10_calls.specs.Ranks.{HasRank}

-- the edge of a call in a graph of `count` functions, if it names two of them
abbrev pub edge_of : ℕ → CallSite → Option (ℕ × ℕ)
edge_of count s = if nat_lt s.caller count && nat_lt s.call.function count then Some (s.caller, s.call.function) else None

-- whether both functions of a call have one number
abbrev pub has_one_number : List ℕ → CallSite → Bool
has_one_number numbers s =
    (nat_lt s.caller (length numbers) && nat_lt s.call.function (length numbers)) && nat_eq (slice_index numbers s.caller) (slice_index numbers s.call.function)

-- the graph has the edges of the calls
pub record HasEdgesOf (sites : List CallSite) (count : ℕ) (g : List (List ℕ)) : Type 0 where
  pub nodes : length g ≡ count
  pub edges : (u v : ℕ) → Edge g u v ↔ ((s : CallSite) × Contains sites s × (edge_of count s ≡ Some (u, v)))

-- each node has a number of its own, below the count of nodes, and each edge leads to a smaller one
pub record Descends (g : List (List ℕ)) (numbers : List ℕ) : Type 0 where
  pub each : length numbers ≡ length g
  pub below : (u : ℕ) → u < length g → slice_index numbers u < length g
  pub apart : (u v : ℕ) → u < length g → v < length g → slice_index numbers u ≡ slice_index numbers v → u ≡ v
  pub falls : (u v : ℕ) → Edge g u v → slice_index numbers v < slice_index numbers u

-- each node is at the place of its number, among nodes
pub record FindsByNumber (numbers nodes : List ℕ) : Type 0 where
  pub each : length nodes ≡ length numbers
  pub found : (u : ℕ) → u < length numbers → slice_index nodes (slice_index numbers u) ≡ u
  pub below : (k : ℕ) → k < length numbers → slice_index nodes k < length numbers

-- the nodes with a number below this one have their ranks, none of which is greater than the number
pub record AreRankedBelow (g : List (List ℕ)) (numbers ranks : List ℕ) (k : ℕ) : Type 0 where
  pub each : length ranks ≡ length g
  pub exact : (u : ℕ) → u < length g → slice_index numbers u < k → HasRank g ranks u
  pub small : (u : ℕ) → u < length g → slice_index numbers u < k → slice_index ranks u ≤ slice_index numbers u

-- the rank is one more than the greatest of those of nodes, or 0 where there are none
pub record IsRankAbove (ranks nodes : List ℕ) (rank : ℕ) : Type 0 where
  pub above : (v : ℕ) → Contains nodes v → slice_index ranks v < rank
  pub least : (rank ≡ 0) ⊎ ((v : ℕ) × Contains nodes v × (rank ≡ slice_index ranks v + 1))
