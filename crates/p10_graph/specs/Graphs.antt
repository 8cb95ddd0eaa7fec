-- Directed graphs: edges, walks, and which nodes reach which (Cormen, Leiserson, Rivest and Stein, Introduction to
-- Algorithms, appendix B.4).
use Rattle.std.specs.Prelude.{◌≡◌, ℕ, suc, zero, ◌<◌, ◌^◌, List, [], length, slice_index_or}
use Rattle.std.specs.List.{Contains}

-- A graph of n nodes is a list of n lists: for each of the nodes 0 to n - 1, in order, the nodes to which its edges
-- lead, its successors.

-- an edge leads from u to v
abbrev pub Edge : List (List ℕ) → ℕ → ℕ → Type 0
Edge g u v = Contains (slice_index_or g u []) v

-- every edge leads to a node, and the numbers of nodes fit 32 bits
pub record IsGraph (g : List (List ℕ)) : Type 0 where
  pub few : length g < 2 ^ 32
  pub held : (u v : ℕ) → Edge g u v → v < length g

-- a walk of this many edges leads from u to v
abbrev pub Walk : List (List ℕ) → ℕ → ℕ → ℕ → Type 0
Walk g zero u v = u ≡ v
Walk g (suc n) u v = (w : ℕ) × Edge g u w × Walk g n w v

-- u reaches v: some walk leads from u to v. Each node reaches itself, by the walk of no edges
pub record Reaches (g : List (List ℕ)) (u v : ℕ) : Type 0 where
  pub edges : ℕ
  pub walk : Walk g edges u v

-- u lies on a cycle: a walk of one edge or more leads from u to u. In the graph of calls these are the functions that
-- call themselves, directly or through others (Holzmann, The Power of Ten, rule 1)
pub record IsOnCycle (g : List (List ℕ)) (u : ℕ) : Type 0 where
  pub next : ℕ
  pub edge : Edge g u next
  pub back : Reaches g next u
