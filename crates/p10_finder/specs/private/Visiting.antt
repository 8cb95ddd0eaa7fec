-- The order in which functions are visited: each that lies on no cycle of calls comes after those that it calls.
use Rattle.std.specs.Prelude.{◌≡◌, ℕ, ◌<◌, ◌↔◌, List, length, slice_index}
use Rattle.p10_core.specs.Views.{plain_program}
use Rattle.p10_graph.specs.Graphs.{Edge}
use Rattle.p10_graph.specs.Components.{AreComponents}
use Rattle.p10_calls.specs.CallGraphs.{call_graph}
use Rattle.p10_finder.specs.declared.calls.Calls.{Calls}

-- the graph is that of the program's calls, with the numbers of its components
pub record AreCalls (c : Calls) : Type 0 where
  pub nodes : length c.graph.now ≡ length c.program.now.functions
  pub edges : (u v : ℕ) → Edge c.graph.now u v ↔ Edge (call_graph (plain_program c.program.now)) u v
  pub numbers : AreComponents c.graph.now c.numbers.now

-- of the first k nodes each that is alone with its number is at its place, among nodes
pub record FindsLone (numbers nodes : List ℕ) (k : ℕ) : Type 0 where
  pub each : length nodes ≡ length numbers
  pub found : (u : ℕ) → u < k → ((v : ℕ) → v < length numbers → slice_index numbers v ≡ slice_index numbers u → v ≡ u) → slice_index nodes (slice_index numbers u) ≡ u
  pub below : (n : ℕ) → n < length numbers → slice_index nodes n < length numbers

-- a node that is alone with a number is this one
abbrev pub IsLoneAt : List (List ℕ) → List ℕ → ℕ → ℕ → Type 0
IsLoneAt g numbers number node = (u : ℕ) → u < length g → ((v : ℕ) → v < length g → slice_index numbers v ≡ slice_index numbers u → v ≡ u) → slice_index numbers u ≡ number → u ≡ node
