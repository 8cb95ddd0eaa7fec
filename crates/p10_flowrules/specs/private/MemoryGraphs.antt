-- The graph of calls with one node more, for the memory: an edge leads to it from each function that allocates or frees itself, and
-- edges lead back from it to all. So a function allocates or frees, itself or in what it calls, exactly where it is in the
-- component of that node.
use Rattle.std.specs.Prelude.{◌≡◌, ◌↔◌, ℕ, zero, suc, ◌+◌, ◌-◌, ◌<◌, Bool, true, List, [], ◌∷◌, ◌++◌, map, length, slice_index, if◌then◌else◌, nat_lt, nat_eq, ◌&&◌}
use Rattle.p10_core.specs.Typed.{PlainFunction, PlainProgram}
use Rattle.p10_core.specs.Nodes.{nodes_of_statements}
use Rattle.p10_core.specs.Uses.{manages_memory}
use Rattle.p10_flowrules.specs.declared.calls.Called.{Called}
use Rattle.p10_flowrules.specs.declared.calls.Called.TheVariants.{Function, Library}
use Rattle.p10_flowrules.specs.Allocating.{AllocatesOrFrees, IsAllocating, has_memory_call}

-- the edges from a node to nodes
abbrev pub edges_to : ℕ → List ℕ → List (ℕ × ℕ)
edges_to u row = map (λ v. (u, v)) row

-- the edges of a graph, of whose nodes the first one has a number
abbrev pub edges_from : ℕ → List (List ℕ) → List (ℕ × ℕ)
edges_from u [] = []
edges_from u (row ∷ rows) = edges_to u row ++ edges_from (u + 1) rows

-- the edge from a function to the memory, if it allocates or frees itself
abbrev pub memory_edge : ℕ → ℕ → Bool → List (ℕ × ℕ)
memory_edge memory u itself = if itself then (u, memory) ∷ [] else []

-- the edges from functions to the memory, of which the first one has a number
abbrev pub memory_edges : ℕ → ℕ → List PlainFunction → List (ℕ × ℕ)
memory_edges memory u [] = []
memory_edges memory u (f ∷ fs) = memory_edge memory u (has_memory_call (nodes_of_statements f.body)) ++ memory_edges memory (u + 1) fs

-- the edges from the memory to the nodes below a number
abbrev pub back_edges : ℕ → ℕ → List (ℕ × ℕ)
back_edges memory zero = []
back_edges memory (suc u) = (memory, u) ∷ back_edges memory u

-- numbers that say which functions allocate or free: those with the number of the memory
pub record TellsAllocating (p : PlainProgram) (numbers : List ℕ) : Type 0 where
  pub each : length numbers ≡ length p.functions + 1
  pub exact : (u : ℕ) → u < length p.functions → (slice_index numbers u ≡ slice_index numbers (length p.functions)) ↔ AllocatesOrFrees p u

-- whether what is called has the number of the memory, which is the last, or is of the library's allocations and `free`
abbrev pub has_memory_number : List ℕ → Called → Bool
has_memory_number numbers (Function n) = nat_lt (n + 1) (length numbers) && nat_eq (slice_index numbers n) (slice_index numbers (length numbers - 1))
has_memory_number numbers (Library f) = manages_memory f

-- whether a function allocates or frees itself
abbrev pub has_memory : PlainFunction → Bool
has_memory f = has_memory_call (nodes_of_statements f.body)

-- numbers that say of all that is called whether it allocates or frees
abbrev pub TellsMemory : PlainProgram → List ℕ → Type 0
TellsMemory p numbers = (called : Called) → (has_memory_number numbers called ≡ true) ↔ IsAllocating p called
