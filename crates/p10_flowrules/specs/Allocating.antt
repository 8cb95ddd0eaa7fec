-- Which calls allocate or free memory, which Holzmann's rule 3 forbids after initialisation ("The Power of Ten", 2006).
use Rattle.std.specs.Prelude.{◌≡◌, ℕ, ◌+◌, Bool, true, false, List, Option, Some, None, slice_get, drop}
use Rattle.std.specs.List.{list_any}
use Rattle.p10_core.specs.Typed.{PlainStatement, PlainStatements, statements_of_list, PlainFunction, PlainProgram}
use Rattle.p10_core.specs.Nodes.{PlainNode, nodes_of_statements}
use Rattle.p10_core.specs.Uses.{manages_memory}
use Rattle.p10_graph.specs.Graphs.{Reaches}
use Rattle.p10_calls.specs.Selections.{AreThose}
use Rattle.p10_calls.specs.CallGraphs.{call_graph}
use Rattle.p10_flowrules.specs.declared.calls.AnyCall.{AnyCall}
use Rattle.p10_flowrules.specs.declared.calls.Called.{Called}
use Rattle.p10_flowrules.specs.declared.calls.Called.TheVariants.{Function, Library}
use Rattle.p10_flowrules.specs.AnyCalls.{call_made, calls_made}
use Rattle.p10_flowrules.specs.TaskExits.{items_of_main}

-- whether what is called is a library function that allocates or frees
abbrev pub calls_memory : Called → Bool
calls_memory (Function n) = false
calls_memory (Library f) = manages_memory f

-- whether a call, if there is one, is of a library function that allocates or frees
abbrev pub is_memory_call : Option AnyCall → Bool
is_memory_call None = false
is_memory_call (Some c) = calls_memory c.called

-- whether an allocation or a `free` is among nodes
abbrev pub has_memory_call : List PlainNode → Bool
has_memory_call nodes = list_any (λ n. is_memory_call (call_made n)) nodes

-- the function with a number has an allocation or a `free` in its body, or reaches a function that has one by calls
pub record AllocatesOrFrees (p : PlainProgram) (number : ℕ) : Type 0 where
  pub last : ℕ
  pub function : PlainFunction
  pub there : slice_get p.functions last ≡ Some function
  pub itself : has_memory_call (nodes_of_statements function.body) ≡ true
  pub reached : Reaches (call_graph p) number last

-- what is called allocates or frees, or reaches a function that does
abbrev pub IsAllocating : PlainProgram → Called → Type 0
IsAllocating p (Function n) = AllocatesOrFrees p n
IsAllocating p (Library f) = manages_memory f ≡ true

-- the items after the mark `init_done`: all, where there is none
abbrev pub items_after : Option ℕ → List PlainStatement → List PlainStatement
items_after None items = items
items_after (Some n) items = drop (n + 1) items

-- the statements of `main` after the mark
abbrev pub late_statements : PlainProgram → PlainStatements
late_statements p = statements_of_list (items_after p.mark (items_of_main (slice_get p.functions p.main)))

-- the calls in `main` after the mark
abbrev pub late_calls : PlainProgram → List AnyCall
late_calls p = calls_made (nodes_of_statements (late_statements p))

-- the calls in `main` after the mark that allocate or free, in text order
abbrev pub AreLateAllocations : PlainProgram → List AnyCall → Type 0
AreLateAllocations p found = AreThose (λ c. IsAllocating p c.called) (late_calls p) found
