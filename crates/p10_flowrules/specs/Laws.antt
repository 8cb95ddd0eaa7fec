-- What holds of the end of the task loop and of calls that allocate.
use Rattle.std.specs.Prelude.{◌≡◌, ◌↔◌, ◌⊎◌, ℕ, true, List, [], ◌∷◌, Some, None, slice_get}
use Rattle.p10_base.specs.declared.at.At.{At}
use Rattle.p10_core.specs.declared.statements.LoopHead.{LoopHead}
use Rattle.p10_core.specs.declared.statements.LoopKeyword.TheVariants.{For}
use Rattle.p10_core.specs.Typed.{PlainValue, PlainStatement, statement, block, if_else, loop, switch, break, return, no_statements, statements_of_list, PlainFunction, PlainProgram}
use Rattle.p10_core.specs.Nodes.{nodes_of_statements}
use Rattle.p10_graph.specs.Graphs.{Edge}
use Rattle.p10_calls.specs.CallGraphs.{call_graph}
use Rattle.p10_flowrules.specs.declared.calls.AnyCall.{AnyCall}
use Rattle.p10_flowrules.specs.TaskExits.{exits_of_loop}
use Rattle.p10_flowrules.specs.Allocating.{AllocatesOrFrees, AreLateAllocations, has_memory_call}

-- a place that is made of one number
abbrev pub numbered_place : ℕ → At
numbered_place n = record { first = n; past = n; span = record { file = 0; start = n; end = n } }

-- what a loop begins with
abbrev pub some_head : LoopHead
some_head = record { number = 0; keyword = For; span = record { file = 0; start = 0; end = 0 } }

-- a `break` at a place
abbrev pub a_break : ℕ → PlainStatement
a_break n = statement (numbered_place n) break

-- a `return` at a place
abbrev pub a_return : ℕ → PlainStatement
a_return n = statement (numbered_place n) (return (record { file = 0; start = n; end = n }) None)

-- `for (;;)` over these statements
abbrev pub endless_loop : List PlainStatement → PlainStatement
endless_loop body = statement (numbered_place 0) (loop some_head no_statements None no_statements (statement (numbered_place 0) (block (statements_of_list body))))

-- `switch (v) { .. }` over these statements
abbrev pub switch_over : PlainValue → List PlainStatement → PlainStatement
switch_over v body =
    statement (numbered_place 0) (switch (record { file = 0; start = 0; end = 0 }) v (record { cases = []; otherwise = None }) (statement (numbered_place 0) (block (statements_of_list body))))

-- a loop is left by a `break` and a `return` in it, and by a `return` in a loop or `switch` within it, but by no `break` there:
-- `for (;;) { if (v) break; else return; for (;;) { break; return; } switch (v) { break; return; } break; }`
abbrev pub LoopsAreLeft : Type 0
LoopsAreLeft = (v : PlainValue) →
    exits_of_loop (Some (endless_loop (statement (numbered_place 0) (if_else v (a_break 1) (a_return 2)) ∷ endless_loop (a_break 3 ∷ a_return 4 ∷ []) ∷ switch_over v (a_break 5 ∷ a_return 6 ∷ []) ∷ a_break 7 ∷ [])))
    ≡ numbered_place 1 ∷ numbered_place 2 ∷ numbered_place 4 ∷ numbered_place 6 ∷ numbered_place 7 ∷ []

-- the function with a number has an allocation or a `free` in its body
pub record AllocatesItself (p : PlainProgram) (number : ℕ) : Type 0 where
  pub function : PlainFunction
  pub there : slice_get p.functions number ≡ Some function
  pub itself : has_memory_call (nodes_of_statements function.body) ≡ true

-- the function with a number calls one that allocates or frees
pub record CallsAllocating (p : PlainProgram) (number : ℕ) : Type 0 where
  pub callee : ℕ
  pub edge : Edge (call_graph p) number callee
  pub allocates : AllocatesOrFrees p callee

-- a function allocates or frees exactly where its body does, or it calls a function that does
abbrev pub AllocatingIsByCalls : Type 0
AllocatingIsByCalls = (p : PlainProgram) (number : ℕ) → AllocatesOrFrees p number ↔ (AllocatesItself p number ⊎ CallsAllocating p number)

-- the calls after the mark that allocate or free are one list
abbrev pub LateAllocationsAreOneList : Type 0
LateAllocationsAreOneList = (p : PlainProgram) (these others : List AnyCall) → AreLateAllocations p these → AreLateAllocations p others → these ≡ others
