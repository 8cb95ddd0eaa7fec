-- How deeply calls of a function nest, and whether they may allocate or free memory, by what is claimed of callees.
use Rattle.std.specs.Prelude.{ℕ, ◌+◌, max, Bool, false, ◌||◌, List, [], ◌∷◌, map, Option, Some, None, slice_get}
use Rattle.p10_core.specs.declared.uses.FunctionUse.{FunctionUse}
use Rattle.p10_core.specs.Typed.{value, PlainForm, built_in, PlainFunction}
use Rattle.p10_core.specs.Nodes.{PlainNode, a_statement, a_value, a_place, nodes_of_statements}
use Rattle.p10_core.specs.Uses.{function_used, manages_memory}
use Rattle.p10_core.specs.WholePrograms.{frame_bytes}
use Rattle.p10_cert.specs.Claims.{Func}
use Rattle.p10_meaning.specs.Calling.{Depth}
use Rattle.p10_sums.specs.Counting.{calls_claimed, bytes_claimed, alloc_claimed}

-- a callee before others
abbrev pub with_callee : Option FunctionUse → List ℕ → List ℕ
with_callee None rest = rest
with_callee (Some called) rest = called.function ∷ rest

-- the functions that nodes call, in text order
abbrev pub callees : List PlainNode → List ℕ
callees [] = []
callees (n ∷ rest) = with_callee (function_used n) (callees rest)

-- the greatest of some numbers; 0 where there is none
abbrev pub greatest_number : List ℕ → ℕ
greatest_number [] = 0
greatest_number (n ∷ rest) = max n (greatest_number rest)

-- the most calls that are open at once in a call of a function, itself included, and the most bytes of their frames: its own,
-- and the greatest claim of a callee
abbrev pub depth_of : List Func → PlainFunction → Depth
depth_of functions f =
    let called : List ℕ = callees (nodes_of_statements f.body) in
    record {
      calls = 1 + greatest_number (map (λ g. calls_claimed (slice_get functions g)) called);
      bytes = frame_bytes f + greatest_number (map (λ g. bytes_claimed (slice_get functions g)) called);
    }

-- whether a form of value is a call that allocates or frees memory
abbrev pub form_manages_memory : PlainForm → Bool
form_manages_memory (built_in name function arguments) = manages_memory function
form_manages_memory form = false

-- the same for a node
abbrev pub node_manages_memory : PlainNode → Bool
node_manages_memory (a_statement s) = false
node_manages_memory (a_value (value at t form)) = form_manages_memory form
node_manages_memory (a_place p) = false

-- whether a call is of a function that is claimed to allocate or free memory
abbrev pub callee_manages_memory : List Func → Option FunctionUse → Bool
callee_manages_memory functions None = false
callee_manages_memory functions (Some called) = alloc_claimed (slice_get functions called.function)

-- whether one of some nodes may allocate or free memory: it does, or it calls a function that is claimed to
abbrev pub have_effect : List Func → List PlainNode → Bool
have_effect functions [] = false
have_effect functions (n ∷ rest) = (node_manages_memory n || callee_manages_memory functions (function_used n)) || have_effect functions rest

-- whether a function may allocate or free memory
abbrev pub effect_of : List Func → PlainFunction → Bool
effect_of functions f = have_effect functions (nodes_of_statements f.body)
