-- The graph of the calls of a program.
use Rattle.std.specs.Prelude.{ℕ, nat_lt, List, map, length}
use Rattle.std.specs.List.{filter}
use Rattle.p10_core.specs.Typed.{PlainFunction, PlainProgram}
use Rattle.p10_calls.specs.CallSites.{calls_by}

-- the numbers of the functions that a function calls, without those from `count` on. In a whole program no call names such a number
abbrev pub callees_of : ℕ → PlainFunction → List ℕ
callees_of count f = filter (λ n. nat_lt n count) (map (λ c. c.function) (calls_by f))

-- the graph in which an edge leads from each function of a program to each that it calls, once for each call
abbrev pub call_graph : PlainProgram → List (List ℕ)
call_graph p = map (callees_of (length p.functions)) p.functions
