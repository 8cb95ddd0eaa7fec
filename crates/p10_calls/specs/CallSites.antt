-- The calls of a program's functions, in the order of the functions and then of the text (C99 6.5.2.2).
use Rattle.std.specs.Prelude.{ℕ, ◌+◌, List, [], ◌∷◌, ◌++◌, map}
use Rattle.std.specs.List.{filter_map}
use Rattle.p10_core.specs.declared.uses.FunctionUse.{FunctionUse}
use Rattle.p10_core.specs.Typed.{PlainFunction, PlainProgram}
use Rattle.p10_core.specs.Nodes.{PlainNode, nodes_of_statements}
use Rattle.p10_core.specs.Uses.{function_used}
use Rattle.p10_calls.specs.declared.sites.CallSite.{CallSite}

-- the calls of functions of the program among nodes
abbrev pub calls_among : List PlainNode → List FunctionUse
calls_among nodes = filter_map function_used nodes

-- the calls in the body of a function, in text order: a call stands before those in its arguments
abbrev pub calls_by : PlainFunction → List FunctionUse
calls_by f = calls_among (nodes_of_statements f.body)

-- a call in the body of the function with a number
abbrev pub site : ℕ → FunctionUse → CallSite
site caller call = record { caller = caller; call = call }

-- the calls in the bodies of functions, of which the first one has this number
abbrev pub sites_from : ℕ → List PlainFunction → List CallSite
sites_from number [] = []
sites_from number (f ∷ rest) = map (site number) (calls_by f) ++ sites_from (number + 1) rest

-- the calls in the bodies of all functions of a program
abbrev pub call_sites : PlainProgram → List CallSite
call_sites p = sites_from 0 p.functions
