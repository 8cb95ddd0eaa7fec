-- Recursion, which Holzmann's rule 1 forbids ("The Power of Ten", 2006).
use Rattle.std.specs.Prelude.{List}
use Rattle.p10_core.specs.Typed.{PlainProgram}
use Rattle.p10_graph.specs.Graphs.{Reaches}
use Rattle.p10_calls.specs.declared.sites.CallSite.{CallSite}
use Rattle.p10_calls.specs.Selections.{AreThose}
use Rattle.p10_calls.specs.CallSites.{call_sites}
use Rattle.p10_calls.specs.CallGraphs.{call_graph}

-- a call lies on a cycle of calls: the function that it calls is the one in which it stands, or reaches it by calls
abbrev pub IsRecursiveCall : PlainProgram → CallSite → Type 0
IsRecursiveCall p s = Reaches (call_graph p) s.call.function s.caller

-- the recursive calls of a program, in the order of the functions and of the text
abbrev pub AreRecursiveCalls : PlainProgram → List CallSite → Type 0
AreRecursiveCalls p found = AreThose (IsRecursiveCall p) (call_sites p) found
