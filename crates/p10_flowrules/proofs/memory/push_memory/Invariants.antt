-- The edges of the functions that were passed are put down, those of the others are to come.
use Rattle.std.proofs.Common.{◌≡◌, ◌++◌, drop, map}
use Rattle.p10_core.specs.Views.{plain_function}
use Rattle.p10_flowrules.specs.private.MemoryGraphs.{memory_edges}
use Rattle.p10_flowrules.proofs.memory.push_memory.Given as goal

abbrev pub invariant-loop-number : goal.invariant-loop-number
invariant-loop-number l =
    l.edges.items ++ memory_edges l.memory l.number (map plain_function (drop l.number l.functions)) ≡ l.initial.edges.items ++ memory_edges l.memory 0 (map plain_function l.functions)
