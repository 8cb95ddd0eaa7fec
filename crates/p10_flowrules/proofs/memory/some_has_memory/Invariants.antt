-- No function that was passed allocates or frees itself.
use Rattle.std.proofs.Common.{◌≡◌, length, map}
use Rattle.std.specs.List.{list_any}
use Rattle.p10_core.specs.Views.{plain_function}
use Rattle.p10_flowrules.specs.private.MemoryGraphs.{has_memory}
use Rattle.p10_flowrules.proofs.memory.some_has_memory.Given as goal

abbrev pub invariant-loop-functions : goal.invariant-loop-functions
invariant-loop-functions l = list_any has_memory (map plain_function l.functions) ≡ list_any has_memory (map plain_function l.initial.functions)

abbrev pub decreases-loop-functions : goal.decreases-loop-functions
decreases-loop-functions l = length l.functions
