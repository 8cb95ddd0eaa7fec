-- What the calls of a program come to.
use Rattle.std.specs.Prelude.{[]}
use Rattle.p10_core.specs.Typed.{PlainProgram}
use Rattle.p10_calls.specs.declared.answer.Ordered.{Ordered}
use Rattle.p10_calls.specs.declared.answer.Ordered.TheVariants.{Ranked, Cyclic}
use Rattle.p10_calls.specs.declared.answer.CallFault.TheVariants.{Cycle}
use Rattle.p10_calls.specs.CallGraphs.{call_graph}
use Rattle.p10_calls.specs.Faults.{IsRightFault}
use Rattle.p10_calls.specs.Ranks.{AreRanks}
use Rattle.p10_calls.specs.Recursion.{AreRecursiveCalls}

-- ranks, where no call is recursive, or the names of the recursive calls
abbrev pub IsOrdered : PlainProgram → Ordered → Type 0
IsOrdered p (Ranked ranks) = AreRanks (call_graph p) ranks × AreRecursiveCalls p []
IsOrdered p (Cyclic names) = IsRightFault p (Cycle names)
