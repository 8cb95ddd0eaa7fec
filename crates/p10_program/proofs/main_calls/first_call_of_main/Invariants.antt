-- The first problem of those that were passed is taken with the others.
use Rattle.std.proofs.Common.{◌≡◌, Some, length}
use Rattle.p10_core.specs.Walks.{left_in}
use Rattle.p10_program.specs.Mains.{calls_of_main}
use Rattle.p10_program.specs.FirstProblems.{first_with}
use Rattle.p10_program.proofs.main_calls.first_call_of_main.Given as goal

abbrev pub invariant-loop-node : goal.invariant-loop-node
invariant-loop-node l = first_with l.found (calls_of_main (Some l.main) (left_in l.nodes)) ≡ first_with l.fn.first (calls_of_main (Some l.main) (left_in l.initial.nodes))

abbrev pub decreases-loop-node : goal.decreases-loop-node
decreases-loop-node l = length (left_in l.nodes)
