use Rattle.std.proofs.Common.{◌≡◌, ◌++◌, ◌≤◌, length, drop, map}
use Rattle.p10_core.specs.Views.{plain_function}
use Rattle.p10_core.specs.Walks.{left_in}
use Rattle.p10_program.specs.ProgramNodes.{nodes_of_functions}
use Rattle.p10_program.proofs.program_nodes.put_functions.Given as goal

abbrev pub invariant-loop-left : goal.invariant-loop-left
invariant-loop-left l =
    (l.left ≤ length l.functions) × (left_in l.nodes ≡ nodes_of_functions (map plain_function (drop l.left l.functions)) ++ left_in l.initial.nodes)

abbrev pub decreases-loop-left : goal.decreases-loop-left
decreases-loop-left l = l.left
