use Rattle.std.proofs.Common.{◌≡◌, ◌++◌, ◌≤◌, length, drop, map}
use Rattle.p10_core.specs.Views.{plain_object}
use Rattle.p10_core.specs.Walks.{left_in}
use Rattle.p10_warn.specs.AllNodes.{nodes_in_initializers}
use Rattle.p10_warn.proofs.program_nodes.put_objects.Given as goal

abbrev pub invariant-loop-left : goal.invariant-loop-left
invariant-loop-left l =
    (l.left ≤ length l.objects) × (left_in l.nodes ≡ nodes_in_initializers (map plain_object (drop l.left l.objects)) ++ left_in l.initial.nodes)

abbrev pub decreases-loop-left : goal.decreases-loop-left
decreases-loop-left l = l.left
