use Rattle.std.proofs.Common.{◌≡◌, ◌++◌, ◌≤◌, length, drop}
use Rattle.p10_core.specs.Nodes.{nodes_of_statements}
use Rattle.p10_core.specs.Views.{plain_statements}
use Rattle.p10_core.specs.Walks.{nodes_ahead}
use Rattle.p10_core.proofs.nodes.Nodes.put_statements.Given as goal

abbrev pub invariant-loop-left : goal.invariant-loop-left
invariant-loop-left l =
    (l.left ≤ length l.all) × (nodes_ahead l.self.ahead.items ≡ nodes_of_statements (plain_statements (drop l.left l.all)) ++ nodes_ahead l.initial.self.ahead.items)

abbrev pub decreases-loop-left : goal.decreases-loop-left
decreases-loop-left l = l.left
