-- No node that was passed is the variable.
use Rattle.std.proofs.Common.{◌≡◌, length}
use Rattle.p10_core.specs.Walks.{left_in}
use Rattle.p10_clean.specs.Statements.{names_variable}
use Rattle.p10_clean.proofs.assigning.names_variable.Given as goal

abbrev pub invariant-loop-nodes : goal.invariant-loop-nodes
invariant-loop-nodes l = names_variable l.n (left_in l.nodes) ≡ names_variable l.n (left_in l.initial.nodes)

abbrev pub decreases-loop-nodes : goal.decreases-loop-nodes
decreases-loop-nodes l = length (left_in l.nodes)
