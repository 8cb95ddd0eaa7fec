-- The first problem of those that were passed is taken with the others.
use Rattle.std.proofs.Common.{◌≡◌, None, length}
use Rattle.p10_core.specs.Walks.{left_in}
use Rattle.p10_program.specs.Undefined.{undefined_among}
use Rattle.p10_program.specs.FirstProblems.{first_with}
use Rattle.p10_program.proofs.undefined.first_undefined.Given as goal

abbrev pub invariant-loop-node : goal.invariant-loop-node
invariant-loop-node l = first_with l.found (undefined_among l.functions l.objects (left_in l.nodes)) ≡ first_with None (undefined_among l.functions l.objects (left_in l.initial.nodes))

abbrev pub decreases-loop-node : goal.decreases-loop-node
decreases-loop-node l = length (left_in l.nodes)
