use Rattle.std.proofs.Common.{◌≡◌, ◌++◌, map, drop}
use Rattle.p10_bindings.specs.Bound.{bound_in}
use Rattle.p10_syn.specs.Trees.{expression_row}
use Rattle.p10_syn.specs.Built.{expression_of}
use Rattle.p10_elabs.specs.Addresses.{taken_in_all}
use Rattle.p10_elabs.proofs.taken.+taking.Given as goal

abbrev pub invariant-take_in_all-loop-e : goal.invariant-take_in_all-loop-e
invariant-take_in_all-loop-e l =
    l.into.items ++ taken_in_all (bound_in l.names) (expression_row (map expression_of (drop l.e-index l.all)))
    ≡ l.fn.into.items ++ taken_in_all (bound_in l.names) (expression_row (map expression_of l.all))
