use Rattle.std.proofs.Common.{◌≡◌, ◌++◌, map, drop}
use Rattle.p10_bindings.specs.Bound.{bound_in}
use Rattle.p10_syn.specs.Trees.{initializer_row}
use Rattle.p10_syn.specs.BuiltStatements.{initializer_of}
use Rattle.p10_elabs.specs.Addresses.{taken_in_items}
use Rattle.p10_elabs.proofs.taken.+initializing.Given as goal

abbrev pub invariant-take_in_items-loop-item : goal.invariant-take_in_items-loop-item
invariant-take_in_items-loop-item l =
    l.into.items ++ taken_in_items (bound_in l.names) (initializer_row (map initializer_of (drop l.item-index l.items)))
    ≡ l.fn.into.items ++ taken_in_items (bound_in l.names) (initializer_row (map initializer_of l.items))
