use Rattle.std.proofs.Common.{◌≡◌, map, drop}
use Rattle.p10_bindings.specs.Bound.{bound_in}
use Rattle.p10_syn.specs.Built.{identifier_of}
use Rattle.p10_elabs.specs.Addresses.{with_others}
use Rattle.p10_elabs.proofs.walk.declare_others.Given as goal

abbrev pub invariant-loop-name : goal.invariant-loop-name
invariant-loop-name l =
    with_others (bound_in l.names) (map identifier_of (drop l.name-index l.all)) ≡ with_others (bound_in l.fn.names) (map identifier_of l.all)
