use Rattle.std.proofs.Common.{◌≡◌, ◌++◌, map, drop}
use Rattle.p10_syn.specs.Trees.{enumerator_row}
use Rattle.p10_syn.specs.Built.{identifier_of, enumerator_of}
use Rattle.p10_elabs.specs.Addresses.{constants_named}
use Rattle.p10_elabs.proofs.constants.put_enumerators.Given as goal

abbrev pub invariant-loop-enumerator : goal.invariant-loop-enumerator
invariant-loop-enumerator l =
    map identifier_of l.into.items ++ constants_named (enumerator_row (map enumerator_of (drop l.enumerator-index l.all)))
    ≡ map identifier_of l.fn.into.items ++ constants_named (enumerator_row (map enumerator_of l.all))
