use Rattle.std.proofs.Common.{◌≡◌, map, take}
use Rattle.p10_core.specs.Types.{plain_structure}
use Rattle.p10_core.specs.Representing.{representatives}
use Rattle.p10_core.proofs.representing.representatives_of.Given as goal

abbrev pub invariant-loop-structure : goal.invariant-loop-structure
invariant-loop-structure l = l.numbers.items ≡ representatives (map plain_structure (take l.structure-index l.structures))
