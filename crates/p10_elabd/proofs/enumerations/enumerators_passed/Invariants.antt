use Rattle.std.proofs.Common.{◌≡◌, map, drop}
use Rattle.p10_syn.specs.Trees.{enumerator_row}
use Rattle.p10_syn.specs.Built.{enumerator_of}
use Rattle.p10_elabx.specs.First.{only_first}
use Rattle.p10_elabd.specs.Declaring.{first_constant, enumerators_passed}
use Rattle.p10_elabd.specs.Views.{plain_standing, told}
use Rattle.p10_elabd.proofs.enumerations.enumerators_passed.Given as goal

abbrev pub invariant-loop-one : goal.invariant-loop-one
invariant-loop-one l =
    enumerators_passed only_first (told l.next l.standing) (enumerator_row (map enumerator_of (drop l.one-index l.all)))
    ≡ enumerators_passed only_first (first_constant (plain_standing l.initial.standing)) (enumerator_row (map enumerator_of l.all))
