use Rattle.std.proofs.Common.{◌≡◌, true, false, length}
use Rattle.p10_elabx.specs.First.{only_first}
use Rattle.p10_elabd.specs.Views.{plain_standing}
use Rattle.p10_elabs.specs.Marks.{marks_noted}
use Rattle.p10_elabs.proofs.marks.marks_noted.Given as goal

abbrev pub invariant-loop-rest : goal.invariant-loop-rest
invariant-loop-rest l =
    marks_noted only_first l.first l.init l.task l.rest (plain_standing l.standing)
    ≡ marks_noted only_first true false false l.kinds (plain_standing l.fn.standing)

abbrev pub decreases-loop-rest : goal.decreases-loop-rest
decreases-loop-rest l = length l.rest
