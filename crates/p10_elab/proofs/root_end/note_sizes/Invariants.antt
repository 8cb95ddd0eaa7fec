use Rattle.std.proofs.Common.{◌≡◌, map, drop}
use Rattle.p10_elabx.specs.First.{only_first}
use Rattle.p10_elabd.specs.Views.{plain_standing}
use Rattle.p10_elab.specs.RootEnds.{sizes_noted}
use Rattle.p10_elab.specs.OuterViews.{plain_tentative}
use Rattle.p10_elab.proofs.root_end.note_sizes.Given as goal

abbrev pub invariant-loop-one : goal.invariant-loop-one
invariant-loop-one l = sizes_noted only_first (map plain_tentative (drop l.one-index l.all)) (plain_standing l.standing) ≡ sizes_noted only_first (map plain_tentative l.all) (plain_standing l.fn.standing)
