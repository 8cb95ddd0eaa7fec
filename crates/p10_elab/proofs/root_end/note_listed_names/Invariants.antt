use Rattle.std.proofs.Common.{◌≡◌, map, drop}
use Rattle.p10_elabx.specs.First.{only_first}
use Rattle.p10_elabd.specs.Views.{plain_placed, plain_standing}
use Rattle.p10_elab.specs.Outer.{listed_names_noted}
use Rattle.p10_elab.proofs.root_end.note_listed_names.Given as goal

abbrev pub invariant-loop-parameter : goal.invariant-loop-parameter
invariant-loop-parameter l =
    listed_names_noted only_first (map plain_placed (drop l.parameter-index l.parameters)) (plain_standing l.standing) ≡ listed_names_noted only_first (map plain_placed l.parameters) (plain_standing l.fn.standing)
