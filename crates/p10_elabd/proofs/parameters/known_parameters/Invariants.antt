use Rattle.std.proofs.Common.{◌≡◌, map, drop}
use Rattle.p10_elabd.specs.Shapes.{known_parameters}
use Rattle.p10_elabd.specs.Views.{plain_known, plain_placed}
use Rattle.p10_elabd.proofs.KnownParameters.{after_known}
use Rattle.p10_elabd.proofs.parameters.known_parameters.Given as goal

abbrev pub invariant-loop-one : goal.invariant-loop-one
invariant-loop-one l = after_known (plain_known l.known) (known_parameters (map plain_placed (drop l.one-index l.all))) ≡ known_parameters (map plain_placed l.all)
