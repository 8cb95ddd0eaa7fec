use Rattle.std.proofs.Common.{◌≡◌, map, drop}
use Rattle.p10_elabd.specs.Views.{plain_parameter}
use Rattle.p10_elabs.specs.Addresses.{with_parameters}
use Rattle.p10_elabs.specs.private.Walking.{plain_walk}
use Rattle.p10_elabs.proofs.walk.Walk.declare_parameters.Given as goal

abbrev pub invariant-loop-parameter : goal.invariant-loop-parameter
invariant-loop-parameter l =
    with_parameters (plain_walk l.self) (map plain_parameter (drop l.parameter-index l.all))
    ≡ with_parameters (plain_walk l.fn.self) (map plain_parameter l.all)
