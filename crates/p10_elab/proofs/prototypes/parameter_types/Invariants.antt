use Rattle.std.proofs.Common.{◌≡◌, ◌++◌, map, drop}
use Rattle.p10_core.specs.Types.{plain_type, unqualified}
use Rattle.p10_elabd.specs.Shapes.{PlainParameter}
use Rattle.p10_elabd.specs.Views.{plain_parameter}
use Rattle.p10_elab.proofs.prototypes.parameter_types.Given as goal

abbrev pub invariant-loop-parameter : goal.invariant-loop-parameter
invariant-loop-parameter l =
    map plain_type l.types.items ++ map (λ (p : PlainParameter). unqualified p.type) (map plain_parameter (drop l.parameter-index l.parameters))
    ≡ map (λ (p : PlainParameter). unqualified p.type) (map plain_parameter l.parameters)
