use Rattle.std.proofs.Common.{◌≡◌, ◌++◌, map, option_map, drop}
use Rattle.p10_core.specs.Types.{plain_type, unqualified}
use Rattle.p10_elabd.specs.Shapes.{ListedParameter}
use Rattle.p10_elabd.specs.Views.{plain_placed}
use Rattle.p10_elab.proofs.prototypes.listed_types.Given as goal

abbrev pub invariant-loop-parameter : goal.invariant-loop-parameter
invariant-loop-parameter l =
    map (option_map plain_type) l.types.items ++ map (λ (p : ListedParameter). option_map unqualified p.type) (map plain_placed (drop l.parameter-index l.parameters))
    ≡ map (λ (p : ListedParameter). option_map unqualified p.type) (map plain_placed l.parameters)
