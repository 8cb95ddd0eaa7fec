-- The parameters so far.
use Rattle.std.proofs.Common.{◌≡◌, map, take}
use Rattle.p10_core.specs.Views.{plain_variable}
use Rattle.p10_core.specs.Typed.{PlainVariable}
use Rattle.p10_cert.specs.Claims.{value_of}
use Rattle.p10_finder.specs.Functions.{any_value}
use Rattle.p10_finder.proofs.unsummed.any_parameters.Given as goal

abbrev pub invariant-loop-k : goal.invariant-loop-k
invariant-loop-k l = map value_of l.params.items ≡ map (λ (v : PlainVariable). any_value v.type) (take l.k (map plain_variable l.variables))
