-- The results so far.
use Rattle.std.proofs.Common.{◌≡◌, map, take}
use Rattle.p10_core.specs.Views.{plain_function}
use Rattle.p10_cert.specs.Claims.{value_of}
use Rattle.p10_finder.specs.private.Settling.{any_results}
use Rattle.p10_finder.proofs.results.any_results.Given as goal

abbrev pub invariant-loop-function : goal.invariant-loop-function
invariant-loop-function l = map value_of l.results.items ≡ any_results (map plain_function (take l.function-index l.functions))
