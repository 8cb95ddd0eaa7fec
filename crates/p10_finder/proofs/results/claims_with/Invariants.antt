-- The claims so far, and those that are left.
use Rattle.std.proofs.Common.{◌≡◌, ◌++◌, drop, map}
use Rattle.p10_core.specs.Views.{plain_function}
use Rattle.p10_cert.specs.Claims.{value_of, func_of}
use Rattle.p10_finder.specs.private.Settling.{with_results}
use Rattle.p10_finder.proofs.results.claims_with.Given as goal

abbrev pub invariant-loop-n : goal.invariant-loop-n
invariant-loop-n l = map func_of l.funcs.items ++ with_results (map plain_function (drop l.n l.functions)) (map value_of (drop l.n l.results)) ≡ with_results (map plain_function l.functions) (map value_of l.results)
