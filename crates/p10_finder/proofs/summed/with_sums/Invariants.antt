-- The claims so far, and those that are left.
use Rattle.std.proofs.Common.{◌≡◌, ◌++◌, drop, map}
use Rattle.p10_cert.specs.Claims.{func_of}
use Rattle.p10_finder.specs.private.Counting.{with_sums}
use Rattle.p10_finder.proofs.summed.with_sums.Given as goal

abbrev pub invariant-loop-n : goal.invariant-loop-n
invariant-loop-n l = map func_of l.funcs.items ++ with_sums (map func_of (drop l.n l.claims)) (drop l.n l.sums) ≡ with_sums (map func_of l.claims) l.sums
