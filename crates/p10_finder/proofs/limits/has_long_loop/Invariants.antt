-- No loop of the functions so far has too many turns.
use Rattle.std.proofs.Common.{◌≡◌, drop, map}
use Rattle.p10_cert.specs.Claims.{func_of}
use Rattle.p10_finder.specs.private.Limits.{long_among}
use Rattle.p10_finder.proofs.limits.has_long_loop.Given as goal

abbrev pub invariant-loop-func : goal.invariant-loop-func
invariant-loop-func l = long_among (map func_of (drop l.func-index l.funcs)) ≡ long_among (map func_of l.funcs)
