use Rattle.std.proofs.Common.{map}
use Rattle.p10_core.specs.Views.{plain_program}
use Rattle.p10_cert.specs.Claims.{func_of}
use Rattle.p10_sums.proofs.Listing.{Lists}
use Rattle.p10_sums.proofs.counted.sums.Given as goal

-- those that were found, and those that are left
abbrev pub invariant-loop-number : goal.invariant-loop-number
invariant-loop-number l = Lists (plain_program l.program) (map func_of l.functions) l.found.items l.number l.number-end
