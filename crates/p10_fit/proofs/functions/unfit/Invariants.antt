use Rattle.std.proofs.Common.{◌≡◌, ◌+◌, map, length}
use Rattle.p10_core.specs.Views.{plain_function, plain_program}
use Rattle.p10_cert.specs.Claims.{func_of}
use Rattle.p10_fit.specs.Fits.{unfit_from}
use Rattle.p10_fit.proofs.functions.unfit.Given as goal

abbrev pub invariant-loop-functions : goal.invariant-loop-functions
invariant-loop-functions l = record {
  same : unfit_from (plain_program l.program) 0 (map plain_function l.initial.functions) (map func_of l.initial.claims)
      ≡ unfit_from (plain_program l.program) l.number (map plain_function l.functions) (map func_of l.claims);
  count : l.number + length l.functions ≡ length l.initial.functions;
}

abbrev pub decreases-loop-functions : goal.decreases-loop-functions
decreases-loop-functions l = length l.functions
