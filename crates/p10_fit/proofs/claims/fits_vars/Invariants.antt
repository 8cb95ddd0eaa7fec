use Rattle.std.proofs.Common.{◌≡◌, length}
use Rattle.std.specs.List.{list_all}
use Rattle.p10_core.specs.Views.{plain_function}
use Rattle.p10_fit.specs.Fits.{fits_variable}
use Rattle.p10_fit.proofs.claims.fits_vars.Given as goal

abbrev pub invariant-loop-claim : goal.invariant-loop-claim
invariant-loop-claim l =
    list_all (fits_variable (plain_function l.function) l.scope.numbers.items) l.claims
    ≡ list_all (fits_variable (plain_function l.function) l.scope.numbers.items) l.left

abbrev pub decreases-loop-claim : goal.decreases-loop-claim
decreases-loop-claim l = length l.left
