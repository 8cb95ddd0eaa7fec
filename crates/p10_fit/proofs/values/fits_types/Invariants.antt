use Rattle.std.proofs.Common.{◌≡◌, map, length}
use Rattle.p10_core.specs.Views.{plain_variable}
use Rattle.p10_cert.specs.Claims.{value_of}
use Rattle.p10_fit.specs.Fits.{fits_types}
use Rattle.p10_fit.proofs.values.fits_types.Given as goal

abbrev pub invariant-loop-variables : goal.invariant-loop-variables
invariant-loop-variables l =
    fits_types (map (λ v. (plain_variable v).type) l.initial.variables) (map value_of l.initial.claims)
    ≡ fits_types (map (λ v. (plain_variable v).type) l.variables) (map value_of l.claims)

abbrev pub decreases-loop-variables : goal.decreases-loop-variables
decreases-loop-variables l = length l.variables
