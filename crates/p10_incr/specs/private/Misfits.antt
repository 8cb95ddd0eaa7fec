-- Whether K1 is among the failing conditions that speak of no values and sums.
use Rattle.std.specs.Prelude.{nat_eq, if◌then◌else◌, List, [], ◌∷◌, Option, Some, None}
use Rattle.p10_pass.specs.Passing.{Failing}

-- the first of some failing conditions, if it is K1
abbrev pub misfit_in : List Failing → Option Failing
misfit_in [] = None
misfit_in (e ∷ rest) = if nat_eq e.k 1 then Some e else None
