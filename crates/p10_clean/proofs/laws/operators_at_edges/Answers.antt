use Rattle.std.proofs.Common.{refl}
use Rattle.p10_int.specs.Operators.{fitted, quotient, remainder, shifted_left, shifted_right}
use Rattle.p10_range.specs.Rows.{fitted_interval, quotients, remainders, shifts_left, shifts_right}
use Rattle.p10_clean.proofs.laws.operators_at_edges.Goals as goal

pub returns : goal.returns
unfolding fitted quotient remainder shifted_left shifted_right fitted_interval quotients remainders shifts_left shifts_right
returns c = record { divides = refl; divides_five = refl; adds = refl; adds_below = refl; adds_at_the_end = refl; adds_too_much = refl; negates = refl; least_by_minus_one = refl; shifts = refl; shifts_too_far = refl; shifts_negative = refl; never_reached = refl }
