use Rattle.std.proofs.Common.{refl}
use Rattle.p10_int.specs.Operators.{fitted, quotient, remainder, shifted_left, shifted_right}
use Rattle.p10_range.specs.Rows.{fitted_interval, quotients, remainders, shifts_left, shifts_right}
use Rattle.p10_clean.proofs.laws.places_at_edges.Goals as goal

pub returns : goal.returns
unfolding fitted quotient remainder shifted_left shifted_right fitted_interval quotients remainders shifts_left shifts_right
returns c = record { last = refl; past = refl; before = refl; written = refl; address_past = refl; dereferenced = refl; compared = refl; ordered = refl; freed = refl; literal_read = refl; literal_written = refl }
