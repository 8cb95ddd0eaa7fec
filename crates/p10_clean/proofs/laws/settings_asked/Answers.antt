use Rattle.std.proofs.Common.{refl}
use Rattle.p10_int.specs.Operators.{fitted, quotient, remainder, shifted_left, shifted_right}
use Rattle.p10_range.specs.Rows.{fitted_interval, quotients, remainders, shifts_left, shifts_right}
use Rattle.p10_clean.proofs.laws.settings_asked.Goals as goal

pub returns : goal.returns
unfolding fitted quotient remainder shifted_left shifted_right fitted_interval quotients remainders shifts_left shifts_right
returns c = record { unset = refl; set_before = refl; by_itself = refl; on_one_way = refl; object_unset = refl; object_in_itself = refl; no_return = refl; by_number_first = refl }
