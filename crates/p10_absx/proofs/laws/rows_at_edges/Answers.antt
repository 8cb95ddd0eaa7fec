use Rattle.std.proofs.Common.{refl}
use Rattle.p10_range.specs.Rows.{fitted_interval, quotients, shifts_right}
use Rattle.p10_absx.proofs.laws.rows_at_edges.Goals as goal

pub returns-clause-values : goal.returns-clause-values
unfolding fitted_interval quotients shifts_right
returns-clause-values c = record { one_more = refl; only_one = refl; out_of_scope = refl; by_zero = refl; sum_without = refl; test_without = refl; called_without = refl; called_claimed = refl; byte_read = refl; surely = refl; never_so = refl; perhaps = refl; chosen = refl; pointers = refl }

pub returns-clause-offsets : goal.returns-clause-offsets
unfolding fitted_interval quotients shifts_right
returns-clause-offsets c = record { one_more = refl; turned = refl; halved = refl; shifted = refl; not_halved = refl; wraps = refl; held = refl; not_held = refl; too_far = refl }

pub returns-clause-tests : goal.returns-clause-tests
unfolding fitted_interval quotients shifts_right
returns-clause-tests c = record { below_ten = refl; not_below_ten = refl; other_side = refl; itself = refl; never_itself = refl; end_dropped = refl; inside_stays = refl; only_dropped = refl; truth = refl; converted = refl; converted_held = refl; both = refl; not_both = refl; one_of = refl; neither = refl; checked = refl; written_test = refl; pointer = refl; without = refl }
