use Rattle.std.proofs.Common.{refl}
use Rattle.p10_range.specs.Rows.{fitted_interval, quotients, remainders}
use Rattle.p10_check.proofs.laws.calls_checked.Goals as goal

pub returns : goal.returns
unfolding fitted_interval quotients remainders
returns c = record {
  accepted = refl;
  lacking = refl;
  too_many = refl;
  no_parameter = refl;
  wide = refl;
  rank = refl;
  narrow = refl;
  argument = refl;
  result = refl;
  few_steps = refl;
  few_steps_inside = refl;
  few_calls = refl;
  few_bytes = refl;
  low_prefix = refl;
  low_depth = refl;
  over = refl;
  greatest = refl;
}
