use Rattle.std.proofs.Common.{refl}
use Rattle.p10_range.specs.Rows.{fitted_interval, quotients, remainders}
use Rattle.p10_check.proofs.laws.main_checked.Goals as goal

pub returns : goal.returns
unfolding fitted_interval quotients remainders
returns c = record {
  turns = refl;
  few_steps = refl;
  low_turn = refl;
  left = refl;
  late = refl;
  hidden = refl;
  hidden_in_main = refl;
  early = refl;
}
