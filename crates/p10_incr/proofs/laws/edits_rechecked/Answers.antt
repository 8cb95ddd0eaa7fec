use Rattle.std.proofs.Common.{refl}
use Rattle.p10_range.specs.Rows.{fitted_interval, quotients, remainders}
use Rattle.p10_incr.proofs.laws.edits_rechecked.Goals as goal

pub returns : goal.returns
unfolding fitted_interval quotients remainders
returns c = record {
  accepted = refl;
  both = refl;
  second = refl;
  neither = refl;
  fit = refl;
  rank = refl;
  total = refl;
  steps = refl;
  stale = refl;
  unfit = refl;
}
