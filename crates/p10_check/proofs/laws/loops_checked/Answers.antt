use Rattle.std.proofs.Common.{refl}
use Rattle.p10_range.specs.Rows.{fitted_interval, quotients, remainders}
use Rattle.p10_check.proofs.laws.loops_checked.Goals as goal

pub returns : goal.returns
unfolding fitted_interval quotients remainders
returns c = record {
  accepted = refl;
  deep = refl;
  unknown = refl;
  wide = refl;
  task = refl;
  entry = refl;
  back = refl;
  low_rank = refl;
  no_fall = refl;
  few_turns = refl;
  few_steps = refl;
  evidence = refl;
  evidence_rank = refl;
  no_evidence_for_entry = refl;
}
