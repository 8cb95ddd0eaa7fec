use Rattle.std.proofs.Common.{refl}
use Rattle.p10_range.specs.Rows.{fitted_interval, quotients, remainders}
use Rattle.p10_pass.proofs.laws.loops_at_edges.Goals as goal

pub returns : goal.returns
unfolding fitted_interval quotients remainders
returns c = record { counted = refl; counted_ranked = refl; counted_result = refl; few_turns = refl; low_bound = refl; entry_out = refl; back_out = refl; no_turn_back = refl; continued = refl; wraps = refl; task = refl; task_back = refl; task_ends_nowhere = refl }
