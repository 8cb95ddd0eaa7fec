use Rattle.std.proofs.Common.{refl}
use Rattle.p10_range.specs.Rows.{fitted_interval, quotients, remainders}
use Rattle.p10_diff.proofs.laws.differences_at_edges.Goals as goal

pub returns : goal.returns
unfolding fitted_interval quotients remainders
returns c = record { search = refl; few_turns = refl; less = refl; no_step = refl; other_way = refl; no_name = refl; other_loop = refl; meet = refl; meet_few = refl; fact_holds = refl; fact_at_entry = refl }
