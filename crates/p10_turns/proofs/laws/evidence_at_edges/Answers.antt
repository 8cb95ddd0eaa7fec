use Rattle.std.proofs.Common.{refl}
use Rattle.p10_range.specs.Rows.{fitted_interval, quotients, remainders}
use Rattle.p10_turns.proofs.laws.evidence_at_edges.Goals as goal

pub returns : goal.returns
unfolding fitted_interval quotients remainders
returns c = record { counted = refl; few_turns = refl; low_bound = refl; wrong_way = refl; entry_out = refl; back_out = refl; turns_again = refl; later_entry = refl; continued = refl; never_continued = refl; wraps = refl; task = refl; down = refl; down_from_zero = refl; outer = refl; moved_inside = refl; inner = refl; no_loop = refl; no_function = refl }
