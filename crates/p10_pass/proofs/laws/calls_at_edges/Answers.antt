use Rattle.std.proofs.Common.{refl}
use Rattle.p10_range.specs.Rows.{fitted_interval, quotients, remainders}
use Rattle.p10_pass.proofs.laws.calls_at_edges.Goals as goal

pub returns : goal.returns
unfolding fitted_interval quotients remainders
returns c = record { fine = refl; fine_inside = refl; argument = refl; result = refl; result_inside = refl; returned = refl }
