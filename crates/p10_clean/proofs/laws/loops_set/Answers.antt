use Rattle.std.proofs.Common.{refl}
use Rattle.p10_clean.proofs.laws.loops_set.Goals as goal

pub returns : goal.returns
returns c = record { while_body = refl; while_break = refl; before_while = refl; first_clause = refl; third_clause = refl; do_body = refl; do_continue = refl; do_break = refl; do_return = refl }
