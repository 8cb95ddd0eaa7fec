use Rattle.std.proofs.Common.{ap}
use Rattle.p10_core.specs.Views.{plain_statement_form}
use Rattle.p10_absx.specs.Trails.{Branching}
use Rattle.p10_pass.specs.Leaving.{values_in, left_of}
use Rattle.p10_pass.specs.Manners.{manner_by}
use Rattle.p10_diff.specs.Knowing.{pair_by}
use Rattle.p10_diff.proofs.Statements.{ranges_told}
use Rattle.p10_diff.proofs.executing.ranges_after.Goals as goal

pub returns : goal.returns
returns c =
    ranges_told (pair_by c.args.p.now) c.args.s.now.at (plain_statement_form c.args.s.now.form) (manner_by c.trial-m.result) c.args.env.values c.forget_declared.new.env.values (left_of c.in_ok-left.left) (values_in c.take.result)
    c.trial-m.ensures (ap (λ (b : Branching). b.values) c.forget_declared.ensures) c.in_ok-left.ensures (ap values_in c.take.ensures.value)
