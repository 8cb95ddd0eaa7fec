use Rattle.p10_core.specs.Types.{plain_type}
use Rattle.p10_core.specs.Views.{plain_value}
use Rattle.p10_diff.specs.Knowing.{pair_by}
use Rattle.p10_diff.proofs.Operators.{operands_told}
use Rattle.p10_diff.proofs.operands.find_operands.Goals as goal

pub returns-clause-are : goal.returns-clause-are
returns-clause-are c =
    operands_told (pair_by c.args.p.now) (plain_type c.args.t.now) (plain_value c.args.a.now) (plain_value c.args.b.now) _ c.args.ranges.now c.named.new.ranges c.part_in.new.ranges c.value_range.new.ranges
    c.is_exact.ensures c.in_ok-variable.ensures.is c.in_ok-variable.ensures.same c.in_ok-part.ensures.is c.in_ok-part.ensures.same c.in_ok-first.ensures.is c.in_ok-first.ensures.same c.in_ok-second.ensures.is
