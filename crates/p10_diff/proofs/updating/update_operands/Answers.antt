use Rattle.p10_core.specs.Types.{plain_type}
use Rattle.p10_core.specs.Views.{plain_place, plain_value}
use Rattle.p10_diff.specs.Knowing.{pair_by}
use Rattle.p10_diff.proofs.Updates.{update_told}
use Rattle.p10_diff.proofs.updating.update_operands.Goals as goal

pub returns-clause-are : goal.returns-clause-are
returns-clause-are c =
    update_told (pair_by c.args.p.now) (plain_type c.args.u.now.ty.now) (plain_place c.args.u.now.place.now) (plain_value c.args.u.now.by.now) _ c.args.ranges.now c.part_in.new.ranges c.value_range.new.ranges
    c.if-not-keeps_type.ensures c.is_exact.ensures c.in_ok-part.ensures.is c.in_ok-part.ensures.same c.in_ok-second.ensures.is c.in_ok-second.ensures.same c.variable_in.ensures c.range_in.ensures
