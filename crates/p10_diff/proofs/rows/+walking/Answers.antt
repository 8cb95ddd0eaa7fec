use Rattle.std.specs.Option.{option_map}
use Rattle.p10_range.specs.Ranges.{interval_of}
use Rattle.p10_core.specs.Types.{plain_type}
use Rattle.p10_core.specs.Views.{plain_value}
use Rattle.p10_diff.specs.Listed.{name_of}
use Rattle.p10_diff.specs.Knowing.{pair_by}
use Rattle.p10_diff.proofs.Operators.{value_told, row_told}
use Rattle.p10_diff.proofs.rows.+walking.Goals as goal

pub value_ends-returns-clause-are : goal.value_ends-returns-clause-are
value_ends-returns-clause-are t c =
    value_told (pair_by c.args.p.now) (plain_value c.args.v.now) (name_of c.args.w) c.args.e.now c.row_ends.new.e c.value_range.new.ranges c.in_ok-row.row (option_map interval_of c.in_ok-r.r) c.met_ends.result
    c.in_ok-row.ensures.same c.in_ok-r.ensures.same c.in_ok-row.ensures.are c.in_ok-r.ensures.is c.met_ends.ensures

pub row_ends-returns-in_ok-o-in-Binary-clause-are : goal.row_ends-returns-in_ok-o-in-Binary-clause-are
row_ends-returns-in_ok-o-in-Binary-clause-are t c =
    row_told (pair_by c.args.p.now) c.in-Binary.op c.args.v.now.form c.in-Binary.a c.in-Binary.b c.args.v.now.at (plain_type c.args.v.now.ty) c.deref.result.now c.deref-in-Binary-2.result.now c.deref-in-Binary.result.now c.deref-in-Binary-3.result.now (name_of c.args.w)
    c.args.e.now c.value_ends.new.e c.value_ends-in-Binary.new.e c.find_operands.new.ranges c.in_ok-o-in-Binary.o c.in_ok-left-in-Binary.left c.in_ok-right-in-Binary.right c.operands_ends.result
    c.in-Binary.is c.deref.ensures c.deref-in-Binary.ensures c.deref-in-Binary-2.ensures c.deref-in-Binary-3.ensures c.in_ok-left-in-Binary.ensures.same c.in_ok-right-in-Binary.ensures.same c.in_ok-o-in-Binary.ensures.same
    c.in_ok-left-in-Binary.ensures.are c.in_ok-right-in-Binary.ensures.are c.in_ok-o-in-Binary.ensures.are c.operands_ends.ensures
