use Rattle.p10_core.specs.Types.{plain_type}
use Rattle.p10_diff.specs.Knowing.{pair_by}
use Rattle.p10_diff.proofs.Updates.{assigned_by}
use Rattle.p10_diff.proofs.executing.update_in.Goals as goal

pub returns-in_ok-operands-in-Var : goal.returns-in_ok-operands-in-Var
returns-in_ok-operands-in-Var c =
    assigned_by (pair_by c.args.p.now) c.args.op (plain_type c.args.u.now.ty.now) (plain_type c.args.u.now.place.now.ty) c.args.u.now.place.now.at c.args.u.now.place.now.form c.in-Var.n c.args.u.now.by c.in_ok-operands-in-Var.operands
    c.args.e c.update_operands.new.ranges c.args.after.values c.assign.result c.in-Var.is c.in_ok-operands-in-Var.ensures.same c.in_ok-operands-in-Var.ensures.are c.assign.ensures
