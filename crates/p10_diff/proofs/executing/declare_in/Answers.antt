use Rattle.std.proofs.lemmas.Result.{IfOk-weaker}
use Rattle.p10_diff.specs.Knowing.{pair_by, differences_of}
use Rattle.p10_diff.proofs.Statements.{declared_told}
use Rattle.p10_diff.proofs.executing.declare_in.Goals as goal

pub returns-in_ok-e-in-Single : goal.returns-in_ok-e-in-Single
returns-in_ok-e-in-Single c =
    IfOk-weaker _ _ _ (λ r is. declared_told (pair_by c.args.p.now) c.args.n c.args.initial.now c.in-Single.v (differences_of c.args.e) (differences_of c.in_ok-e-in-Single.e) (differences_of r) c.args.after.values
    c.in-Single.is c.in_ok-e-in-Single.ensures is) c.assign.ensures
