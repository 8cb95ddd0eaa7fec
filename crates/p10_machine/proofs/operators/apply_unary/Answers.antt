-- Of a pointer only `!` is taken.
use Rattle.std.proofs.Common.{false, sym, subst}
use Rattle.p10_core.specs.Types.{integer}
use Rattle.p10_meaning.specs.Scalars.{operated_unary}
use Rattle.p10_machine.specs.Turns.{Finds}
use Rattle.p10_machine.proofs.operators.apply_unary.Goals as goal

pub returns-in-Pointer : goal.returns-in-Pointer
returns-in-Pointer c = subst (λ x. Finds (operated_unary c.args.op (integer false c.args.t) x) c.negate_pointer.result) (sym c.in-Pointer.is) (c.negate_pointer.ensures (integer false c.args.t))
