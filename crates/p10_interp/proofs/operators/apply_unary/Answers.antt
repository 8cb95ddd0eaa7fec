-- Of a pointer only `!` is taken.
use Rattle.std.proofs.Common.{sym, subst}
use Rattle.p10_core.specs.Types.{plain_type}
use Rattle.p10_meaning.specs.Scalars.{operated_unary}
use Rattle.p10_interp.specs.private.Views.{Finds}
use Rattle.p10_interp.proofs.operators.apply_unary.Goals as goal

pub returns-in-Pointer : goal.returns-in-Pointer
returns-in-Pointer c = subst (λ x. Finds (operated_unary c.args.op (plain_type c.args.t.now) x) c.args.span c.negate_pointer.result) (sym c.in-Pointer.is) (c.negate_pointer.ensures (plain_type c.args.t.now))
