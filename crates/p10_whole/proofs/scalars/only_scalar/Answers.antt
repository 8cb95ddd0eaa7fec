use Rattle.std.proofs.Common.{◌∙◌, sym}
use Rattle.p10_core.specs.Types.{plain_type}
use Rattle.p10_whole.proofs.ScalarPlaces.{scalar_itself}
use Rattle.p10_whole.proofs.scalars.only_scalar.Goals as goal

pub returns-then-is_scalar : goal.returns-then-is_scalar
returns-then-is_scalar c = λ ss. scalar_itself ss (plain_type c.args.part.ty.now) c.args.part.place c.if-part-eq0.true (sym c.is_scalar.ensures ∙ c.if-is_scalar.true)
