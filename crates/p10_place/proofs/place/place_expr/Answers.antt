use Rattle.std.proofs.Common.{◌∙◌, ap}
use Rattle.p10_syn.specs.Bare.{bare}
use Rattle.p10_syn.specs.Built.{bare_of}
use Rattle.p10_place.proofs.Same.{same}
use Rattle.p10_place.proofs.place.place_expr.Goals as goal

pub returns-clause-same : goal.returns-clause-same
unfolding bare_of
returns-clause-same c = ap bare c.set_expression.ensures.placed ∙ same _ _ _
