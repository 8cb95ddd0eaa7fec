use Rattle.std.proofs.Common.{◌∙◌, ap}
use Rattle.p10_syn.specs.Bare.{bare_externals}
use Rattle.p10_place.proofs.Same.{same_externals}
use Rattle.p10_place.proofs.place.place_units.Goals as goal

pub returns-clause-same : goal.returns-clause-same
returns-clause-same c = ap bare_externals c.set_units.ensures.placed ∙ same_externals _ _ _
