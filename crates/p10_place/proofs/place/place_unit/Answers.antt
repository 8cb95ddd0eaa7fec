use Rattle.std.proofs.Common.{◌∙◌, ap}
use Rattle.p10_syn.specs.Bare.{bare_external}
use Rattle.p10_place.proofs.Same.{same_external}
use Rattle.p10_place.proofs.place.place_unit.Goals as goal

pub returns-clause-same : goal.returns-clause-same
returns-clause-same c = ap bare_external c.set_unit.ensures.placed ∙ same_external _ _ _
