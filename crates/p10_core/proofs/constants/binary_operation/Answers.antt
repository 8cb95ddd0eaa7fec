use Rattle.p10_core.proofs.Folding.{binary_small}
use Rattle.p10_core.proofs.constants.binary_operation.Goals as goal

pub returns-in-Ok-Ok-clause-small : goal.returns-in-Ok-Ok-clause-small
returns-in-Ok-Ok-clause-small c = binary_small c.args.at c.args.op c.args.kind c.convert.result _ c.apply.result c.or_place.result c.convert.ensures.within c.apply.ensures c.or_place.ensures
