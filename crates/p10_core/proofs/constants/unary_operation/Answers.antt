use Rattle.p10_core.proofs.Folding.{unary_small}
use Rattle.p10_core.proofs.constants.unary_operation.Goals as goal

pub returns-in-Ok-clause-small : goal.returns-in-Ok-clause-small
returns-in-Ok-clause-small c = unary_small c.args.at c.args.op c.args.kind c.convert.result c.unary.result c.or_place.result c.convert.ensures.within c.unary.ensures c.or_place.ensures
