use Rattle.p10_synrules.proofs.Lines.{between_is}
use Rattle.p10_synrules.proofs.function.between.Goals as goal

pub returns : goal.returns
returns c = between_is c.args.text.now c.args.first c.args.last c.min-end.result c.min-start.result c.min-end.ensures c.min-start.ensures
