use Rattle.p10_whole.proofs.Serving.{none_are}
use Rattle.p10_whole.proofs.library.has_none.Goals as goal

pub returns : goal.returns
returns c = none_are c.args.arguments.now c.is_empty.result c.is_empty.ensures
