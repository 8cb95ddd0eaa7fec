use Rattle.p10_whole.proofs.Serving.{only_one, not_one}
use Rattle.p10_whole.proofs.library.only_type.Goals as goal

pub returns-then-arguments-eq1 : goal.returns-then-arguments-eq1
returns-then-arguments-eq1 c = only_one c.args.arguments.now c.index-arguments-0.result c.if-arguments-eq1.true

pub returns-else-arguments-eq1 : goal.returns-else-arguments-eq1
returns-else-arguments-eq1 c = not_one c.args.arguments.now c.if-arguments-eq1.false
