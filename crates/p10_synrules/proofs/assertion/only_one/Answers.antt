use Rattle.p10_synrules.proofs.Putting.{not_one}
use Rattle.p10_synrules.proofs.assertion.only_one.Goals as goal

pub returns-else-all-eq1 : goal.returns-else-all-eq1
returns-else-all-eq1 c = not_one c.args.all.now c.if-all-eq1.false
