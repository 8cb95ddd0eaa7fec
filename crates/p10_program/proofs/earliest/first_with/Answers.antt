use Rattle.p10_program.proofs.FirstUses.{joined_first}
use Rattle.p10_program.proofs.earliest.first_with.Goals as goal

pub returns : goal.returns
returns c = joined_first c.args.found c.args.next c.joined.result c.joined.ensures
