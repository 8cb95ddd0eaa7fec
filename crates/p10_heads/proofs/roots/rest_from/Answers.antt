use Rattle.p10_heads.proofs.CutRoots.{rest_is}
use Rattle.p10_heads.proofs.roots.rest_from.Goals as goal

pub returns : goal.returns
returns c = rest_is c.args.place c.args.units.now
