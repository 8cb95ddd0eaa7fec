use Rattle.p10_elabx.specs.Built.{plain_shape, ruled_shape}
use Rattle.p10_elabx.proofs.Seen.{refused_as, shapes}
use Rattle.p10_elabx.proofs.judged.shape_refused.Goals as goal

pub returns : goal.returns
returns c = refused_as plain_shape ruled_shape shapes c.args.holds c.args.own c.args.found _ c.refused.ensures
