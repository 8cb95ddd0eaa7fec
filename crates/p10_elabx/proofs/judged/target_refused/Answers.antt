use Rattle.p10_elabx.specs.Built.{ruled_target}
use Rattle.p10_elabx.proofs.Seen.{plain_target, refused_as, targets}
use Rattle.p10_elabx.proofs.judged.target_refused.Goals as goal

pub returns : goal.returns
returns c = refused_as plain_target ruled_target targets c.args.holds c.args.own c.args.found _ c.refused.ensures
