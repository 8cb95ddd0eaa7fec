use Rattle.p10_core.specs.Views.{plain_value}
use Rattle.p10_elabx.specs.Built.{ruled_form, ruled_target, ruled_value}
use Rattle.p10_elabx.proofs.Seen.{both_made, both_refused, plain_target, targets, values}
use Rattle.p10_elabx.proofs.targets.assignment_found.Goals as goal

pub returns-in-Ok : goal.returns-in-Ok
returns-in-Ok c = both_made plain_target plain_value ruled_target ruled_value targets values c.args.a c.args.b c.in-Ok.parts _ ruled_form _ c.in-Ok.ensures c.assigned.ensures

pub returns-in-Err : goal.returns-in-Err
returns-in-Err c = both_refused plain_target plain_value ruled_target ruled_value targets values c.args.a c.args.b c.in-Err.r _ c.in-Err.ensures
