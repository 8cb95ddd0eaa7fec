use Rattle.p10_core.specs.Views.{plain_value}
use Rattle.p10_elabx.specs.Built.{plain_shape, ruled_shape, ruled_value}
use Rattle.p10_elabx.proofs.Seen.{both_found, both_refused, shapes, values}
use Rattle.p10_elabx.proofs.casts.both_cast.Goals as goal

pub returns-in_ok-found-in-Ok : goal.returns-in_ok-found-in-Ok
returns-in_ok-found-in-Ok c =
    both_found plain_shape plain_value ruled_shape ruled_value shapes values c.args.a c.args.b c.in-Ok.parts _ _ c.in-Ok.ensures c.in_ok-found-in-Ok.ensures

pub returns-in-Err : goal.returns-in-Err
returns-in-Err c = both_refused plain_shape plain_value ruled_shape ruled_value shapes values c.args.a c.args.b c.in-Err.r _ c.in-Err.ensures
