use Rattle.p10_core.specs.Types.{plain_type}
use Rattle.p10_core.specs.Views.{plain_value}
use Rattle.p10_elabx.specs.Built.{plain_shape, ruled_shape, ruled_type, ruled_value}
use Rattle.p10_elabx.proofs.Seen.{three_found, three_refused, shapes, types, values}
use Rattle.p10_elabx.proofs.allocations.counted_found.Goals as goal

pub returns-in_ok-found-in-Ok : goal.returns-in_ok-found-in-Ok
returns-in_ok-found-in-Ok c =
    three_found plain_shape plain_type plain_value ruled_shape ruled_type ruled_value shapes types values c.args.found c.args.a c.args.b _ c.in-Ok.parts _ _ c.both.ensures c.in-Ok.ensures c.in_ok-found-in-Ok.ensures

pub returns-in-Err : goal.returns-in-Err
returns-in-Err c = three_refused plain_shape plain_type plain_value ruled_shape ruled_type ruled_value shapes types values c.args.found c.args.a c.args.b _ c.in-Err.r _ c.both.ensures c.in-Err.ensures
