use Rattle.p10_elabx.specs.Built.{plain_shape, plain_size, ruled_shape, ruled_size}
use Rattle.p10_elabx.proofs.Seen.{three_found, three_refused, shapes, sizes}
use Rattle.p10_elabx.proofs.allocations.two_found.Goals as goal

pub returns-in_ok-found-in-Ok : goal.returns-in_ok-found-in-Ok
returns-in_ok-found-in-Ok c =
    three_found plain_shape plain_size plain_size ruled_shape ruled_size ruled_size shapes sizes sizes c.args.found c.args.a c.args.b _ c.in-Ok.parts _ _ c.both.ensures c.in-Ok.ensures c.in_ok-found-in-Ok.ensures

pub returns-in-Err : goal.returns-in-Err
returns-in-Err c = three_refused plain_shape plain_size plain_size ruled_shape ruled_size ruled_size shapes sizes sizes c.args.found c.args.a c.args.b _ c.in-Err.r _ c.both.ensures c.in-Err.ensures
