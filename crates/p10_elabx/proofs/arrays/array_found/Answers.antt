use Rattle.p10_core.specs.Types.{plain_type}
use Rattle.p10_elabx.specs.Built.{ruled_shape, ruled_type}
use Rattle.p10_elabx.proofs.Seen.{both_made, both_refused, types, lengths}
use Rattle.p10_elabx.proofs.arrays.array_found.Goals as goal

pub returns-in-Ok : goal.returns-in-Ok
returns-in-Ok c = both_made plain_type (λ n. n) ruled_type (λ r. r) types lengths c.args.a c.args.b c.in-Ok.parts _ ruled_shape _ c.in-Ok.ensures c.array_of.ensures

pub returns-in-Err : goal.returns-in-Err
returns-in-Err c = both_refused plain_type (λ n. n) ruled_type (λ r. r) types lengths c.args.a c.args.b c.in-Err.r _ c.in-Err.ensures
