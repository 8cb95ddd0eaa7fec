use Rattle.std.proofs.Common.{ap}
use Rattle.p10_elabx.specs.Built.{plain_operand, plain_shape, ruled_operand, ruled_shape}
use Rattle.p10_elabx.proofs.Seen.{both_found, both_refused, operands, shapes}
use Rattle.p10_elabx.proofs.allocations.other_found.Goals as goal

pub returns-in-Ok : goal.returns-in-Ok
returns-in-Ok c =
    both_found plain_shape plain_operand ruled_shape ruled_operand shapes operands c.args.found c.args.call c.in-Ok.parts _ _ c.in-Ok.ensures (ap ruled_operand c.without.ensures)

pub returns-in-Err : goal.returns-in-Err
returns-in-Err c = both_refused plain_shape plain_operand ruled_shape ruled_operand shapes operands c.args.found c.args.call c.in-Err.r _ c.in-Err.ensures
