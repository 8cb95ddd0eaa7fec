use Rattle.p10_elabx.specs.Built.{plain_operand, ruled_operand, ruled_values}
use Rattle.p10_elabx.proofs.Seen.{none_of_both, plain_row_of, operands, rows}
use Rattle.p10_elabx.proofs.calls.both_refused.Goals as goal

pub returns : goal.returns
returns c =
    none_of_both plain_operand plain_row_of ruled_operand ruled_values operands rows plain_operand ruled_operand operands c.args.called c.args.arguments c.both.result _ c.both.ensures c.unused.ensures
