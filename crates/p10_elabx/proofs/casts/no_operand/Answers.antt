use Rattle.p10_elabx.specs.Built.{plain_operand, ruled_values, ruled_operand}
use Rattle.p10_elabx.proofs.Seen.{unused_as, plain_row_of, rows, operands}
use Rattle.p10_elabx.proofs.casts.no_operand.Goals as goal

pub returns : goal.returns
returns c = unused_as plain_row_of ruled_values rows plain_operand ruled_operand operands c.args.found _ c.unused.ensures
