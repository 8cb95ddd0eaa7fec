use Rattle.p10_elabx.specs.Built.{plain_operand, ruled_operand}
use Rattle.p10_elabx.proofs.Seen.{refused_as, operands}
use Rattle.p10_elabx.proofs.judged.operand_refused.Goals as goal

pub returns : goal.returns
returns c = refused_as plain_operand ruled_operand operands c.args.holds c.args.own c.args.found _ c.refused.ensures
