use Rattle.p10_core.specs.Views.{plain_statement_form}
use Rattle.p10_elabx.specs.Built.{plain_operand, ruled_form, ruled_operand}
use Rattle.p10_elabx.proofs.Seen.{unused_as, forms, operands}
use Rattle.p10_elabx.proofs.targets.no_operand.Goals as goal

pub returns : goal.returns
returns c = unused_as plain_statement_form ruled_form forms plain_operand ruled_operand operands c.args.found _ c.unused.ensures
