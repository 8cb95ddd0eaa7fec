use Rattle.p10_core.specs.Views.{plain_statement_form}
use Rattle.p10_elabx.specs.Built.{ruled_form}
use Rattle.p10_elabx.proofs.Seen.{refused_as, forms}
use Rattle.p10_elabx.proofs.judged.form_refused.Goals as goal

pub returns : goal.returns
returns c = refused_as plain_statement_form ruled_form forms c.args.holds c.args.own c.args.found _ c.refused.ensures
