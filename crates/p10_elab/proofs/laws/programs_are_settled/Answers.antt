use Rattle.p10_elab.proofs.Computed.{programs_are_settled}
use Rattle.p10_elab.proofs.laws.programs_are_settled.Goals as goal

pub returns : goal.returns
returns c = programs_are_settled
