use Rattle.p10_code.proofs.Computed.{code_agrees}
use Rattle.p10_code.proofs.laws.code_agrees.Goals as goal

pub returns : goal.returns
returns c = code_agrees
