use Rattle.p10_code.proofs.Running.{code_is_exact}
use Rattle.p10_code.proofs.laws.code_is_exact.Goals as goal

pub returns : goal.returns
returns c = code_is_exact
