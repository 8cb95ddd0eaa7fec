use Rattle.p10_code.proofs.ConstantRunning.{constant_is_exact}
use Rattle.p10_code.proofs.laws.constant_code_is_exact.Goals as goal

pub returns : goal.returns
returns c = constant_is_exact
