use Rattle.p10_fit.proofs.Speaking.{fit_speaks}
use Rattle.p10_fit.proofs.laws.fit_speaks.Goals as goal

pub returns : goal.returns
returns c = fit_speaks
