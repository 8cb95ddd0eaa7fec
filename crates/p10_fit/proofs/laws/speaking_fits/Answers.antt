use Rattle.p10_fit.proofs.Speaking.{speaking_fits}
use Rattle.p10_fit.proofs.laws.speaking_fits.Goals as goal

pub returns : goal.returns
returns c = speaking_fits
