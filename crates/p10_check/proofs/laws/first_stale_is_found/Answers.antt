use Rattle.p10_check.proofs.Stales.{finds_first_stale}
use Rattle.p10_check.proofs.laws.first_stale_is_found.Goals as goal

pub returns : goal.returns
returns c = finds_first_stale
