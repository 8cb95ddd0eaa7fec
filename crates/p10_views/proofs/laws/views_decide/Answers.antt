use Rattle.p10_views.proofs.Failures.{views_decide}
use Rattle.p10_views.proofs.laws.views_decide.Goals as goal

pub returns : goal.returns
returns c = views_decide
