use Rattle.p10_difference_views.proofs.Stands.{differences_stand_by_view}
use Rattle.p10_difference_views.proofs.laws.differences_stand_by_view.Goals as goal

pub returns : goal.returns
returns c = differences_stand_by_view
