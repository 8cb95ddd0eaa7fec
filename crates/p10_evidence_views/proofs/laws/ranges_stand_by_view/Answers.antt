use Rattle.p10_evidence_views.proofs.Ranges.{ranges_stand_by_view}
use Rattle.p10_evidence_views.proofs.laws.ranges_stand_by_view.Goals as goal

pub returns : goal.returns
returns c = ranges_stand_by_view
