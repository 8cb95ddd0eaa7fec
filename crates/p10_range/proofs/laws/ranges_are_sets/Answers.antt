use Rattle.p10_range.proofs.CommonPart.{meet_common}
use Rattle.p10_range.proofs.laws.ranges_are_sets.Goals as goal

pub returns-clause-meet : goal.returns-clause-meet
returns-clause-meet c = meet_common
