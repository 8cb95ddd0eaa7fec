use Rattle.p10_known.proofs.Statements.{passes_keep_types}
use Rattle.p10_known.proofs.laws.ranges_stay_in_their_types.Goals as goal

pub returns : goal.returns
returns c = passes_keep_types
