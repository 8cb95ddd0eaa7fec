use Rattle.p10_finder.proofs.Computed.{bounds_at_edges}
use Rattle.p10_finder.proofs.laws.bounds_at_edges.Goals as goal

pub returns : goal.returns
returns c = bounds_at_edges
