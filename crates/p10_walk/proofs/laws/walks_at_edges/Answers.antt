use Rattle.std.proofs.Common.{refl}
use Rattle.p10_walk.proofs.laws.walks_at_edges.Goals as goal

pub returns : goal.returns
returns c = record { branches = refl; broken = refl; returned = refl; forgotten = refl; tested = refl; tested_after = refl; continued = refl; never_back = refl }
