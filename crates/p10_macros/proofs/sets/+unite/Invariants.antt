use Rattle.std.proofs.Common.{◌+◌}
use Rattle.p10_macros.proofs.sets.+unite.Given as goal

abbrev pub decreases-unite : goal.decreases-unite
decreases-unite l = l.these + l.those
