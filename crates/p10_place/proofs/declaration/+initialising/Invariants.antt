use Rattle.std.proofs.Common.{◌+◌, ◌*◌}
use Rattle.p10_place.specs.Roots.{source_of}
use Rattle.p10_place.proofs.StatementPlacings.{Placing_initializers}
use Rattle.p10_place.proofs.declaration.+initialising.Given as goal

abbrev pub invariant-set_initializers-loop-i : goal.invariant-set_initializers-loop-i
invariant-set_initializers-loop-i l = record {
  placing : Placing_initializers (source_of l.root) l.i l.first l.fn.all.items l.all.items l.past;
  unvisited : goal.unvisited-set_initializers-loop-i l;
}

-- an initialiser is taken out and put back, so it is above its parts

abbrev pub decreases-set_parts : goal.decreases-set_parts
decreases-set_parts l = 3 * goal.size-set_parts l

abbrev pub decreases-set_initializer : goal.decreases-set_initializer
decreases-set_initializer l = 3 * goal.size-set_initializer l + 1

abbrev pub decreases-set_initializers : goal.decreases-set_initializers
decreases-set_initializers l = 3 * goal.size-set_initializers l + 2
