use Rattle.p10_place.specs.Roots.{source_of}
use Rattle.p10_place.proofs.StatementPlacings.{Placing_units}
use Rattle.p10_place.proofs.external.set_units.Given as goal

abbrev pub invariant-loop-i : goal.invariant-loop-i
invariant-loop-i l = Placing_units (source_of l.root) l.i l.first l.fn.units.items l.units.items l.past
