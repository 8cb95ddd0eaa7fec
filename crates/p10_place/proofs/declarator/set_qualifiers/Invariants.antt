use Rattle.p10_place.specs.Roots.{source_of}
use Rattle.p10_place.proofs.Placings.{Placing_qualifiers}
use Rattle.p10_place.proofs.declarator.set_qualifiers.Given as goal

abbrev pub invariant-loop-i : goal.invariant-loop-i
invariant-loop-i l = Placing_qualifiers (source_of l.root) l.i l.first l.fn.qualifiers.items l.qualifiers.items l.past
