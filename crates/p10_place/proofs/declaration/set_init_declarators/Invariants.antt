use Rattle.p10_place.specs.Roots.{source_of}
use Rattle.p10_place.proofs.StatementPlacings.{Placing_declarators}
use Rattle.p10_place.proofs.declaration.set_init_declarators.Given as goal

abbrev pub invariant-loop-i : goal.invariant-loop-i
invariant-loop-i l = Placing_declarators (source_of l.root) l.i l.first l.fn.all.items l.all.items l.past
