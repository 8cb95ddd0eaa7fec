use Rattle.std.proofs.Common.{map, length}
use Rattle.p10_syn.specs.BuiltStatements.{external_of}
use Rattle.p10_parse.proofs.UnitSteps.{Done, words_of}
use Rattle.p10_parse.proofs.program.units.Given as goal

abbrev pub invariant-loop-rest : goal.invariant-loop-rest
invariant-loop-rest l = Done (words_of l.roots) (words_of l.rest) l.before (map external_of l.all.items)

abbrev pub decreases-loop-rest : goal.decreases-loop-rest
decreases-loop-rest l = length l.rest
