use Rattle.std.specs.Prelude.{false}
use Rattle.p10_core.specs.Types.{structure}
use Rattle.p10_core.specs.Views.{plain_types}
use Rattle.p10_whole.specs.private.Scalars.{SameScalar}
use Rattle.p10_whole.proofs.scalars.scalar_in_structure.Given as goal

-- the scalar that is looked for lies in the structure that was come to
abbrev pub invariant-loop-turn : goal.invariant-loop-turn
invariant-loop-turn l = SameScalar (plain_types l.types) (structure false l.initial.number) l.initial.place (structure false l.number) l.place
