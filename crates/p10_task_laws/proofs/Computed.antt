-- Small programs, by computation.
use Rattle.std.proofs.Common.{refl}
use Rattle.p10_int.specs.Operators.{fitted, quotient, remainder}
use Rattle.p10_int.specs.Conversion.{reduced}
use Rattle.p10_core.specs.Sizes.{layout_of}
use Rattle.p10_task_laws.specs.Samples.{SmallProgramsTurn}

pub small_programs_turn : SmallProgramsTurn
unfolding fitted reduced layout_of quotient remainder
small_programs_turn = record {
  left = refl;
  left_run = refl;
  returned = refl;
  returned_run = refl;
  returned_within = refl;
  returned_within_run = refl;
  stays = refl;
  stays_run = refl;
  clause = refl;
  clause_run = refl;
  untrue_exits = refl;
  untrue_run = refl;
}
