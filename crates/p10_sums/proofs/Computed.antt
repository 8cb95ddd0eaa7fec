-- The sums of small programs, by computation.
use Rattle.std.proofs.Common.{refl}
use Rattle.p10_core.specs.Sizes.{layout_of}
use Rattle.p10_sums.specs.Worked.{WorkedSums}

pub worked_sums : WorkedSums
unfolding layout_of
worked_sums = record {
  one_loop = refl;
  early_return = refl;
  while_loop = refl;
  do_loop = refl;
  task_loop = refl;
  allocating = refl;
  calling = refl;
  ring_main = refl;
  listed_scalars = refl;
  copied_structure = refl;
  branches = refl;
  all_cases = refl;
  unclaimed = refl;
  no_turns = refl;
  absent = refl;
}
