-- The code of small programs, run.
use Rattle.std.proofs.Common.{refl}
use Rattle.p10_int.specs.Operators.{fitted}
use Rattle.p10_int.specs.Conversion.{reduced}
use Rattle.p10_core.specs.Sizes.{layout_of}
use Rattle.p10_code.specs.Examples.{CodeAgrees}

pub code_agrees : CodeAgrees
unfolding fitted reduced layout_of
code_agrees = record {
  loops = refl;
  loops_short = refl;
  objects = refl;
  objects_short = refl;
  recursion = refl;
  recursion_short = refl;
  labels = refl;
  labels_short = refl;
}
