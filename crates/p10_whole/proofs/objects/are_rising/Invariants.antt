use Rattle.std.proofs.Common.{◌≤◌, map, drop}
use Rattle.p10_core.specs.Views.{plain_literal}
use Rattle.p10_core.specs.WholePrograms.{AreRising}
use Rattle.p10_whole.proofs.objects.are_rising.Given as goal

abbrev pub invariant-loop-literal : goal.invariant-loop-literal
invariant-loop-literal l = record {
  small : l.from ≤ 4294967296;
  rising : AreRising l.from (map plain_literal (drop l.literal-index l.all)) → AreRising 0 (map plain_literal l.all);
}
