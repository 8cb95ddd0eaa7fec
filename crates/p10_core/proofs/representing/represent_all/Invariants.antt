use Rattle.std.proofs.Common.{◌≡◌, map, take, length}
use Rattle.p10_core.specs.Types.{plain_structure}
use Rattle.p10_core.specs.Representing.{represented}
use Rattle.p10_core.proofs.representing.represent_all.Given as goal

abbrev pub invariant-loop-place : goal.invariant-loop-place
invariant-loop-place l = record {
  long : length l.structures ≡ length l.fn.structures;
  set : map plain_structure l.structures ≡ represented (map plain_structure l.fn.structures) (take l.place l.numbers);
}
