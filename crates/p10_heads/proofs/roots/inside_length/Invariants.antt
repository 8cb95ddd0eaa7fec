use Rattle.std.proofs.Common.{◌≡◌, ◌+◌, map, drop}
use Rattle.p10_syn.specs.BuiltStatements.{external_of}
use Rattle.p10_heads.specs.private.Cut.{inside_length}
use Rattle.p10_heads.proofs.roots.inside_length.Given as goal

abbrev pub invariant-loop-unit : goal.invariant-loop-unit
invariant-loop-unit l = record {
  place : l.count ≡ l.unit-index;
  is : l.count + inside_length (map external_of (drop l.unit-index l.units)) ≡ inside_length (map external_of l.units);
}
