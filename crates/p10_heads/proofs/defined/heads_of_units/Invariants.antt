use Rattle.std.proofs.Common.{◌≡◌, ◌≤◌, ◌-◌, ◌++◌, map, length, drop}
use Rattle.p10_syn.specs.BuiltStatements.{external_of}
use Rattle.p10_heads.specs.HeadViews.{plain_head}
use Rattle.p10_heads.specs.Heads.{heads_of_roots}
use Rattle.p10_heads.specs.Roots.{roots_of}
use Rattle.p10_heads.proofs.defined.heads_of_units.Given as goal

abbrev pub invariant-loop-place : goal.invariant-loop-place
invariant-loop-place l = record {
  within : l.place ≤ length l.units;
  functions : map plain_head l.functions.items ++ (heads_of_roots l.number (roots_of (map external_of (drop l.place l.units)))).functions ≡ (heads_of_roots 0 (roots_of (map external_of l.units))).functions;
  objects : map plain_head l.objects.items ++ (heads_of_roots l.number (roots_of (map external_of (drop l.place l.units)))).objects ≡ (heads_of_roots 0 (roots_of (map external_of l.units))).objects;
}

abbrev pub decreases-loop-place : goal.decreases-loop-place
decreases-loop-place l = length l.units - l.place
