use Rattle.std.proofs.Common.{◌≡◌, ◌≤◌, ◌-◌, map, length, drop}
use Rattle.p10_syn.specs.BuiltStatements.{external_of}
use Rattle.p10_elabx.specs.First.{only_first}
use Rattle.p10_heads.specs.PlainHeads.{plain_heads}
use Rattle.p10_heads.specs.Roots.{roots_of}
use Rattle.p10_elab.specs.RootEnds.{roots_passed}
use Rattle.p10_elab.specs.KnownViews.{plain_known}
use Rattle.p10_elab.proofs.root_walk.roots_passed.Given as goal

abbrev pub invariant-loop-place : goal.invariant-loop-place
invariant-loop-place l = record {
  within : l.place ≤ length l.units;
  passed : roots_passed only_first (plain_heads l.heads) (plain_known l.known) (roots_of (map external_of (drop l.place l.units))) ≡ roots_passed only_first (plain_heads l.heads) (plain_known l.fn.known) (roots_of (map external_of l.units));
}

abbrev pub decreases-loop-place : goal.decreases-loop-place
decreases-loop-place l = length l.units - l.place
