use Rattle.std.proofs.Common.{◌≡◌, map, drop}
use Rattle.p10_core.specs.Types.{plain_type}
use Rattle.p10_linkage.specs.private.Covering.{all_met}
use Rattle.p10_linkage.proofs.alike.all_met.Given as goal

abbrev pub invariant-loop-place : goal.invariant-loop-place
invariant-loop-place l = all_met l.stands (map plain_type (drop l.place l.these)) (map plain_type (drop l.place l.those)) ≡ all_met l.stands (map plain_type l.these) (map plain_type l.those)
