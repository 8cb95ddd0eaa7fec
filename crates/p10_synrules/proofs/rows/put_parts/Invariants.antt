use Rattle.std.proofs.Common.{◌≡◌, ◌++◌, map, take}
use Rattle.std.specs.List.{flat_map}
use Rattle.p10_synrules.specs.private.Views.{plain_part}
use Rattle.p10_synrules.specs.private.Listing.{part_violations}
use Rattle.p10_synrules.proofs.rows.put_parts.Given as goal

-- the violations by the parts so far were put down
abbrev pub invariant-loop-part : goal.invariant-loop-part
invariant-loop-part l = l.violations.items ≡ l.initial.violations.items ++ flat_map (part_violations l.sources) (map plain_part (take l.part-index l.parts.items))
