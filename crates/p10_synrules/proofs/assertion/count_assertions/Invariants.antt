use Rattle.std.proofs.Common.{◌≡◌, map, take}
use Rattle.std.specs.Prelude.{count_by}
use Rattle.p10_synrules.specs.Assertions.{is_sound_assertion}
use Rattle.p10_synrules.specs.private.Views.{plain_part}
use Rattle.p10_synrules.proofs.assertion.count_assertions.Given as goal

-- the assertions among the parts so far
abbrev pub invariant-loop-part : goal.invariant-loop-part
invariant-loop-part l = l.count ≡ count_by is_sound_assertion (map plain_part (take l.part-index l.parts.items))
