use Rattle.std.proofs.Common.{◌≡◌, map, take}
use Rattle.std.specs.Prelude.{count_by}
use Rattle.p10_synrules.specs.Functions.{is_counted}
use Rattle.p10_synrules.specs.private.Views.{plain_part}
use Rattle.p10_synrules.proofs.function.count_statements.Given as goal

-- the statements among the parts so far
abbrev pub invariant-loop-part : goal.invariant-loop-part
invariant-loop-part l = l.count ≡ count_by is_counted (map plain_part (take l.part-index l.parts.items))
