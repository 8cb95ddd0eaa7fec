use Rattle.std.proofs.Common.{◌≡◌, map, drop}
use Rattle.std.specs.List.{list_any}
use Rattle.p10_synrules.specs.Assertions.{is_call_part}
use Rattle.p10_synrules.specs.private.Views.{plain_part}
use Rattle.p10_synrules.proofs.assertion.any_call.Given as goal

-- one of the parts is a call where one of those that are left is
abbrev pub invariant-loop-part : goal.invariant-loop-part
invariant-loop-part l = list_any is_call_part (map plain_part l.parts.items) ≡ list_any is_call_part (map plain_part (drop l.part-index l.parts.items))
