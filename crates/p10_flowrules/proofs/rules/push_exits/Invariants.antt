-- The violations so far.
use Rattle.std.proofs.Common.{◌≡◌, ◌++◌, map, take}
use Rattle.p10_flowrules.specs.FlowRows.{task_row}
use Rattle.p10_flowrules.specs.private.FlowListing.{violation_at}
use Rattle.p10_flowrules.proofs.rules.push_exits.Given as goal

abbrev pub invariant-loop-at : goal.invariant-loop-at
invariant-loop-at l = l.violations.items ≡ l.initial.violations.items ++ map (λ at. violation_at task_row at.span) (take l.at-index l.exits)
