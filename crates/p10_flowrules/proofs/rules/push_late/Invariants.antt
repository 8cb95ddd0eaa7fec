-- The violations so far.
use Rattle.std.proofs.Common.{◌≡◌, ◌++◌, map, take}
use Rattle.p10_flowrules.specs.FlowRows.{allocation_row}
use Rattle.p10_flowrules.specs.private.FlowListing.{violation_at}
use Rattle.p10_flowrules.proofs.rules.push_late.Given as goal

abbrev pub invariant-loop-call : goal.invariant-loop-call
invariant-loop-call l = l.violations.items ≡ l.initial.violations.items ++ map (λ c. violation_at allocation_row c.at.span) (take l.call-index l.calls)
