-- The violations so far.
use Rattle.std.proofs.Common.{◌≡◌, ◌++◌, map, take}
use Rattle.p10_flowrules.specs.FlowRows.{recursion_row}
use Rattle.p10_flowrules.specs.private.FlowListing.{violation_at}
use Rattle.p10_flowrules.proofs.rules.push_recursive.Given as goal

abbrev pub invariant-loop-site : goal.invariant-loop-site
invariant-loop-site l = l.violations.items ≡ l.initial.violations.items ++ map (λ s. violation_at recursion_row s.call.name) (take l.site-index l.calls)
