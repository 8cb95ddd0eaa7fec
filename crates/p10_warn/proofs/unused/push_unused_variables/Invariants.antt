use Rattle.std.proofs.Common.{◌≡◌, ◌++◌, map, drop}
use Rattle.p10_core.specs.Views.{plain_variable}
use Rattle.p10_warn.specs.private.Listing.{unused_variables}
use Rattle.p10_warn.proofs.unused.push_unused_variables.Given as goal

-- the violations by the variables so far, and by those that are left, are those by all
abbrev pub invariant-loop-number : goal.invariant-loop-number
invariant-loop-number l =
    l.violations.items ++ unused_variables l.named.list.items l.number (map plain_variable (drop l.number l.variables)) ≡ l.initial.violations.items ++ unused_variables l.named.list.items 0 (map plain_variable l.variables)
