use Rattle.std.proofs.Common.{◌≡◌, ◌++◌, false, drop}
use Rattle.p10_core.specs.Views.{plain_statements}
use Rattle.p10_warn.specs.private.Listing.{items_after_jumps}
use Rattle.p10_warn.proofs.jumps.push_items.Given as goal

-- the violations by the items so far, and by those that are left, are those by all
abbrev pub invariant-loop-number : goal.invariant-loop-number
invariant-loop-number l =
    l.violations.items ++ items_after_jumps l.labelled.list.items l.after l.number (plain_statements (drop l.number l.items)) ≡ l.initial.violations.items ++ items_after_jumps l.labelled.list.items false 0 (plain_statements l.items)
