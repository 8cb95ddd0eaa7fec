use Rattle.std.proofs.Common.{◌≡◌, ◌++◌, map, drop}
use Rattle.p10_core.specs.Views.{plain_function}
use Rattle.p10_warn.specs.private.Contexts.{names_at}
use Rattle.p10_warn.specs.private.Listing.{functions_violations}
use Rattle.p10_warn.proofs.functions.push_by_functions.Given as goal

-- the violations by the functions so far, and by those that are left, are those by all
abbrev pub invariant-loop-number : goal.invariant-loop-number
invariant-loop-number l =
    l.violations.items ++ functions_violations (names_at l.file) l.main l.called.list.items l.number (map plain_function (drop l.number l.functions))
    ≡ l.initial.violations.items ++ functions_violations (names_at l.file) l.main l.called.list.items 0 (map plain_function l.functions)
