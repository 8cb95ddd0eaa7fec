use Rattle.std.proofs.Common.{◌≡◌, drop}
use Rattle.p10_core.specs.Views.{plain_statements}
use Rattle.p10_meaning.specs.Variables.{any_may_change}
use Rattle.p10_diff.proofs.changes.+changing.Given as goal

-- what is left decides what the whole decides
abbrev pub invariant-any_may_change-loop-s : goal.invariant-any_may_change-loop-s
invariant-any_may_change-loop-s l = any_may_change l.n (plain_statements (drop l.s-index l.items)) ≡ any_may_change l.n (plain_statements l.items)
