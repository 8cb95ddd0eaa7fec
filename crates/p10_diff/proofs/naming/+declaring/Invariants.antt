use Rattle.std.proofs.Common.{◌≡◌, drop}
use Rattle.p10_core.specs.Views.{plain_statements}
use Rattle.p10_diff.specs.Evidence.{any_gives_value}
use Rattle.p10_diff.proofs.naming.+declaring.Given as goal

-- what is left decides what the whole decides
abbrev pub invariant-any_gives_value-loop-s : goal.invariant-any_gives_value-loop-s
invariant-any_gives_value-loop-s l = any_gives_value l.n (plain_statements (drop l.s-index l.items)) ≡ any_gives_value l.n (plain_statements l.items)
