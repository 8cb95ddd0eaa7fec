use Rattle.std.proofs.Common.{◌≡◌, drop}
use Rattle.p10_core.specs.Views.{plain_statements}
use Rattle.p10_warn.specs.Ends.{have_break}
use Rattle.p10_warn.proofs.ends.+breaks.Given as goal

-- one of all has a `break` where one of those that are left has
abbrev pub invariant-have_break-loop-statement : goal.invariant-have_break-loop-statement
invariant-have_break-loop-statement l = have_break (plain_statements l.all) ≡ have_break (plain_statements (drop l.statement-index l.all))
