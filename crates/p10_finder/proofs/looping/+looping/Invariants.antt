use Rattle.std.proofs.Common.{◌≡◌, drop}
use Rattle.p10_core.specs.Views.{plain_statements}
use Rattle.p10_finder.specs.private.Looping.{have_loop}
use Rattle.p10_finder.proofs.looping.+looping.Given as goal

-- one of all has a loop where one of those that are left has
abbrev pub invariant-have_loop-loop-statement : goal.invariant-have_loop-loop-statement
invariant-have_loop-loop-statement l = have_loop (plain_statements l.all) ≡ have_loop (plain_statements (drop l.statement-index l.all))
