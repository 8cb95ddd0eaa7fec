use Rattle.std.proofs.Common.{◌≡◌, drop}
use Rattle.p10_core.specs.Views.{plain_statements}
use Rattle.p10_warn.specs.Ends.{reach_end}
use Rattle.p10_warn.proofs.ends.+ends.Given as goal

-- the ends of all are reached where those of the ones that are left are
abbrev pub invariant-reach_end-loop-statement : goal.invariant-reach_end-loop-statement
invariant-reach_end-loop-statement l = reach_end (plain_statements l.all) ≡ reach_end (plain_statements (drop l.statement-index l.all))
