-- The statements so far.
use Rattle.std.proofs.Common.{◌≡◌, ◌++◌, drop}
use Rattle.p10_core.specs.Views.{plain_statements}
use Rattle.p10_flowrules.specs.TaskExits.{exits_of}
use Rattle.p10_flowrules.proofs.exits.+exits.Given as goal

abbrev pub invariant-push_all-loop-statement : goal.invariant-push_all-loop-statement
invariant-push_all-loop-statement l =
    l.exits.items ++ exits_of l.breaks (plain_statements (drop l.statement-index l.all)) ≡ l.initial.exits.items ++ exits_of l.breaks (plain_statements l.all)
