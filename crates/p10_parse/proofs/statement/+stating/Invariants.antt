use Rattle.std.proofs.Common.{◌≡◌, ℕ, ◌+◌, ◌*◌, ◌≤◌, map, [], take, length}
use Rattle.p10_syn.specs.BuiltStatements.{bare_statement_of}
use Rattle.p10_parse.specs.ExternalReading.{builders}
use Rattle.p10_parse.proofs.statement.+stating.Given as goal

-- each reader goes down the budget, or to a reader of a part at the same budget

abbrev pub decreases-statement : goal.decreases-statement
decreases-statement l = 8 * l.budget

abbrev pub decreases-statement_by : goal.decreases-statement_by
decreases-statement_by l = 8 * l.budget + 4

abbrev pub decreases-block : goal.decreases-block
decreases-block l = 8 * l.budget + 2

abbrev pub decreases-if_statement : goal.decreases-if_statement
decreases-if_statement l = 8 * l.budget + 3

abbrev pub decreases-if_then : goal.decreases-if_then
decreases-if_then l = 8 * l.budget + 2

abbrev pub decreases-if_else : goal.decreases-if_else
decreases-if_else l = 8 * l.budget + 1

abbrev pub decreases-switch : goal.decreases-switch
decreases-switch l = 8 * l.budget + 1

abbrev pub decreases-while_loop : goal.decreases-while_loop
decreases-while_loop l = 8 * l.budget + 1

abbrev pub decreases-do_loop : goal.decreases-do_loop
decreases-do_loop l = 8 * l.budget + 1

abbrev pub decreases-for_loop : goal.decreases-for_loop
decreases-for_loop l = 8 * l.budget + 3

abbrev pub decreases-for_test : goal.decreases-for_test
decreases-for_test l = 8 * l.budget + 2

abbrev pub decreases-for_step : goal.decreases-for_step
decreases-for_step l = 8 * l.budget + 1

abbrev pub decreases-labelled : goal.decreases-labelled
decreases-labelled l = 8 * l.budget + 1

abbrev pub decreases-case : goal.decreases-case
decreases-case l = 8 * l.budget + 1

abbrev pub decreases-default : goal.decreases-default
decreases-default l = 8 * l.budget + 1

abbrev pub decreases-label : goal.decreases-label
decreases-label l = 8 * l.budget + 2

abbrev pub decreases-items : goal.decreases-items
decreases-items l = 8 * l.budget + 1

abbrev pub decreases-all_items : goal.decreases-all_items
decreases-all_items l = 8 * l.budget

abbrev pub decreases-item : goal.decreases-item
decreases-item l = 8 * l.budget + 1

abbrev pub invariant-all_items-loop-fuel : goal.invariant-all_items-loop-fuel
invariant-all_items-loop-fuel l = record {
  left : l.fuel ≤ l.budget;
  room : l.count ≤ length l.scope;
  start : take l.count l.scope ≡ l.fn.scope;
  same : (builders l.fuel).items l.scope (map bare_statement_of l.all.items) l.cursor ≡ (builders l.budget).items l.fn.scope (map bare_statement_of l.fn.all.items) l.fn.cursor;
}

abbrev pub decreases-all_items-loop-fuel : goal.decreases-all_items-loop-fuel
decreases-all_items-loop-fuel l = l.fuel
