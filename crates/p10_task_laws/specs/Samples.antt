-- What leaves the task loops of small programs, and how their runs end; and why a program has to be whole.
use Rattle.std.specs.Prelude.{◌≡◌, [], ◌∷◌, pos, Some, None}
use Rattle.p10_core.specs.declared.statements.LoopKeyword.TheVariants.{For, While}
use Rattle.p10_core.specs.Typed.{PlainStatement, loop, switch, break, empty, no_statements, statements_of_list, PlainProgram}
use Rattle.p10_flowrules.specs.TaskExits.{task_exits}
use Rattle.p10_meaning.specs.Runs.{Returned, Turns, run_of}
use Rattle.p10_meaning.specs.Examples.{span, tree, number, does, block_of, returns, loop_of, no_world}
use Rattle.p10_meaning.specs.Tasks.{printing, task_of, leaving}
use Rattle.p10_meaning.specs.Turns.{turning, where_it_is}

-- `while (1) break;`
abbrev pub breaking_loop : PlainStatement
breaking_loop = loop_of While (Some (number (pos 1))) (block_of (does break ∷ []))

-- `switch (1) { case 1: S }`
abbrev pub switching_to : PlainStatement → PlainStatement
switching_to s = does (switch (span 0) (number (pos 1)) (record { cases = record { value = pos 1; place = 0 } ∷ []; otherwise = None }) (block_of (s ∷ [])))

-- `for (return 5; ; ) ;`, whose first clause is no expression
abbrev pub returning_clause : PlainStatement
returning_clause = does (loop (record { number = 0; keyword = For; span = span 0 }) (statements_of_list (returns (number (pos 5)) ∷ [])) None no_statements (does empty))

-- `while (0) { .. }` as a task loop
abbrev pub untrue : PlainProgram
untrue = task_of (loop_of While (Some (number (pos 0))) (block_of (printing ∷ [])))

-- what leaves these loops, and how runs of a few turns end
pub record SmallProgramsTurn : Type 0 where
  -- a `break` of the task loop under a condition is listed, and leaves it in the second turn
  pub left : task_exits leaving ≡ tree 0 ∷ []
  pub left_run : (run_of leaving no_world 100 100 5).outcome ≡ Returned (pos 0)
  -- a `return` in a `switch` or in a loop within it is listed, and leaves it in the third turn
  pub returned : task_exits (turning (switching_to (where_it_is (pos 2) (returns (number (pos 7)))) ∷ [])) ≡ tree 0 ∷ []
  pub returned_run : (run_of (turning (switching_to (where_it_is (pos 2) (returns (number (pos 7)))) ∷ [])) no_world 10 100 5).outcome ≡ Returned (pos 7)
  pub returned_within : task_exits (turning (loop_of For None (returns (number (pos 7))) ∷ [])) ≡ tree 0 ∷ []
  pub returned_within_run : (run_of (turning (loop_of For None (returns (number (pos 7))) ∷ [])) no_world 10 100 5).outcome ≡ Returned (pos 7)
  -- a `break` of a `switch` and one of a loop within it leave those alone
  pub stays : task_exits (turning (switching_to (does break) ∷ breaking_loop ∷ [])) ≡ []
  pub stays_run : (run_of (turning (switching_to (does break) ∷ breaking_loop ∷ [])) no_world 10 100 5).outcome ≡ Turns 5
  -- a clause that is no expression, which no whole program has
  pub clause : task_exits (turning (returning_clause ∷ [])) ≡ []
  pub clause_run : (run_of (turning (returning_clause ∷ [])) no_world 10 100 5).outcome ≡ Returned (pos 5)
  -- a condition that isn't true, which no whole program has there
  pub untrue_exits : task_exits untrue ≡ []
  pub untrue_run : (run_of untrue no_world 10 100 5).outcome ≡ Returned (pos 0)
