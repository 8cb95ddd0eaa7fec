-- Turns of the task loop, at small programs by hand: how they go on and end, and what comes after the loop.
use Rattle.std.specs.Prelude.{◌≡◌, List, [], ◌∷◌, ℤ, pos, Some, None}
use Rattle.p10_int.specs.declared.operators.BinOp.TheVariants.{Add, Div, Eq}
use Rattle.p10_int.specs.declared.operators.Stop.TheVariants.{U2, U7}
use Rattle.p10_core.specs.declared.statements.LoopKeyword.TheVariants.{For, While}
use Rattle.p10_core.specs.declared.statements.MarkKind.TheVariants.{InitDone, TaskLoop}
use Rattle.p10_core.specs.declared.statements.UpdateKind.TheVariants.{Step}
use Rattle.p10_core.specs.Typed.{address, binary, call, values_of_list, not_initialized, PlainStatement, update, declare, asserts, if_then, switch, break, continue, mark, PlainProgram}
use Rattle.p10_meaning.specs.States.{AssertionFailed, Undefined, StepsSpent}
use Rattle.p10_meaning.specs.Runs.{Returned, Turns, Ended, run_of}
use Rattle.p10_meaning.specs.Examples.{span, tree, int, number, name, get, does, block_of, returns, frame_variable, object_variable, int_variable, main_of, program_of, value_of, value_at, assign, begin, loop_of, no_world}
use Rattle.p10_meaning.specs.Costs.{successor}
use Rattle.p10_meaning.specs.Stopping.{ints, pointed_value}
use Rattle.p10_meaning.specs.Tasks.{printing, task_of, allocates}

-- `n++;`
abbrev pub counts_on : PlainStatement
counts_on = does (update Step Add int (name 0 int 0) (number (pos 1)))

-- `if (n == z) S`
abbrev pub where_it_is : ℤ → PlainStatement → PlainStatement
where_it_is z s = does (if_then (value_of int (binary Eq (get 0 int 0) (number z))) s)

-- `int n = 0; #pragma p10 task_loop for (;;) { putchar('A' + n); n++; S.. }`
abbrev pub turning : List PlainStatement → PlainProgram
turning ss = task_of (loop_of For None (block_of (printing ∷ counts_on ∷ ss)))

-- the same with a `return 9;` after the loop
abbrev pub returning_after : List PlainStatement → PlainProgram
returning_after ss = record (main_of (int_variable ∷ [])
    (begin 0 (number (pos 0)) ∷ does (mark TaskLoop) ∷ loop_of For None (block_of (printing ∷ counts_on ∷ ss)) ∷ returns (number (pos 9)) ∷ [])) { task = Some 2 }

-- `int n = 0; if (n == z) return 5; #pragma p10 task_loop while (1) { n++; }`
abbrev pub returning_before : ℤ → PlainProgram
returning_before z = record (main_of (int_variable ∷ [])
    (begin 0 (number (pos 0)) ∷ where_it_is z (returns (number (pos 5))) ∷ does (mark TaskLoop) ∷ loop_of While (Some (number (pos 1))) (block_of (counts_on ∷ [])) ∷ [])) { task = Some 3 }

-- `int n = 0; int *p;` with a loop in which `int x = 1;` is an object: in the first turn `p = &x;`, in the second `return *p;`
abbrev pub outliving : PlainProgram
outliving = record (main_of (int_variable ∷ frame_variable ints 8 ∷ object_variable int 4 ∷ [])
    (begin 0 (number (pos 0)) ∷ does (declare 1 not_initialized) ∷ does (mark TaskLoop) ∷
    loop_of For None (block_of (where_it_is (pos 1) (returns (pointed_value (get 0 ints 1))) ∷ begin 2 (number (pos 1)) ∷
    assign ints 1 (value_of ints (address (name 0 int 2))) ∷ counts_on ∷ [])) ∷ [])) { task = Some 3 }

-- `int *p = malloc(sizeof(int)); #pragma p10 init_done ; #pragma p10 task_loop for (;;) { p = malloc(sizeof(int)); }`
abbrev pub allocating : PlainProgram
allocating = record (main_of (frame_variable ints 8 ∷ [])
    (allocates ∷ does (mark InitDone) ∷ does (mark TaskLoop) ∷ loop_of For None (block_of (allocates ∷ [])) ∷ [])) { mark = Some 1; task = Some 3 }

-- `int n = 0;` with a loop whose turns call `f(n);`, where f has a parameter of 4 bytes
abbrev pub calling_on : PlainProgram
calling_on = record (program_of (successor ∷ []) (int_variable ∷ [])
    (begin 0 (number (pos 0)) ∷ does (mark TaskLoop) ∷
    loop_of For None (block_of (assign int 0 (value_of int (call (span 0) 0 (values_of_list (get 0 int 0 ∷ [])))) ∷ [])) ∷ [])) { task = Some 2 }

-- how turns go on
pub record TurnsGoOn : Type 0 where
  -- a `continue` comes to the next turn, and skips the rest of its own
  pub continued : run_of (turning (does continue ∷ does (asserts (tree 8) (number (pos 0))) ∷ [])) no_world 10 100 2 ≡ record { outcome = Turns 2; output = 65 ∷ 66 ∷ []; calls = 1; bytes = 4; after = 0 }
  -- the `break` of a `switch` doesn't leave the loop
  pub after_a_switch : (run_of (turning (does (switch (span 0) (number (pos 1)) (record { cases = record { value = pos 1; place = 0 } ∷ []; otherwise = None }) (block_of (does break ∷ []))) ∷ [])) no_world 10 100 2).outcome ≡ Turns 2
  -- nor does that of an inner loop
  pub after_a_loop : (run_of (turning (loop_of While (Some (number (pos 1))) (block_of (does break ∷ [])) ∷ [])) no_world 10 100 2).outcome ≡ Turns 2
  -- objects of the body die where a turn ends
  pub objects_die : (run_of outliving no_world 10 100 5).outcome ≡ Ended (Undefined U7 (span 4))
  -- allocations in turns are counted after the mark
  pub allocations : (run_of allocating no_world 10 100 3).after ≡ 3
  -- calls in turns count for the depths
  pub depths : run_of calling_on no_world 10 100 2 ≡ record { outcome = Turns 2; output = []; calls = 2; bytes = 8; after = 0 }

-- how turns end a run
pub record TurnsEndRuns : Type 0 where
  -- a `return` in a turn
  pub returned : run_of (turning (where_it_is (pos 2) (returns (number (pos 7))) ∷ [])) no_world 10 100 5 ≡ record { outcome = Returned (pos 7); output = 65 ∷ 66 ∷ []; calls = 1; bytes = 4; after = 0 }
  -- a `break` in a turn is a return of 0, and what comes after the loop isn't executed
  pub left : run_of (returning_after (where_it_is (pos 2) (does break) ∷ [])) no_world 10 100 5 ≡ record { outcome = Returned (pos 0); output = 65 ∷ 66 ∷ []; calls = 1; bytes = 4; after = 0 }
  -- a stop in a turn: the output of the turns before it stays
  pub stopped : run_of (turning (where_it_is (pos 2) (returns (value_at 5 int (binary Div (number (pos 1)) (number (pos 0))))) ∷ [])) no_world 10 100 5 ≡
      record { outcome = Ended (Undefined U2 (span 5)); output = 65 ∷ 66 ∷ []; calls = 1; bytes = 4; after = 0 }
  -- an `assert` that fails in a turn
  pub failed : (run_of (turning (where_it_is (pos 2) (does (asserts (tree 8) (number (pos 0)))) ∷ [])) no_world 10 100 5).outcome ≡ Ended (AssertionFailed (span 8))
  -- each turn has its own budget: printing takes 6 steps, counting on 4
  pub enough : (run_of (turning []) no_world 4 10 9).outcome ≡ Turns 9
  pub too_few : (run_of (turning []) no_world 4 9 9).outcome ≡ Ended StepsSpent

-- the part before the loop, and runs without one
pub record RunsWithoutTurns : Type 0 where
  -- a `return` before the loop
  pub returned_before : (run_of (returning_before (pos 0)) no_world 100 100 5).outcome ≡ Returned (pos 5)
  pub not_returned : (run_of (returning_before (pos 1)) no_world 100 100 5).outcome ≡ Turns 5
  -- the number of turns says nothing where there is no task loop
  pub without_a_loop : (run_of (main_of [] (returns (number (pos 3)) ∷ [])) no_world 100 0 5).outcome ≡ Returned (pos 3)
  -- `main` that ends without `return` returns 0
  pub without_return : (run_of (main_of [] []) no_world 100 0 0).outcome ≡ Returned (pos 0)

-- ## All of them
pub record TurnsGive : Type 0 where
  pub go_on : TurnsGoOn
  pub end : TurnsEndRuns
  pub without : RunsWithoutTurns
