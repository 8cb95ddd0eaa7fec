-- What tasks come to: the rest of the run, in terms of the meaning of the trees in them.
use Rattle.std.specs.Prelude.{ℕ, if◌then◌else◌, Bool, true, false, List, [], ◌∷◌, Option, Some, None}
use Rattle.p10_core.specs.Typed.{place_at, PlainWritten, one_scalar, scalars_of_text, PlainItem, PlainStatement, PlainProgram}
use Rattle.p10_meaning.specs.declared.pointers.Scalar.{Scalar}
use Rattle.p10_meaning.specs.States.{State, Progress, gives, step, and_then}
use Rattle.p10_meaning.specs.Scalars.{number_of, is_true, truth_value}
use Rattle.p10_meaning.specs.Values.{Setting, Held, width, pointer_to, is_decided, evaluate, discard, evaluate_all, locate}
use Rattle.p10_meaning.specs.Statements.{Frame, Flow, normal, broken, continued, returned, Done, goes, labelled, next_turn, after_switch, copy_scalars, test, turns, loop_by, execute, execute_from, enter, round}
use Rattle.p10_meaning.specs.Calling.{Depth, no_depth, setting_of, given, call_at}
use Rattle.p10_interp.specs.private.Tasks.{Loop, Task, evaluate_value, discard_value, locate_place, evaluate_values, evaluate_items, decide, choose, call_function, execute_statement, execute_statements, copy_into, branch, begin_loop, test_loop, enter_turn, end_turn, end_block, select, end_switch, end_call, operate, Operand, evaluated, located, Open, Left, Rig}
use Rattle.p10_interp.specs.private.Operations.{on_value, on_target, on_values, on_call, put_values, with_frame, after_block, block_closed, done_by}

-- what the trees of an open call stand in, under a bound on calls and turns
abbrev pub setting_in : PlainProgram → ℕ → Open → Setting
setting_in p n f = setting_of p n (call_at n p) f.depth f.function

-- the depth of open calls
abbrev pub depth_of : List Open → Depth
depth_of [] = no_depth
depth_of (f ∷ calls) = f.depth

-- the values that are written in items, in order
abbrev pub value_written : Setting → List Held → PlainWritten → (State → Progress (List Scalar)) → State → Progress (List Scalar)
value_written s held (one_scalar v) more w = and_then (evaluate s held v w) (λ x w. and_then (more w) (λ xs w. gives (x ∷ xs) w))
value_written s held (scalars_of_text bytes) more w = more w

abbrev pub values_of_items : Setting → List Held → List PlainItem → State → Progress (List Scalar)
values_of_items s held [] w = gives [] w
values_of_items s held (item ∷ items) w = value_written s held item.written (λ w. values_of_items s held items w) w

-- ## Loops

-- the turns of a loop, its test first
abbrev pub turns_of : Setting → Loop → Frame → State → Progress Done
turns_of s loop frame w = turns s.turns (test s loop.tested) (round s loop.third loop.body) frame w

-- what comes after a body that ended, or after its `continue`: the third clause, and more turns
abbrev pub rest_of_turn : Setting → Loop → Frame → State → Progress Done
rest_of_turn s loop frame w = and_then (execute_from s 0 loop.third frame w) (λ done w. next_turn done.flow done.frame w (turns_of s loop))

-- a turn whose test was true or false
abbrev pub turn_of : Setting → Loop → Bool → Frame → State → Progress Done
turn_of s loop more frame w =
    if more then and_then (round s loop.third loop.body frame w) (λ done w. next_turn done.flow done.frame w (turns_of s loop)) else goes frame w

-- ## How execution goes on

-- on with the next task, or back to the one that takes this flow
abbrev pub by_flow : Flow → List Operand → List Open → State → (List Operand → List Open → State → Progress Left) → (Flow → List Operand → List Open → State → Progress Left) → Progress Left
by_flow normal operands calls w go back = go operands calls w
by_flow broken operands calls w go back = back broken operands calls w
by_flow continued operands calls w go back = back continued operands calls w
by_flow (returned x) operands calls w go back = back (returned x) operands calls w

-- what a piece of a statement left, and then on or back
abbrev pub after_done : List Operand → Open → List Open → Progress Done → (List Operand → List Open → State → Progress Left) → (Flow → List Operand → List Open → State → Progress Left) → Progress Left
after_done operands f calls done go back = and_then done (λ done w. by_flow done.flow operands (with_frame f done.frame ∷ calls) w go back)

-- one of two statements, of which the second may not be there
abbrev pub one_of : Setting → Bool → PlainStatement → Option PlainStatement → Frame → State → Progress Done
one_of s true a b frame w = execute s a frame w
one_of s false a None frame w = goes frame w
one_of s false a (Some b) frame w = execute s b frame w

abbrev mutual
  -- tasks in order, where execution goes on with the next
  pub resume : PlainProgram → ℕ → List Task → List Operand → List Open → State → Progress Left
  resume p n [] operands calls w = gives (record { flow = normal; operands = operands; calls = calls }) w
  resume p n (evaluate_value v ∷ k) operands calls w =
      on_call calls w (λ f calls. and_then (evaluate (setting_in p n f) f.frame.held v w) (λ x w. resume p n k (evaluated (Some x) ∷ operands) (f ∷ calls) w))
  resume p n (discard_value v ∷ k) operands calls w =
      on_call calls w (λ f calls. and_then (discard (setting_in p n f) f.frame.held v w) (λ x w. resume p n k operands (f ∷ calls) w))
  resume p n (locate_place q ∷ k) operands calls w =
      on_call calls w (λ f calls. and_then (locate (setting_in p n f) f.frame.held q w) (λ target w. resume p n k (located target ∷ operands) (f ∷ calls) w))
  resume p n (evaluate_values vs ∷ k) operands calls w =
      on_call calls w (λ f calls. and_then (evaluate_all (setting_in p n f) f.frame.held vs w) (λ xs w. resume p n k (put_values xs operands) (f ∷ calls) w))
  resume p n (evaluate_items items ∷ k) operands calls w =
      on_call calls w (λ f calls. and_then (values_of_items (setting_in p n f) f.frame.held items w) (λ xs w. resume p n k (put_values xs operands) (f ∷ calls) w))
  resume p n (decide op v ∷ k) operands calls w =
      on_value operands w (λ x operands. on_call calls w (λ f calls.
      if is_decided op (is_true x)
      then resume p n k (evaluated (Some (truth_value (is_true x))) ∷ operands) (f ∷ calls) w
      else and_then (evaluate (setting_in p n f) f.frame.held v w) (λ y w. resume p n k (evaluated (Some (truth_value (is_true y))) ∷ operands) (f ∷ calls) w)))
  resume p n (choose a b ∷ k) operands calls w =
      on_value operands w (λ x operands. on_call calls w (λ f calls.
      and_then (if is_true x then evaluate (setting_in p n f) f.frame.held a w else evaluate (setting_in p n f) f.frame.held b w)
      (λ y w. resume p n k (evaluated (Some y) ∷ operands) (f ∷ calls) w)))
  resume p n (call_function g m ∷ k) operands calls w =
      on_values m operands w (λ xs operands. and_then (call_at n p (depth_of calls) g xs w) (λ x w. resume p n k (evaluated x ∷ operands) calls w))
  resume p n (execute_statement x ∷ k) operands calls w =
      on_call calls w (λ f calls. after_done operands f calls (execute (setting_in p n f) x f.frame w)
      (λ operands calls w. resume p n k operands calls w) (λ flow operands calls w. unwind p n flow k operands calls w))
  resume p n (execute_statements xs ∷ k) operands calls w =
      on_call calls w (λ f calls. after_done operands f calls (execute_from (setting_in p n f) 0 xs f.frame w)
      (λ operands calls w. resume p n k operands calls w) (λ flow operands calls w. unwind p n flow k operands calls w))
  resume p n (copy_into span t q ∷ k) operands calls w =
      on_target operands w (λ target operands. on_call calls w (λ f calls. after_done operands f calls
      (step w (λ w. and_then (locate (setting_in p n f) f.frame.held q w) (λ source w.
      copy_scalars (width p t) 0 span (pointer_to target) (place_at q).span (pointer_to source) f.frame w)))
      (λ operands calls w. resume p n k operands calls w) (λ flow operands calls w. unwind p n flow k operands calls w)))
  resume p n (branch a b ∷ k) operands calls w =
      on_value operands w (λ x operands. on_call calls w (λ f calls. after_done operands f calls (one_of (setting_in p n f) (is_true x) a b f.frame w)
      (λ operands calls w. resume p n k operands calls w) (λ flow operands calls w. unwind p n flow k operands calls w)))
  resume p n (begin_loop keyword loop ∷ k) operands calls w =
      on_call calls w (λ f calls. after_done operands f calls
      (loop_by keyword n (test (setting_in p n f) loop.tested) (round (setting_in p n f) loop.third loop.body) f.frame w)
      (λ operands calls w. resume p n k operands calls w) (λ flow operands calls w. unwind p n flow k operands calls w))
  resume p n (test_loop loop ∷ k) operands calls w =
      on_call calls w (λ f calls. after_done operands f calls (turns_of (setting_in p n f) loop f.frame w)
      (λ operands calls w. resume p n k operands calls w) (λ flow operands calls w. unwind p n flow k operands calls w))
  resume p n (enter_turn loop ∷ k) operands calls w =
      on_value operands w (λ x operands. on_call calls w (λ f calls. after_done operands f calls (turn_of (setting_in p n f) loop (is_true x) f.frame w)
      (λ operands calls w. resume p n k operands calls w) (λ flow operands calls w. unwind p n flow k operands calls w)))
  resume p n (end_turn loop ∷ k) operands calls w =
      on_call calls w (λ f calls. after_done operands f calls (rest_of_turn (setting_in p n f) loop f.frame w)
      (λ operands calls w. resume p n k operands calls w) (λ flow operands calls w. unwind p n flow k operands calls w))
  resume p n (end_block ∷ k) operands calls w =
      on_call calls w (λ f calls. resume p n k operands (after_block f ∷ calls) (block_closed f w))
  resume p n (select labels body ∷ k) operands calls w =
      on_value operands w (λ x operands. on_call calls w (λ f calls. after_done operands f calls
      (and_then (enter (setting_in p n f) (labelled (number_of x) labels.cases labels.otherwise) body f.frame w) after_switch)
      (λ operands calls w. resume p n k operands calls w) (λ flow operands calls w. unwind p n flow k operands calls w)))
  resume p n (end_switch ∷ k) operands calls w = resume p n k operands calls w
  resume p n (end_call ∷ k) operands calls w =
      on_call calls w (λ f calls. resume p n k (evaluated None ∷ operands) calls (block_closed f w))
  resume p n (operate o ∷ k) operands calls w =
      and_then (done_by p o operands calls w) (λ left w. by_flow left.flow left.operands left.calls w
      (λ operands calls w. resume p n k operands calls w) (λ flow operands calls w. unwind p n flow k operands calls w))

  -- tasks in order, after `break`, `continue` or `return`: the end of a block is met on the way, a loop takes the first two, a
  -- `switch` takes `break`, and the end of a body takes `return`. No other task is met (C99 6.8.6)
  pub unwind : PlainProgram → ℕ → Flow → List Task → List Operand → List Open → State → Progress Left
  unwind p n flow [] operands calls w = gives (record { flow = flow; operands = operands; calls = calls }) w
  unwind p n flow (end_block ∷ k) operands calls w =
      on_call calls w (λ f calls. unwind p n flow k operands (after_block f ∷ calls) (block_closed f w))
  unwind p n flow (end_call ∷ k) operands calls w =
      on_call calls w (λ f calls. resume p n k (evaluated (given flow) ∷ operands) calls (block_closed f w))
  unwind p n broken (end_switch ∷ k) operands calls w = resume p n k operands calls w
  unwind p n broken (end_turn loop ∷ k) operands calls w = resume p n k operands calls w
  unwind p n broken (test_loop loop ∷ k) operands calls w = resume p n k operands calls w
  unwind p n continued (end_turn loop ∷ k) operands calls w =
      on_call calls w (λ f calls. after_done operands f calls (rest_of_turn (setting_in p n f) loop f.frame w)
      (λ operands calls w. resume p n k operands calls w) (λ flow operands calls w. unwind p n flow k operands calls w))
  unwind p n continued (test_loop loop ∷ k) operands calls w =
      on_call calls w (λ f calls. after_done operands f calls (turns_of (setting_in p n f) loop f.frame w)
      (λ operands calls w. resume p n k operands calls w) (λ flow operands calls w. unwind p n flow k operands calls w))
  unwind p n flow (t ∷ k) operands calls w = unwind p n flow k operands calls w

-- what the machine comes to
abbrev pub proceed : PlainProgram → ℕ → Rig → State → Progress Left
proceed p n r w =
    by_flow r.flow r.operands r.calls w (λ operands calls w. resume p n r.tasks operands calls w) (λ flow operands calls w. unwind p n flow r.tasks operands calls w)
