-- The acts for statements and calls leave what the tasks come to as it was.
use Rattle.std.proofs.Common.{◌≡◌, ℕ, zero, suc, ◌≤◌, Bool, true, false, List, [], ◌∷◌, length, refl, sym, ◌∙◌, ap, arith, slice_get, slice_set, Option, Some, None}
use Rattle.std.specs.Prelude.{if◌then◌else◌}
use Rattle.p10_base.specs.declared.span.Span.{Span}
use Rattle.p10_base.specs.declared.at.At.{At}
use Rattle.p10_core.specs.declared.statements.LoopKeyword.{LoopKeyword}
use Rattle.p10_core.specs.declared.statements.LoopKeyword.TheVariants.{While, Do, For}
use Rattle.p10_core.specs.declared.statements.MarkKind.TheVariants.{InitDone, TaskLoop}
use Rattle.p10_core.specs.Types.{PlainType}
use Rattle.p10_core.specs.Typed.{PlainValue, PlainPlace, place_at, place_type, PlainItem, PlainInitializer, not_initialized, single, copied, listed, PlainStatement, statement, PlainStatementForm, set, update, copy, evaluate as expression, asserts, declare, declare_static, block, if_then, if_else, loop, switch, break, continue, return, empty, mark, PlainStatements, no_statements, more_statements, PlainVariable, PlainFunction, PlainProgram}
use Rattle.p10_meaning.specs.declared.pointers.Scalar.{Scalar}
use Rattle.p10_meaning.specs.Pointers.{unset, holding, first_of}
use Rattle.p10_meaning.specs.Objects.{declared}
use Rattle.p10_meaning.specs.States.{State, Progress, gives, ends, step_at, step, and_then}
use Rattle.p10_meaning.specs.Scalars.{is_true, converted_to, operated, unset_cells}
use Rattle.p10_meaning.specs.Values.{Setting, holds, stands, scalars, width, open_object, Target, Variable, Element, pointer_to, read_target, asserted, evaluate, discard, locate}
use Rattle.p10_meaning.specs.Statements.{Frame, Flow, normal, broken, continued, returned, Done, flows, goes, go_on, holding_at, in_block, write_target, copy_scalars, fill, listed_scalars, initialize, declare_variable, test, next_turn, loop_by, before_third, from_label, after_switch, execute, execute_form, execute_from, enter, round, looped}
use Rattle.p10_meaning.specs.Calling.{Depth, deeper, raised, Entered, entered, leave_call, setting_of, enter_call, call_at}
use Rattle.p10_meaning.specs.Laws.{CallsRun}
use Rattle.p10_meaning.proofs.AgreeingCalls.{calls_run, loops_have_no_bound}
use Rattle.p10_interp.specs.private.Tasks.{write_at, read_old, write_new, copy_between, fill_from, Loop, Task, evaluate_value, locate_place, execute_statement, execute_statements, begin_loop, test_loop, enter_turn, end_turn, end_block, end_switch, end_call, operate, Operand, evaluated, located, Open, Left}
use Rattle.p10_interp.specs.private.Operations.{on_target, on_call, put_values, count_of_items, scalars_of_items, with_frame, in_new_block, block_closed, leaves_done}
use Rattle.p10_interp.specs.private.Resuming.{setting_in, depth_of, values_of_items, turns_of, rest_of_turn, turn_of, by_flow, one_of, resume, unwind, proceed}
use Rattle.p10_interp.specs.private.Acts.{goes_on, sought, entered_if, initialized, declared_by, tested_by, looped_by, without, entered_at, selected, executed, begun_statement, begun_statements, branched}
use Rattle.p10_interp.proofs.Continuing.{after_right, then_right, step_right, or_right, if_right}
use Rattle.p10_interp.proofs.Operands.{values_put, items_are_many, many_same, items_right}
use Rattle.p10_interp.proofs.RightValues.{settles, sought_right, begun_right}

-- what a piece of a statement left, and then on or back
abbrev pub settled : PlainProgram → ℕ → List Task → List Operand → Open → List Open → Done → State → Progress Left
settled p n k operands f calls done w =
    by_flow done.flow operands (with_frame f done.frame ∷ calls) w (λ operands calls w. resume p n k operands calls w) (λ flow operands calls w. unwind p n flow k operands calls w)

module _ (p : PlainProgram) (n : ℕ) where
  -- what a piece of a statement left goes through an operation
  done_right : (o : Progress Done) (k : List Task) (operands : List Operand) (f : Open) (calls : List Open) →
      and_then o (settled p n k operands f calls) ≡ and_then (leaves_done operands f calls o) (settles p n k)
  done_right o k operands f calls = sym (after_right o _ _ _ (λ done w. refl))

  -- ## One statement after another

  -- the rest of statements, as a task
  go_statements : (xs : PlainStatements) (k : List Task) (operands : List Operand) (f : Open) (calls : List Open) (flow : Flow) (frame : Frame) (w : State) →
      and_then (go_on flow frame w (λ frame w. execute_from (setting_in p n f) 0 xs frame w)) (settled p n k operands f calls) ≡
      settled p n (execute_statements xs ∷ k) operands f calls (record { flow = flow; frame = frame }) w
  go_statements xs k operands f calls normal frame w = refl
  go_statements xs k operands f calls broken frame w = refl
  go_statements xs k operands f calls continued frame w = refl
  go_statements xs k operands f calls (returned x) frame w = refl

  -- a loop after its first clause, as a task
  go_loop : (keyword : LoopKeyword) (l : Loop) (k : List Task) (operands : List Operand) (f : Open) (calls : List Open) (flow : Flow) (frame : Frame) (w : State) →
      and_then (go_on flow frame w (λ frame w. loop_by keyword n (test (setting_in p n f) l.tested) (round (setting_in p n f) l.third l.body) frame w)) (settled p n k operands f calls) ≡
      settled p n (begin_loop keyword l ∷ k) operands f calls (record { flow = flow; frame = frame }) w
  go_loop keyword l k operands f calls normal frame w = refl
  go_loop keyword l k operands f calls broken frame w = refl
  go_loop keyword l k operands f calls continued frame w = refl
  go_loop keyword l k operands f calls (returned x) frame w = refl

  -- ## Blocks

  block_flow : (k : List Task) (operands : List Operand) (f : Open) (calls : List Open) (flow : Flow) (frame : Frame) (w : State) →
      settled p n k operands f calls (record { flow = flow; frame = record { held = frame.held; opened = f.frame.opened } }) (block_closed (with_frame f frame) w) ≡
      settled p n (end_block ∷ k) operands (in_new_block f) calls (record { flow = flow; frame = frame }) w
  block_flow k operands f calls normal frame w = refl
  block_flow k operands f calls broken frame w = refl
  block_flow k operands f calls continued frame w = refl
  block_flow k operands f calls (returned x) frame w = refl

  block_after : (o : Progress Done) (k : List Task) (operands : List Operand) (f : Open) (calls : List Open) →
      and_then (and_then o (λ done w. flows done.flow (record { held = done.frame.held; opened = f.frame.opened }) (block_closed (with_frame f done.frame) w))) (settled p n k operands f calls) ≡
      and_then o (settled p n (end_block ∷ k) operands (in_new_block f) calls)
  block_after o k operands f calls = after_right o _ _ _ (λ done w. block_flow k operands f calls done.flow done.frame w)

  -- what is executed as a block, and then the end of the block as a task
  block_right : (run : Frame → State → Progress Done) (k : List Task) (operands : List Operand) (f : Open) (calls : List Open) (w : State) →
      and_then (in_block run f.frame w) (settled p n k operands f calls) ≡ and_then (run (in_new_block f).frame w) (settled p n (end_block ∷ k) operands (in_new_block f) calls)
  block_right run k operands f calls w = block_after (run (in_new_block f).frame w) k operands f calls

  -- ## Declarations

  -- the scalars of a list that are on top
  filled_right : (span : Span) (t : PlainType) (target : Target) (items : List PlainItem) (xs : List Scalar) (k : List Task) (operands : List Operand) (f : Open) (calls : List Open) (w : State) →
      length xs ≡ count_of_items items →
      and_then (fill span (scalars_of_items items xs) (scalars p t) 0 (pointer_to target) f.frame w) (settled p n k operands f calls) ≡
      resume p n (operate (fill_from span t items) ∷ k) (put_values xs (located target ∷ operands)) (f ∷ calls) w
  filled_right span t target items xs k operands f calls w e =
      done_right (fill span (scalars_of_items items xs) (scalars p t) 0 (pointer_to target) f.frame w) k operands f calls ∙
      sym (ap (λ o. and_then o (settles p n k))
      (values_put (count_of_items items) xs (located target ∷ operands) w
      (λ xs operands. on_target operands w (λ target operands. on_call (f ∷ calls) w (λ f calls.
      leaves_done operands f calls (fill span (scalars_of_items items xs) (scalars p t) 0 (pointer_to target) f.frame w)))) e))

  initialized_right : (span : Span) (t : PlainType) (target : Target) (i : PlainInitializer) (k : List Task) (operands : List Operand) (f : Open) (calls : List Open) (w : State) →
      and_then (initialize (setting_in p n f) span t target i f.frame w) (settled p n k operands f calls) ≡ and_then (initialized span t target i k operands f calls w) (proceed p n)
  initialized_right span t target not_initialized k operands f calls w = refl
  initialized_right span t target (single v) k operands f calls w =
      after_right (evaluate (setting_in p n f) f.frame.held v w) _ _ _ (λ x w. done_right (write_target span target (holding x) f.frame w) k operands f calls)
  initialized_right span t target (copied q) k operands f calls w = refl
  initialized_right span t target (listed at items) k operands f calls w =
      after_right (listed_scalars (setting_in p n f) f.frame.held items w) _ _
      (λ xs w. and_then (fill span xs (scalars p t) 0 (pointer_to target) f.frame w) (settled p n k operands f calls)) (λ xs w. refl) ∙
      (items_right (setting_in p n f) f.frame.held items w (λ xs w. and_then (fill span xs (scalars p t) 0 (pointer_to target) f.frame w) (settled p n k operands f calls)) ∙
      many_same (count_of_items items) (values_of_items (setting_in p n f) f.frame.held items w) _ _ (items_are_many (setting_in p n f) f.frame.held items w)
      (λ xs w e. filled_right span t target items xs k operands f calls w e))

  declared_right : (span : Span) (m : ℕ) (v : Option PlainVariable) (i : PlainInitializer) (k : List Task) (operands : List Operand) (f : Open) (calls : List Open) (w : State) →
      and_then (declare_variable (setting_in p n f) span m v i f.frame w) (settled p n k operands f calls) ≡ and_then (declared_by p span m v i k operands f calls w) (proceed p n)
  declared_right span m None i k operands f calls w = refl
  declared_right span m (Some v) i k operands f calls w = if_right v.frame _ _ _ _ _ _
      (λ e. initialized_right span v.type (Variable m) i k operands (with_frame f (holding_at f.frame m (holds unset))) calls w)
      (λ e. initialized_right span v.type (Element (first_of w.opened (width p v.type) 1)) i k operands
      (with_frame f (record { held = slice_set f.frame.held m (stands w.opened); opened = w.opened ∷ f.frame.opened })) calls (open_object declared (unset_cells (scalars p v.type)) w))

  -- ## `if`, loops and `switch`

  one_right : (b : Bool) (a : PlainStatement) (k : List Task) (operands : List Operand) (f : Open) (calls : List Open) (w : State) →
      and_then (if b then execute (setting_in p n f) a f.frame w else goes f.frame w) (settled p n k operands f calls) ≡ and_then (one_of (setting_in p n f) b a None f.frame w) (settled p n k operands f calls)
  one_right true a k operands f calls w = refl
  one_right false a k operands f calls w = refl

  two_right : (b : Bool) (a c : PlainStatement) (k : List Task) (operands : List Operand) (f : Open) (calls : List Open) (w : State) →
      and_then (if b then execute (setting_in p n f) a f.frame w else execute (setting_in p n f) c f.frame w) (settled p n k operands f calls) ≡
      and_then (one_of (setting_in p n f) b a (Some c) f.frame w) (settled p n k operands f calls)
  two_right true a c k operands f calls w = refl
  two_right false a c k operands f calls w = refl

  pub branched_right : (b : Bool) (a : PlainStatement) (c : Option PlainStatement) (k : List Task) (operands : List Operand) (f : Open) (calls : List Open) (w : State) →
      and_then (one_of (setting_in p n f) b a c f.frame w) (settled p n k operands f calls) ≡ and_then (branched b a c k operands (f ∷ calls) w) (proceed p n)
  branched_right true a c k operands f calls w = refl
  branched_right false a None k operands f calls w = refl
  branched_right false a (Some c) k operands f calls w = refl

  -- what follows the third clause
  next_flow : (l : Loop) (k : List Task) (operands : List Operand) (f : Open) (calls : List Open) (flow : Flow) (frame : Frame) (w : State) →
      and_then (next_turn flow frame w (turns_of (setting_in p n f) l)) (settled p n k operands f calls) ≡ settled p n (test_loop l ∷ k) operands f calls (record { flow = flow; frame = frame }) w
  next_flow l k operands f calls normal frame w = refl
  next_flow l k operands f calls broken frame w = refl
  next_flow l k operands f calls continued frame w = refl
  next_flow l k operands f calls (returned x) frame w = refl

  pub end_turn_right : (l : Loop) (k : List Task) (operands : List Operand) (f : Open) (calls : List Open) (w : State) →
      and_then (rest_of_turn (setting_in p n f) l f.frame w) (settled p n k operands f calls) ≡ and_then (execute_from (setting_in p n f) 0 l.third f.frame w) (settled p n (test_loop l ∷ k) operands f calls)
  end_turn_right l k operands f calls w =
      after_right (execute_from (setting_in p n f) 0 l.third f.frame w) _ _ _ (λ done w. next_flow l k operands f calls done.flow done.frame w)

  -- what follows the body
  third_flow : (l : Loop) (k : List Task) (operands : List Operand) (f : Open) (calls : List Open) (flow : Flow) (frame : Frame) (w : State) →
      and_then (and_then (before_third flow frame w (λ frame w. execute_from (setting_in p n f) 0 l.third frame w)) (λ done w. next_turn done.flow done.frame w (turns_of (setting_in p n f) l)))
      (settled p n k operands f calls) ≡ settled p n (end_turn l ∷ k) operands f calls (record { flow = flow; frame = frame }) w
  third_flow l k operands f calls normal frame w = refl
  third_flow l k operands f calls broken frame w = refl
  third_flow l k operands f calls continued frame w = refl
  third_flow l k operands f calls (returned x) frame w = refl

  round_after : (o : Progress Done) (l : Loop) (k : List Task) (operands : List Operand) (f : Open) (calls : List Open) →
      and_then (and_then (and_then o (λ done w. before_third done.flow done.frame w (λ frame w. execute_from (setting_in p n f) 0 l.third frame w))) (λ done w. next_turn done.flow done.frame w (turns_of (setting_in p n f) l)))
      (settled p n k operands f calls) ≡ and_then o (settled p n (end_turn l ∷ k) operands f calls)
  round_after (gives done w) l k operands f calls = third_flow l k operands f calls done.flow done.frame w
  round_after (ends end w) l k operands f calls = refl

  pub turn_right : (b : Bool) (l : Loop) (k : List Task) (operands : List Operand) (f : Open) (calls : List Open) (w : State) →
      and_then (turn_of (setting_in p n f) l b f.frame w) (settled p n k operands f calls) ≡
      and_then (if b then goes_on (execute_statement l.body ∷ (end_turn l ∷ k)) operands (f ∷ calls) w else goes_on k operands (f ∷ calls) w) (proceed p n)
  turn_right true l k operands f calls w = round_after (execute (setting_in p n f) l.body f.frame w) l k operands f calls
  turn_right false l k operands f calls w = refl

  -- a test that is a step
  step_at_then : {A B C : Type 0} (m : ℕ) (w : State) (go : State → Progress A) (g : A → State → Progress B) (h : B → State → Progress C) →
      and_then (and_then (step_at m w go) g) h ≡ and_then (step_at m w (λ w. and_then (go w) g)) h
  step_at_then zero w go g h = refl
  step_at_then (suc m) w go g h = refl

  -- a test that is a value
  test_after : (o : Progress Scalar) (l : Loop) (k : List Task) (operands : List Operand) (f : Open) (calls : List Open) →
      and_then (and_then (and_then o (λ x w. gives (is_true x) w)) (λ more w. turn_of (setting_in p n f) l more f.frame w)) (settled p n k operands f calls) ≡
      and_then o (λ x w. resume p n (enter_turn l ∷ k) (evaluated (Some x) ∷ operands) (f ∷ calls) w)
  test_after (gives x w) l k operands f calls = refl
  test_after (ends end w) l k operands f calls = refl

  -- the test, and then a turn
  tested_right : (l : Loop) (tested : Option PlainValue) (k : List Task) (operands : List Operand) (f : Open) (calls : List Open) (w : State) →
      and_then (and_then (test (setting_in p n f) tested f.frame w) (λ more w. turn_of (setting_in p n f) l more f.frame w)) (settled p n k operands f calls) ≡
      and_then (tested_by p l tested k operands f calls w) (proceed p n)
  tested_right l None k operands f calls w =
      step_at_then w.left w _ _ _ ∙ step_right w _ _ _ _ (λ w. turn_right true l k operands f calls w)
  tested_right l (Some v) k operands f calls w =
      test_after (evaluate (setting_in p n f) f.frame.held v w) l k operands f calls ∙ begun_right p n v (enter_turn l ∷ k) operands f calls w

  pub test_right : (l : Loop) (k : List Task) (operands : List Operand) (f : Open) (calls : List Open) (w : State) → w.left ≤ n →
      and_then (turns_of (setting_in p n f) l f.frame w) (settled p n k operands f calls) ≡ and_then (tested_by p l l.tested k operands f calls w) (proceed p n)
  test_right l k operands f calls w b =
      ap (λ o. and_then o (settled p n k operands f calls))
      (loops_have_no_bound p f.depth f.function l.tested l.third l.body f.frame w n n n (suc n) b b b (omega (arith, b))) ∙
      tested_right l l.tested k operands f calls w

  pub looped_right : (keyword : LoopKeyword) (l : Loop) (k : List Task) (operands : List Operand) (f : Open) (calls : List Open) (w : State) → w.left ≤ n →
      and_then (loop_by keyword n (test (setting_in p n f) l.tested) (round (setting_in p n f) l.third l.body) f.frame w) (settled p n k operands f calls) ≡
      and_then (looped_by p keyword l k operands f calls w) (proceed p n)
  looped_right While l k operands f calls w b = test_right l k operands f calls w b
  looped_right For l k operands f calls w b = test_right l k operands f calls w b
  looped_right Do l k operands f calls w b = turn_right true l k operands f calls w

  -- the body of a `switch`
  switch_flow : (k : List Task) (operands : List Operand) (f : Open) (calls : List Open) (flow : Flow) (frame : Frame) (w : State) →
      and_then (after_switch (record { flow = flow; frame = frame }) w) (settled p n k operands f calls) ≡ settled p n (end_switch ∷ k) operands f calls (record { flow = flow; frame = frame }) w
  switch_flow k operands f calls normal frame w = refl
  switch_flow k operands f calls broken frame w = refl
  switch_flow k operands f calls continued frame w = refl
  switch_flow k operands f calls (returned x) frame w = refl

  from_without : (s : Setting) (i : ℕ) (xs : PlainStatements) (frame : Frame) (w : State) → execute_from s i xs frame w ≡ execute_from s 0 (without i xs) frame w
  from_without s zero xs frame w = refl
  from_without s (suc i) no_statements frame w = refl
  from_without s (suc i) (more_statements x xs) frame w = from_without s i xs frame w

  entered_right : (i : Option ℕ) (xs : PlainStatements) (k : List Task) (operands : List Operand) (f : Open) (calls : List Open) (w : State) →
      and_then (and_then (from_label i (λ k frame w. execute_from (setting_in p n f) k xs frame w) f.frame w) after_switch) (settled p n k operands f calls) ≡
      and_then (entered_at i xs k operands f calls w) (proceed p n)
  entered_right None xs k operands f calls w = refl
  entered_right (Some i) xs k operands f calls w =
      after_right (in_block (λ frame w. execute_from (setting_in p n f) i xs frame w) f.frame w) _ _ _ (λ done w. switch_flow k operands f calls done.flow done.frame w) ∙
      (block_right (λ frame w. execute_from (setting_in p n f) i xs frame w) (end_switch ∷ k) operands f calls w ∙
      ap (λ o. and_then o (settled p n (end_block ∷ (end_switch ∷ k)) operands (in_new_block f) calls)) (from_without (setting_in p n f) i xs (in_new_block f).frame w))

  pub selected_right : (i : Option ℕ) (body : PlainStatement) (k : List Task) (operands : List Operand) (f : Open) (calls : List Open) (w : State) →
      and_then (and_then (enter (setting_in p n f) i body f.frame w) after_switch) (settled p n k operands f calls) ≡ and_then (selected i body k operands f calls w) (proceed p n)
  selected_right i (statement at (block xs)) k operands f calls w = entered_right i xs k operands f calls w
  selected_right i (statement at form) k operands f calls w = refl

  -- ## Statements

  executed_right : (at : At) (form : PlainStatementForm) (k : List Task) (operands : List Operand) (f : Open) (calls : List Open) (w : State) →
      and_then (execute_form (setting_in p n f) at form f.frame w) (settled p n k operands f calls) ≡ and_then (executed p at form k operands f calls w) (proceed p n)
  executed_right at (declare m i) k operands f calls w = step_right w _ _ _ _ (λ w. declared_right at.span m (slice_get f.function.variables m) i k operands f calls w)
  executed_right at (set q v) k operands f calls w = step_right w _ _ _ _ (λ w.
      after_right (locate (setting_in p n f) f.frame.held q w) _ _ _ (λ target w. after_right (evaluate (setting_in p n f) f.frame.held v w) _ _ _ (λ x w.
      done_right (write_target (place_at q).span target (holding x) f.frame w) k operands f calls)) ∙
      sought_right p n q (evaluate_value v ∷ (operate (write_at (place_at q).span) ∷ k)) operands f calls w)
  executed_right at (update kind op t q v) k operands f calls w = step_right w _ _ _ _ (λ w.
      after_right (locate (setting_in p n f) f.frame.held q w) _ _ _ (λ target w. step_right w _ _ _ _ (λ w.
      then_right (read_target (place_at q).span (place_type q) f.frame.held target w) _ _ _ _ (λ x w.
      after_right (evaluate (setting_in p n f) f.frame.held v w) _ _ _ (λ y w. step_right w _ _ _ _ (λ w.
      or_right (operated op t w.objects (converted_to t x) y) at.span w _ _ _ _ (λ z.
      done_right (write_target (place_at q).span target (holding (converted_to (place_type q) z)) f.frame w) k operands f calls)))))) ∙
      sought_right p n q (operate (read_old (place_at q).span (place_type q) t) ∷ (evaluate_value v ∷ (operate (write_new op at.span t (place_at q).span (place_type q)) ∷ k))) operands f calls w)
  executed_right at (copy q r) k operands f calls w = step_right w _ _ _ _ (λ w.
      after_right (locate (setting_in p n f) f.frame.held q w) _ _ _ (λ target w. after_right (locate (setting_in p n f) f.frame.held r w) _ _ _ (λ source w.
      done_right (copy_scalars (width p (place_type q)) 0 (place_at q).span (pointer_to target) (place_at r).span (pointer_to source) f.frame w) k operands f calls)) ∙
      sought_right p n q (locate_place r ∷ (operate (copy_between (place_at q).span (place_at r).span (place_type q)) ∷ k)) operands f calls w)
  executed_right at (asserts there v) k operands f calls w = step_right w _ _ _ _ (λ w.
      after_right (evaluate (setting_in p n f) f.frame.held v w) _ _ _ (λ x w. then_right (asserted there.span x w) _ _ _ _ (λ none w. refl)))
  executed_right at (expression v) k operands f calls w = step_right w _ _ _ _ (λ w. after_right (discard (setting_in p n f) f.frame.held v w) _ _ _ (λ x w. refl))
  executed_right at (if_then v a) k operands f calls w = step_right w _ _ _ _ (λ w.
      after_right (evaluate (setting_in p n f) f.frame.held v w) _ _ _ (λ x w. one_right (is_true x) a k operands f calls w))
  executed_right at (if_else v a b) k operands f calls w = step_right w _ _ _ _ (λ w.
      after_right (evaluate (setting_in p n f) f.frame.held v w) _ _ _ (λ x w. two_right (is_true x) a b k operands f calls w))
  executed_right at (loop head first tested third body) k operands f calls w = step_right w _ _ _ _ (λ w.
      block_right (looped (setting_in p n f) head.keyword first tested third body) k operands f calls w ∙
      after_right (execute_from (setting_in p n f) 0 first (in_new_block f).frame w) _ _ _ (λ done w.
      go_loop head.keyword (record { tested = tested; third = third; body = body }) (end_block ∷ k) operands (in_new_block f) calls done.flow done.frame w))
  executed_right at (switch keyword v labels body) k operands f calls w = step_right w _ _ _ _ (λ w.
      after_right (evaluate (setting_in p n f) f.frame.held v w) _ _ _ (λ x w. refl))
  executed_right at (return keyword None) k operands f calls w = step_right w _ _ _ _ (λ w. refl)
  executed_right at (return keyword (Some v)) k operands f calls w = step_right w _ _ _ _ (λ w.
      after_right (evaluate (setting_in p n f) f.frame.held v w) _ _ _ (λ x w. refl))
  executed_right at break k operands f calls w = step_right w _ _ _ _ (λ w. refl)
  executed_right at continue k operands f calls w = step_right w _ _ _ _ (λ w. refl)
  executed_right at empty k operands f calls w = step_right w _ _ _ _ (λ w. refl)
  executed_right at (block xs) k operands f calls w = block_right (λ frame w. execute_from (setting_in p n f) 0 xs frame w) k operands f calls w
  executed_right at (declare_static m) k operands f calls w = refl
  executed_right at (mark InitDone) k operands f calls w = refl
  executed_right at (mark TaskLoop) k operands f calls w = refl

  pub statement_right : (x : PlainStatement) (k : List Task) (operands : List Operand) (f : Open) (calls : List Open) (w : State) →
      and_then (execute (setting_in p n f) x f.frame w) (settled p n k operands f calls) ≡ and_then (begun_statement p x k operands f calls w) (proceed p n)
  statement_right (statement at form) k operands f calls w = executed_right at form k operands f calls w

  pub statements_right : (xs : PlainStatements) (k : List Task) (operands : List Operand) (f : Open) (calls : List Open) (w : State) →
      and_then (execute_from (setting_in p n f) 0 xs f.frame w) (settled p n k operands f calls) ≡ and_then (begun_statements p xs k operands f calls w) (proceed p n)
  statements_right no_statements k operands f calls w = refl
  statements_right (more_statements x xs) k operands f calls w =
      after_right (execute (setting_in p n f) x f.frame w) _ _ _ (λ done w. go_statements xs k operands f calls done.flow done.frame w) ∙
      statement_right x (execute_statements xs ∷ k) operands f calls w

  -- the copy of a structure into the place on top
  pub copy_right : (span : Span) (t : PlainType) (q : PlainPlace) (target : Target) (k : List Task) (operands : List Operand) (f : Open) (calls : List Open) (w : State) →
      and_then (step w (λ w. and_then (locate (setting_in p n f) f.frame.held q w) (λ source w.
      copy_scalars (width p t) 0 span (pointer_to target) (place_at q).span (pointer_to source) f.frame w))) (settled p n k operands f calls) ≡
      and_then (step w (λ w. sought p q (operate (copy_between span (place_at q).span t) ∷ k) (located target ∷ operands) f calls w)) (proceed p n)
  copy_right span t q target k operands f calls w = step_right w _ _ _ _ (λ w.
      after_right (locate (setting_in p n f) f.frame.held q w) _ _ _ (λ source w.
      done_right (copy_scalars (width p t) 0 span (pointer_to target) (place_at q).span (pointer_to source) f.frame w) k operands f calls) ∙
      sought_right p n q (operate (copy_between span (place_at q).span t) ∷ k) (located target ∷ operands) f calls w)

  -- ## Calls

  leave_flow : (k : List Task) (operands : List Operand) (f : Open) (calls : List Open) (flow : Flow) (frame : Frame) (w : State) →
      and_then (leave_call (record { flow = flow; frame = frame }) w) (λ x w. resume p n k (evaluated x ∷ operands) calls w) ≡
      settled p n (end_call ∷ k) operands f calls (record { flow = flow; frame = frame }) w
  leave_flow k operands f calls normal frame w = refl
  leave_flow k operands f calls broken frame w = refl
  leave_flow k operands f calls continued frame w = refl
  leave_flow k operands f calls (returned x) frame w = refl

  body_right : (o : Progress Done) (k : List Task) (operands : List Operand) (f : Open) (calls : List Open) →
      and_then (and_then o leave_call) (λ x w. resume p n k (evaluated x ∷ operands) calls w) ≡ and_then o (settled p n (end_call ∷ k) operands f calls)
  body_right (gives done w) k operands f calls = leave_flow k operands f calls done.flow done.frame w
  body_right (ends end w) k operands f calls = refl

  entered_call : (h : Option PlainFunction) (xs : List Scalar) (k : List Task) (operands : List Operand) (calls : List Open) (w : State) →
      and_then (enter_call p n (call_at n p) (depth_of calls) h xs w) (λ x w. resume p n k (evaluated x ∷ operands) calls w) ≡ and_then (entered_if h xs k operands calls w) (proceed p n)
  entered_call None xs k operands calls w = refl
  entered_call (Some h) xs k operands calls w =
      let there : Depth = deeper h (depth_of calls) in
      let start : Entered = entered h.variables xs (raised there w) in
      body_right (execute_from (setting_of p n (call_at n p) there h) 0 h.body start.frame start.state) k operands (record { function = h; depth = there; frame = start.frame; outer = [] }) calls

  pub call_right : (g : ℕ) (xs : List Scalar) (k : List Task) (operands : List Operand) (calls : List Open) (w : State) → w.left ≤ n →
      and_then (call_at n p (depth_of calls) g xs w) (λ x w. resume p n k (evaluated x ∷ operands) calls w) ≡
      and_then (step w (λ w. entered_if (slice_get p.functions g) xs k operands calls w)) (proceed p n)
  call_right g xs k operands calls w b =
      let law : CallsRun p (depth_of calls) g xs w = calls_run p (depth_of calls) g xs w in
      ap (λ o. and_then o (λ x w. resume p n k (evaluated x ∷ operands) calls w)) (law.plain n b) ∙
      step_right w _ _ _ _ (λ w. entered_call (slice_get p.functions g) xs k operands calls w)
