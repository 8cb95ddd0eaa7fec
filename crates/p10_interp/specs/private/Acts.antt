-- One act of the machine: what it does for the task on top, as a function on plain lists. It takes the next step of the run, or
-- moves between two steps.
use Rattle.std.specs.Prelude.{ℕ, zero, suc, if◌then◌else◌, Bool, true, false, List, [], ◌∷◌, length, Option, Some, None, slice_get, slice_set}
use Rattle.p10_base.specs.declared.span.Span.{Span}
use Rattle.p10_base.specs.declared.at.At.{At}
use Rattle.p10_core.specs.declared.typed.LogicOp.{LogicOp}
use Rattle.p10_core.specs.declared.statements.LoopKeyword.{LoopKeyword}
use Rattle.p10_core.specs.declared.statements.LoopKeyword.TheVariants.{While, Do, For}
use Rattle.p10_core.specs.declared.statements.MarkKind.TheVariants.{InitDone, TaskLoop}
use Rattle.p10_core.specs.Types.{PlainType}
use Rattle.p10_core.specs.Typed.{PlainValue, value, PlainForm, constant, read, sense, address, decay, convert, cast, unary, binary, logic, conditional, call, built_in, PlainPlace, place, variable, global, literal, index, member, dereference, PlainValues, no_values, more_values, place_at, place_type, PlainWritten, one_scalar, scalars_of_text, PlainItem, PlainInitializer, not_initialized, single, copied, listed, PlainStatement, statement, PlainStatementForm, set, update, copy, evaluate as expression, asserts, declare, declare_static, block, if_then, if_else, loop, switch, break, continue, return, empty, mark, PlainStatements, no_statements, more_statements, PlainVariable, PlainFunction, PlainProgram}
use Rattle.p10_meaning.specs.declared.pointers.Scalar.{Scalar}
use Rattle.p10_meaning.specs.declared.pointers.Scalar.TheVariants.{Int}
use Rattle.p10_meaning.specs.Pointers.{unset, first_of}
use Rattle.p10_meaning.specs.Objects.{declared}
use Rattle.p10_meaning.specs.States.{State, Progress, gives, step, and_then, or_undefined}
use Rattle.p10_meaning.specs.Scalars.{number_of, is_true, truth_value, unset_cells}
use Rattle.p10_meaning.specs.Values.{holds, stands, scalars, width, open_object, Target, Variable, Element, variable_target, global_target, literal_number, literal_target, sensed, is_void, is_structure, is_decided}
use Rattle.p10_meaning.specs.Statements.{Flow, normal, broken, continued, returned, labelled, holding_at}
use Rattle.p10_meaning.specs.Calling.{Depth, deeper, raised, Entered, entered, given}
use Rattle.p10_interp.specs.private.Tasks.{use_value, drop_value, give_none, convert_to, apply_unary, apply_binary, take_truth, call_library, read_at, read_none, take_address, decay_at, index_at, member_at, dereference_at, write_at, read_old, write_new, copy_between, fill_from, assert_at, give_back, Loop, Task, evaluate_value, discard_value, locate_place, evaluate_values, evaluate_items, decide, choose, call_function, execute_statement, execute_statements, copy_into, branch, begin_loop, test_loop, enter_turn, end_turn, end_block, select, end_switch, end_call, operate, Operand, evaluated, located, Open, Rig}
use Rattle.p10_interp.specs.private.Operations.{on_value, on_target, on_values, on_call, count_of, with_frame, in_new_block, after_block, block_closed, done_by}
use Rattle.p10_interp.specs.private.Resuming.{depth_of}

-- the machine goes on with these tasks
abbrev pub goes_on : List Task → List Operand → List Open → State → Progress Rig
goes_on k operands calls w = gives (record { flow = normal; tasks = k; operands = operands; calls = calls }) w

-- the machine goes back to the task that takes this flow
abbrev pub goes_back : Flow → List Task → List Operand → List Open → State → Progress Rig
goes_back flow k operands calls w = gives (record { flow = flow; tasks = k; operands = operands; calls = calls }) w

-- ## Places and values

-- a place is looked for, and is put on top of the operands
abbrev pub sought : PlainProgram → PlainPlace → List Task → List Operand → Open → List Open → State → Progress Rig
sought p (place at t (variable n)) k operands f calls w =
    or_undefined (variable_target n (width p t) (slice_get f.frame.held n)) at.span w (λ target. goes_on k (located target ∷ operands) (f ∷ calls) w)
sought p (place at t (global n)) k operands f calls w =
    or_undefined (global_target n (width p t) (slice_get p.objects n)) at.span w (λ target. goes_on k (located target ∷ operands) (f ∷ calls) w)
sought p (place at t (literal n bytes)) k operands f calls w =
    or_undefined (literal_target (width p t) (literal_number n (length p.objects) p.literals)) at.span w (λ target. goes_on k (located target ∷ operands) (f ∷ calls) w)
sought p (place at t (index a i)) k operands f calls w =
    step w (λ w. goes_on (evaluate_value a ∷ (evaluate_value i ∷ (operate (index_at at.span) ∷ k))) operands (f ∷ calls) w)
sought p (place at t (member q m)) k operands f calls w =
    step w (λ w. goes_on (locate_place q ∷ (operate (member_at at.span (place_type q) m t) ∷ k)) operands (f ∷ calls) w)
sought p (place at t (dereference v)) k operands f calls w =
    step w (λ w. goes_on (evaluate_value v ∷ (operate (dereference_at at.span) ∷ k)) operands (f ∷ calls) w)

-- whether a form may give no value
abbrev pub may_give_none : PlainType → PlainForm → Bool
may_give_none t (read q) = is_structure t
may_give_none t (cast v) = is_void t
may_give_none t (call name g arguments) = true
may_give_none t (built_in name function arguments) = true
may_give_none t form = false

-- the tasks after a form whose value is used: where it may give none, that is looked at first
abbrev pub use_after : At → PlainType → PlainForm → List Task → List Task
use_after at t form k = if may_give_none t form then operate (use_value at.span) ∷ k else k

-- what a place is read for: the scalar in it, or nothing of a structure
abbrev pub reading : PlainType → PlainPlace → Task
reading t q = if is_structure t then operate read_none else operate (read_at (place_at q).span t)

-- the operand of a cast: it isn't used where the type is `void`
abbrev pub casting : PlainType → PlainValue → List Task → List Task
casting t v k = if is_void t then discard_value v ∷ (operate give_none ∷ k) else evaluate_value v ∷ (operate (convert_to t) ∷ k)

abbrev mutual
  -- a value that is used begins to be evaluated
  pub begun : PlainProgram → PlainValue → List Task → List Operand → Open → List Open → State → Progress Rig
  begun p (value at t form) k operands f calls w = begun_form p at t form (use_after at t form k) operands f calls w

  -- a form begins to be evaluated: each takes a step at once, and a conversion that isn't written that of its operand
  pub begun_form : PlainProgram → At → PlainType → PlainForm → List Task → List Operand → Open → List Open → State → Progress Rig
  begun_form p at t (constant z) k operands f calls w = step w (λ w. goes_on k (evaluated (Some (Int z)) ∷ operands) (f ∷ calls) w)
  begun_form p at t (read q) k operands f calls w = step w (λ w. sought p q (reading t q ∷ k) operands f calls w)
  begun_form p at t (sense n) k operands f calls w =
      step w (λ w. and_then (sensed t w) (λ x w. goes_on k (evaluated (Some x) ∷ operands) (f ∷ calls) w))
  begun_form p at t (address q) k operands f calls w = step w (λ w. sought p q (operate take_address ∷ k) operands f calls w)
  begun_form p at t (decay q) k operands f calls w =
      step w (λ w. sought p q (operate (decay_at at.span (place_type q)) ∷ k) operands f calls w)
  begun_form p at t (convert v) k operands f calls w = begun p v (operate (convert_to t) ∷ k) operands f calls w
  begun_form p at t (cast v) k operands f calls w = step w (λ w. goes_on (casting t v k) operands (f ∷ calls) w)
  begun_form p at t (unary op v) k operands f calls w =
      step w (λ w. goes_on (evaluate_value v ∷ (operate (apply_unary op t at.span) ∷ k)) operands (f ∷ calls) w)
  begun_form p at t (binary op a b) k operands f calls w =
      step w (λ w. goes_on (evaluate_value a ∷ (evaluate_value b ∷ (operate (apply_binary op t at.span) ∷ k))) operands (f ∷ calls) w)
  begun_form p at t (logic op a b) k operands f calls w = step w (λ w. goes_on (evaluate_value a ∷ (decide op b ∷ k)) operands (f ∷ calls) w)
  begun_form p at t (conditional c a b) k operands f calls w = step w (λ w. goes_on (evaluate_value c ∷ (choose a b ∷ k)) operands (f ∷ calls) w)
  begun_form p at t (call name g arguments) k operands f calls w =
      step w (λ w. goes_on (evaluate_values arguments ∷ (call_function g (count_of arguments) ∷ k)) operands (f ∷ calls) w)
  begun_form p at t (built_in name function arguments) k operands f calls w =
      step w (λ w. goes_on (evaluate_values arguments ∷ (operate (call_library function at.span t (count_of arguments)) ∷ k)) operands (f ∷ calls) w)

-- a value that isn't used begins to be evaluated
abbrev pub begun_unused : PlainProgram → PlainValue → List Task → List Operand → Open → List Open → State → Progress Rig
begun_unused p (value at t form) k operands f calls w = begun_form p at t form (operate drop_value ∷ k) operands f calls w

-- the first of the arguments begins to be evaluated
abbrev pub begun_values : PlainProgram → PlainValues → List Task → List Operand → Open → List Open → State → Progress Rig
begun_values p no_values k operands f calls w = goes_on k operands (f ∷ calls) w
begun_values p (more_values v vs) k operands f calls w = begun p v (evaluate_values vs ∷ k) operands f calls w

-- the first of the values that items give begins to be evaluated
abbrev pub begun_written : PlainProgram → PlainWritten → List PlainItem → List Task → List Operand → Open → List Open → State → Progress Rig
begun_written p (one_scalar v) items k operands f calls w = begun p v (evaluate_items items ∷ k) operands f calls w
begun_written p (scalars_of_text bytes) items k operands f calls w = goes_on (evaluate_items items ∷ k) operands (f ∷ calls) w

abbrev pub begun_items : PlainProgram → List PlainItem → List Task → List Operand → Open → List Open → State → Progress Rig
begun_items p [] k operands f calls w = goes_on k operands (f ∷ calls) w
begun_items p (item ∷ items) k operands f calls w = begun_written p item.written items k operands f calls w

-- `&&` or `||` after its left operand
abbrev pub decided : LogicOp → PlainValue → Scalar → List Task → List Operand → List Open → State → Progress Rig
decided op v x k operands calls w =
    if is_decided op (is_true x)
    then goes_on k (evaluated (Some (truth_value (is_true x))) ∷ operands) calls w
    else goes_on (evaluate_value v ∷ (operate take_truth ∷ k)) operands calls w

-- ## Calls

-- the new frame of a call of a function: its body is to be executed
abbrev pub entered_by : PlainFunction → List Scalar → List Task → List Operand → List Open → State → Progress Rig
entered_by h xs k operands calls w =
    let there : Depth = deeper h (depth_of calls) in
    let start : Entered = entered h.variables xs (raised there w) in
    goes_on (execute_statements h.body ∷ (end_call ∷ k)) operands (record { function = h; depth = there; frame = start.frame; outer = [] } ∷ calls) start.state

-- a function is entered, if it is there
abbrev pub entered_if : Option PlainFunction → List Scalar → List Task → List Operand → List Open → State → Progress Rig
entered_if None xs k operands calls w = goes_on k (evaluated None ∷ operands) calls w
entered_if (Some h) xs k operands calls w = entered_by h xs k operands calls w

-- ## Statements

-- a variable whose declaration was executed is initialised
abbrev pub initialized : Span → PlainType → Target → PlainInitializer → List Task → List Operand → Open → List Open → State → Progress Rig
initialized span t target not_initialized k operands f calls w = goes_on k operands (f ∷ calls) w
initialized span t target (single v) k operands f calls w =
    goes_on (evaluate_value v ∷ (operate (write_at span) ∷ k)) (located target ∷ operands) (f ∷ calls) w
initialized span t target (copied q) k operands f calls w = goes_on (copy_into span t q ∷ k) (located target ∷ operands) (f ∷ calls) w
initialized span t target (listed at items) k operands f calls w =
    goes_on (evaluate_items items ∷ (operate (fill_from span t items) ∷ k)) (located target ∷ operands) (f ∷ calls) w

-- a variable is declared: a frame variable is unset, any other is a new object
abbrev pub declared_by : PlainProgram → Span → ℕ → Option PlainVariable → PlainInitializer → List Task → List Operand → Open → List Open → State → Progress Rig
declared_by p span n None i k operands f calls w = goes_on k operands (f ∷ calls) w
declared_by p span n (Some v) i k operands f calls w =
    if v.frame
    then initialized span v.type (Variable n) i k operands (with_frame f (holding_at f.frame n (holds unset))) calls w
    else initialized span v.type (Element (first_of w.opened (width p v.type) 1)) i k operands
    (with_frame f (record { held = slice_set f.frame.held n (stands w.opened); opened = w.opened ∷ f.frame.opened })) calls
    (open_object declared (unset_cells (scalars p v.type)) w)

-- a loop's test begins
abbrev pub tested_by : PlainProgram → Loop → Option PlainValue → List Task → List Operand → Open → List Open → State → Progress Rig
tested_by p l None k operands f calls w = step w (λ w. goes_on (execute_statement l.body ∷ (end_turn l ∷ k)) operands (f ∷ calls) w)
tested_by p l (Some v) k operands f calls w = begun p v (enter_turn l ∷ k) operands f calls w

-- a loop begins
abbrev pub looped_by : PlainProgram → LoopKeyword → Loop → List Task → List Operand → Open → List Open → State → Progress Rig
looped_by p While l k operands f calls w = tested_by p l l.tested k operands f calls w
looped_by p For l k operands f calls w = tested_by p l l.tested k operands f calls w
looped_by p Do l k operands f calls w = goes_on (execute_statement l.body ∷ (end_turn l ∷ k)) operands (f ∷ calls) w

-- statements without the first k
abbrev pub without : ℕ → PlainStatements → PlainStatements
without zero xs = xs
without (suc k) no_statements = no_statements
without (suc k) (more_statements x xs) = without k xs

-- the body of a `switch` is entered at an item, if there is one
abbrev pub entered_at : Option ℕ → PlainStatements → List Task → List Operand → Open → List Open → State → Progress Rig
entered_at None xs k operands f calls w = goes_on k operands (f ∷ calls) w
entered_at (Some i) xs k operands f calls w =
    goes_on (execute_statements (without i xs) ∷ (end_block ∷ (end_switch ∷ k))) operands (in_new_block f ∷ calls) w

abbrev pub selected : Option ℕ → PlainStatement → List Task → List Operand → Open → List Open → State → Progress Rig
selected i (statement at (block xs)) k operands f calls w = entered_at i xs k operands f calls w
selected i (statement at form) k operands f calls w = goes_on k operands (f ∷ calls) w

-- a statement begins to be executed
abbrev pub executed : PlainProgram → At → PlainStatementForm → List Task → List Operand → Open → List Open → State → Progress Rig
executed p at (declare n i) k operands f calls w =
    step w (λ w. declared_by p at.span n (slice_get f.function.variables n) i k operands f calls w)
executed p at (set q v) k operands f calls w =
    step w (λ w. sought p q (evaluate_value v ∷ (operate (write_at (place_at q).span) ∷ k)) operands f calls w)
executed p at (update kind op t q v) k operands f calls w =
    step w (λ w. sought p q (operate (read_old (place_at q).span (place_type q) t) ∷ (evaluate_value v ∷ (operate (write_new op at.span t (place_at q).span (place_type q)) ∷ k))) operands f calls w)
executed p at (copy q r) k operands f calls w =
    step w (λ w. sought p q (locate_place r ∷ (operate (copy_between (place_at q).span (place_at r).span (place_type q)) ∷ k)) operands f calls w)
executed p at (asserts there v) k operands f calls w =
    step w (λ w. goes_on (evaluate_value v ∷ (operate (assert_at there.span) ∷ k)) operands (f ∷ calls) w)
executed p at (expression v) k operands f calls w = step w (λ w. goes_on (discard_value v ∷ k) operands (f ∷ calls) w)
executed p at (if_then v a) k operands f calls w = step w (λ w. goes_on (evaluate_value v ∷ (branch a None ∷ k)) operands (f ∷ calls) w)
executed p at (if_else v a b) k operands f calls w = step w (λ w. goes_on (evaluate_value v ∷ (branch a (Some b) ∷ k)) operands (f ∷ calls) w)
executed p at (loop head first tested third body) k operands f calls w =
    step w (λ w. goes_on (execute_statements first ∷ (begin_loop head.keyword (record { tested = tested; third = third; body = body }) ∷ (end_block ∷ k))) operands (in_new_block f ∷ calls) w)
executed p at (switch keyword v labels body) k operands f calls w =
    step w (λ w. goes_on (evaluate_value v ∷ (select labels body ∷ k)) operands (f ∷ calls) w)
executed p at (return keyword None) k operands f calls w = step w (λ w. goes_back (returned None) k operands (f ∷ calls) w)
executed p at (return keyword (Some v)) k operands f calls w =
    step w (λ w. goes_on (evaluate_value v ∷ (operate give_back ∷ k)) operands (f ∷ calls) w)
executed p at break k operands f calls w = step w (λ w. goes_back broken k operands (f ∷ calls) w)
executed p at continue k operands f calls w = step w (λ w. goes_back continued k operands (f ∷ calls) w)
executed p at empty k operands f calls w = step w (λ w. goes_on k operands (f ∷ calls) w)
executed p at (block xs) k operands f calls w = goes_on (execute_statements xs ∷ (end_block ∷ k)) operands (in_new_block f ∷ calls) w
executed p at (declare_static n) k operands f calls w = goes_on k operands (f ∷ calls) w
executed p at (mark InitDone) k operands f calls w = goes_on k operands (f ∷ calls) (record w { marked = true })
executed p at (mark TaskLoop) k operands f calls w = goes_on k operands (f ∷ calls) w

abbrev pub begun_statement : PlainProgram → PlainStatement → List Task → List Operand → Open → List Open → State → Progress Rig
begun_statement p (statement at form) k operands f calls w = executed p at form k operands f calls w

-- the first of the statements begins to be executed
abbrev pub begun_statements : PlainProgram → PlainStatements → List Task → List Operand → Open → List Open → State → Progress Rig
begun_statements p no_statements k operands f calls w = goes_on k operands (f ∷ calls) w
begun_statements p (more_statements x xs) k operands f calls w = begun_statement p x (execute_statements xs ∷ k) operands f calls w

-- the branch of an `if`
abbrev pub branched : Bool → PlainStatement → Option PlainStatement → List Task → List Operand → List Open → State → Progress Rig
branched true a b k operands calls w = goes_on (execute_statement a ∷ k) operands calls w
branched false a None k operands calls w = goes_on k operands calls w
branched false a (Some b) k operands calls w = goes_on (execute_statement b ∷ k) operands calls w

-- ## Acts

-- the act for a task, where execution goes on with it
abbrev pub act : PlainProgram → Task → List Task → List Operand → List Open → State → Progress Rig
act p (evaluate_value v) k operands calls w = on_call calls w (λ f calls. begun p v k operands f calls w)
act p (discard_value v) k operands calls w = on_call calls w (λ f calls. begun_unused p v k operands f calls w)
act p (locate_place q) k operands calls w = on_call calls w (λ f calls. sought p q k operands f calls w)
act p (evaluate_values vs) k operands calls w = on_call calls w (λ f calls. begun_values p vs k operands f calls w)
act p (evaluate_items items) k operands calls w = on_call calls w (λ f calls. begun_items p items k operands f calls w)
act p (decide op v) k operands calls w =
    on_value operands w (λ x operands. on_call calls w (λ f calls. decided op v x k operands (f ∷ calls) w))
act p (choose a b) k operands calls w =
    on_value operands w (λ x operands. on_call calls w (λ f calls. goes_on (evaluate_value (if is_true x then a else b) ∷ k) operands (f ∷ calls) w))
act p (call_function g m) k operands calls w =
    on_values m operands w (λ xs operands. step w (λ w. entered_if (slice_get p.functions g) xs k operands calls w))
act p (execute_statement x) k operands calls w = on_call calls w (λ f calls. begun_statement p x k operands f calls w)
act p (execute_statements xs) k operands calls w = on_call calls w (λ f calls. begun_statements p xs k operands f calls w)
act p (copy_into span t q) k operands calls w =
    on_target operands w (λ target operands. on_call calls w (λ f calls.
    step w (λ w. sought p q (operate (copy_between span (place_at q).span t) ∷ k) (located target ∷ operands) f calls w)))
act p (branch a b) k operands calls w =
    on_value operands w (λ x operands. on_call calls w (λ f calls. branched (is_true x) a b k operands (f ∷ calls) w))
act p (begin_loop keyword l) k operands calls w = on_call calls w (λ f calls. looped_by p keyword l k operands f calls w)
act p (test_loop l) k operands calls w = on_call calls w (λ f calls. tested_by p l l.tested k operands f calls w)
act p (enter_turn l) k operands calls w =
    on_value operands w (λ x operands. on_call calls w (λ f calls.
    if is_true x then goes_on (execute_statement l.body ∷ (end_turn l ∷ k)) operands (f ∷ calls) w else goes_on k operands (f ∷ calls) w))
act p (end_turn l) k operands calls w =
    on_call calls w (λ f calls. goes_on (execute_statements l.third ∷ (test_loop l ∷ k)) operands (f ∷ calls) w)
act p end_block k operands calls w = on_call calls w (λ f calls. goes_on k operands (after_block f ∷ calls) (block_closed f w))
act p (select labels body) k operands calls w =
    on_value operands w (λ x operands. on_call calls w (λ f calls.
    selected (labelled (number_of x) labels.cases labels.otherwise) body k operands f calls w))
act p end_switch k operands calls w = goes_on k operands calls w
act p end_call k operands calls w = on_call calls w (λ f calls. goes_on k (evaluated None ∷ operands) calls (block_closed f w))
act p (operate o) k operands calls w =
    and_then (done_by p o operands calls w) (λ left w. goes_back left.flow k left.operands left.calls w)

-- the act for a task that is met after `break`, `continue` or `return`
abbrev pub pass : PlainProgram → Flow → Task → List Task → List Operand → List Open → State → Progress Rig
pass p flow end_block k operands calls w = on_call calls w (λ f calls. goes_back flow k operands (after_block f ∷ calls) (block_closed f w))
pass p flow end_call k operands calls w = on_call calls w (λ f calls. goes_on k (evaluated (given flow) ∷ operands) calls (block_closed f w))
pass p broken end_switch k operands calls w = goes_on k operands calls w
pass p broken (end_turn l) k operands calls w = goes_on k operands calls w
pass p broken (test_loop l) k operands calls w = goes_on k operands calls w
pass p continued (end_turn l) k operands calls w = act p (end_turn l) k operands calls w
pass p continued (test_loop l) k operands calls w = act p (test_loop l) k operands calls w
pass p flow t k operands calls w = goes_back flow k operands calls w

-- the next act: that for the task on top, or the one by which it is met on the way back
abbrev pub next_act : PlainProgram → Flow → Task → List Task → List Operand → List Open → State → Progress Rig
next_act p normal t k operands calls w = act p t k operands calls w
next_act p broken t k operands calls w = pass p broken t k operands calls w
next_act p continued t k operands calls w = pass p continued t k operands calls w
next_act p (returned x) t k operands calls w = pass p (returned x) t k operands calls w
