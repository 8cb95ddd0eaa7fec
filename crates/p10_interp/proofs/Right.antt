-- Each act leaves what the tasks come to as it was.
use Rattle.std.proofs.Common.{◌≡◌, ℕ, ◌≤◌, Bool, true, false, List, [], ◌∷◌, refl, sym, Option, Some, None}
use Rattle.std.specs.Prelude.{if◌then◌else◌}
use Rattle.p10_core.specs.Typed.{PlainValue, PlainProgram}
use Rattle.p10_meaning.specs.declared.pointers.Scalar.{Scalar}
use Rattle.p10_meaning.specs.States.{State, Progress, and_then}
use Rattle.p10_meaning.specs.Scalars.{number_of, is_true, truth_value}
use Rattle.p10_meaning.specs.Values.{is_decided, evaluate}
use Rattle.p10_meaning.specs.Statements.{Flow, normal, broken, continued, returned, labelled}
use Rattle.p10_interp.specs.private.Tasks.{Task, evaluate_value, discard_value, locate_place, evaluate_values, evaluate_items, decide, choose, call_function, execute_statement, execute_statements, copy_into, branch, begin_loop, test_loop, enter_turn, end_turn, end_block, select, end_switch, end_call, operate, Operand, evaluated, Open, Left, Rig}
use Rattle.p10_interp.specs.private.Operations.{first_value, first_target, below, on_some, taken_before, on_taken, on_call, done_by}
use Rattle.p10_interp.specs.private.Resuming.{setting_in, resume, unwind, proceed}
use Rattle.p10_interp.specs.private.Acts.{goes_on, act, pass, next_act}
use Rattle.p10_interp.proofs.Continuing.{after_right}
use Rattle.p10_interp.proofs.RightValues.{sought_right, begun_right, unused_right, values_right, items_right, decided_right}
use Rattle.p10_interp.proofs.RightStatements.{branched_right, end_turn_right, turn_right, test_right, looped_right, selected_right, statement_right, statements_right, copy_right, call_right}

-- ## What has to be on top

call_case : (calls : List Open) (w : State) (go : Open → List Open → Progress Left) (to : Open → List Open → Progress Rig) (h : Rig → State → Progress Left) →
    ((f : Open) (calls : List Open) → go f calls ≡ and_then (to f calls) h) → on_call calls w go ≡ and_then (on_call calls w to) h
call_case [] w go to h e = refl
call_case (f ∷ calls) w go to h e = e f calls

some_case : {A : Type 0} (o : Option A) (w : State) (go : A → Progress Left) (to : A → Progress Rig) (h : Rig → State → Progress Left) →
    ((x : A) → go x ≡ and_then (to x) h) → on_some o w go ≡ and_then (on_some o w to) h
some_case None w go to h e = refl
some_case (Some x) w go to h e = e x

taken_case : (taken : Option (List Scalar × List Operand)) (w : State) (go : List Scalar → List Operand → Progress Left) (to : List Scalar → List Operand → Progress Rig) (h : Rig → State → Progress Left) →
    ((xs : List Scalar) (operands : List Operand) → go xs operands ≡ and_then (to xs operands) h) → on_taken taken w go ≡ and_then (on_taken taken w to) h
taken_case None w go to h e = refl
taken_case (Some (xs, operands)) w go to h e = e xs operands

-- ## Acts

module _ (p : PlainProgram) (n : ℕ) where
  chosen_right : (b : Bool) (a c : PlainValue) (k : List Task) (operands : List Operand) (f : Open) (calls : List Open) (w : State) →
      and_then (if b then evaluate (setting_in p n f) f.frame.held a w else evaluate (setting_in p n f) f.frame.held c w) (λ y w. resume p n k (evaluated (Some y) ∷ operands) (f ∷ calls) w) ≡
      and_then (goes_on (evaluate_value (if b then a else c) ∷ k) operands (f ∷ calls) w) (proceed p n)
  chosen_right true a c k operands f calls w = refl
  chosen_right false a c k operands f calls w = refl

  -- an act leaves what the tasks come to, as long as the bound is no less than the steps that are left
  pub act_right : (t : Task) (k : List Task) (operands : List Operand) (calls : List Open) (w : State) → w.left ≤ n →
      resume p n (t ∷ k) operands calls w ≡ and_then (act p t k operands calls w) (proceed p n)
  act_right (evaluate_value v) k operands calls w b = call_case calls w _ _ _ (λ f calls. begun_right p n v k operands f calls w)
  act_right (discard_value v) k operands calls w b = call_case calls w _ _ _ (λ f calls. unused_right p n v k operands f calls w)
  act_right (locate_place q) k operands calls w b = call_case calls w _ _ _ (λ f calls. sought_right p n q k operands f calls w)
  act_right (evaluate_values vs) k operands calls w b = call_case calls w _ _ _ (λ f calls. values_right p n vs k operands f calls w)
  act_right (evaluate_items items) k operands calls w b = call_case calls w _ _ _ (λ f calls. items_right p n items k operands f calls w)
  act_right (decide op v) k operands calls w b = some_case (first_value operands) w _ _ _ (λ x. call_case calls w _ _ _ (λ f calls.
      decided_right p n (is_decided op (is_true x)) (truth_value (is_true x)) v k (below operands) f calls w))
  act_right (choose a c) k operands calls w b = some_case (first_value operands) w _ _ _ (λ x. call_case calls w _ _ _ (λ f calls. chosen_right (is_true x) a c k (below operands) f calls w))
  act_right (call_function g m) k operands calls w b = taken_case (taken_before m [] operands) w _ _ _ (λ xs operands. call_right p n g xs k operands calls w b)
  act_right (execute_statement x) k operands calls w b = call_case calls w _ _ _ (λ f calls. statement_right p n x k operands f calls w)
  act_right (execute_statements xs) k operands calls w b = call_case calls w _ _ _ (λ f calls. statements_right p n xs k operands f calls w)
  act_right (copy_into span t q) k operands calls w b = some_case (first_target operands) w _ _ _ (λ target. call_case calls w _ _ _ (λ f calls. copy_right p n span t q target k (below operands) f calls w))
  act_right (branch a c) k operands calls w b = some_case (first_value operands) w _ _ _ (λ x. call_case calls w _ _ _ (λ f calls. branched_right p n (is_true x) a c k (below operands) f calls w))
  act_right (begin_loop keyword l) k operands calls w b = call_case calls w _ _ _ (λ f calls. looped_right p n keyword l k operands f calls w b)
  act_right (test_loop l) k operands calls w b = call_case calls w _ _ _ (λ f calls. test_right p n l k operands f calls w b)
  act_right (enter_turn l) k operands calls w b = some_case (first_value operands) w _ _ _ (λ x. call_case calls w _ _ _ (λ f calls. turn_right p n (is_true x) l k (below operands) f calls w))
  act_right (end_turn l) k operands calls w b = call_case calls w _ _ _ (λ f calls. end_turn_right p n l k operands f calls w)
  act_right end_block k operands calls w b = call_case calls w _ _ _ (λ f calls. refl)
  act_right (select labels body) k operands calls w b = some_case (first_value operands) w _ _ _ (λ x. call_case calls w _ _ _ (λ f calls.
      selected_right p n (labelled (number_of x) labels.cases labels.otherwise) body k (below operands) f calls w))
  act_right end_switch k operands calls w b = refl
  act_right end_call k operands calls w b = call_case calls w _ _ _ (λ f calls. refl)
  act_right (operate o) k operands calls w b = sym (after_right (done_by p o operands calls w) _ _ _ (λ left w. refl))

  -- on the way back
  broken_right : (t : Task) (k : List Task) (operands : List Operand) (calls : List Open) (w : State) →
      unwind p n broken (t ∷ k) operands calls w ≡ and_then (pass p broken t k operands calls w) (proceed p n)
  broken_right end_block k operands calls w = call_case calls w _ _ _ (λ f calls. refl)
  broken_right end_call k operands calls w = call_case calls w _ _ _ (λ f calls. refl)
  broken_right t k operands calls w = refl

  continued_right : (t : Task) (k : List Task) (operands : List Operand) (calls : List Open) (w : State) → w.left ≤ n →
      unwind p n continued (t ∷ k) operands calls w ≡ and_then (pass p continued t k operands calls w) (proceed p n)
  continued_right end_block k operands calls w b = call_case calls w _ _ _ (λ f calls. refl)
  continued_right end_call k operands calls w b = call_case calls w _ _ _ (λ f calls. refl)
  continued_right (test_loop l) k operands calls w b = act_right (test_loop l) k operands calls w b
  continued_right (end_turn l) k operands calls w b = act_right (end_turn l) k operands calls w b
  continued_right t k operands calls w b = refl

  returned_right : (x : Option Scalar) (t : Task) (k : List Task) (operands : List Operand) (calls : List Open) (w : State) →
      unwind p n (returned x) (t ∷ k) operands calls w ≡ and_then (pass p (returned x) t k operands calls w) (proceed p n)
  returned_right x end_block k operands calls w = call_case calls w _ _ _ (λ f calls. refl)
  returned_right x end_call k operands calls w = call_case calls w _ _ _ (λ f calls. refl)
  returned_right x t k operands calls w = refl

  -- the machine comes to what it comes to after its next act
  pub next_right : (flow : Flow) (t : Task) (k : List Task) (operands : List Operand) (calls : List Open) (w : State) → w.left ≤ n →
      proceed p n (record { flow = flow; tasks = t ∷ k; operands = operands; calls = calls }) w ≡ and_then (next_act p flow t k operands calls w) (proceed p n)
  next_right normal t k operands calls w b = act_right t k operands calls w b
  next_right broken t k operands calls w b = broken_right t k operands calls w
  next_right continued t k operands calls w b = continued_right t k operands calls w b
  next_right (returned x) t k operands calls w b = returned_right x t k operands calls w
