-- Each act takes a step, or leaves less to be done before the next; and its state comes after the one before.
use Rattle.std.proofs.Common.{◌≡◌, ℕ, zero, suc, ◌+◌, ◌<◌, ◌≤◌, Bool, true, false, List, [], ◌∷◌, length, refl, arith, slice_get, slice_set, Option, Some, None, Result, Ok, Err}
use Rattle.std.specs.Prelude.{if◌then◌else◌}
use Rattle.p10_base.specs.declared.span.Span.{Span}
use Rattle.p10_base.specs.declared.at.At.{At}
use Rattle.p10_int.specs.declared.operators.Stop.{Stop}
use Rattle.p10_core.specs.declared.statements.LoopKeyword.{LoopKeyword}
use Rattle.p10_core.specs.declared.statements.LoopKeyword.TheVariants.{While, Do, For}
use Rattle.p10_core.specs.declared.statements.MarkKind.TheVariants.{InitDone, TaskLoop}
use Rattle.p10_core.specs.Types.{PlainType, bare}
use Rattle.p10_core.specs.Typed.{PlainValue, value, PlainForm, constant, read, sense, address, decay, convert, cast, unary, binary, logic, conditional, call, built_in, PlainPlace, place, variable, global, literal, index, member, dereference, PlainValues, no_values, more_values, PlainWritten, one_scalar, scalars_of_text, PlainItem, PlainInitializer, not_initialized, single, copied, listed, PlainStatement, statement, PlainStatementForm, set, update, copy, evaluate as expression, asserts, declare, declare_static, block, if_then, if_else, loop, switch, break, continue, return, empty, mark, PlainStatements, no_statements, more_statements, PlainVariable, PlainFunction, PlainProgram}
use Rattle.p10_meaning.specs.declared.pointers.Scalar.{Scalar}
use Rattle.p10_meaning.specs.Pointers.{unset, holding, first_of}
use Rattle.p10_meaning.specs.Objects.{declared, shift, inner, reach, all_closed}
use Rattle.p10_meaning.specs.States.{State, Progress, gives, ends, step_at, step, and_then, or_undefined}
use Rattle.p10_meaning.specs.Scalars.{number_of, pointer_of, is_true, converted_to, operated, operated_unary, unset_cells}
use Rattle.p10_meaning.specs.Values.{holds, stands, scalars, width, open_object, Target, Variable, Element, pointer_to, variable_target, global_target, literal_number, literal_target, sensed, library, used, element_type, element_count, scalars_before, is_decided}
use Rattle.p10_meaning.specs.Statements.{Flow, normal, broken, continued, returned, Done, labelled, holding_at}
use Rattle.p10_meaning.specs.Calling.{deeper, raised, entered}
use Rattle.p10_meaning.specs.Laws.{Follows, EndsAfter}
use Rattle.p10_meaning.proofs.Following.{follows_same, follows_trans, follows_objects, follows_open, follows_raised, follows_mark}
use Rattle.p10_meaning.proofs.AgreeingCalls.{IsEntry, entered_is}
use Rattle.p10_interp.specs.private.Tasks.{Operation, use_value, drop_value, give_none, convert_to, apply_unary, apply_binary, take_truth, call_library, read_at, read_none, take_address, decay_at, index_at, member_at, dereference_at, write_at, read_old, write_new, copy_between, fill_from, assert_at, give_back, Loop, Task, evaluate_value, discard_value, locate_place, evaluate_values, evaluate_items, decide, choose, call_function, execute_statement, execute_statements, copy_into, branch, begin_loop, test_loop, enter_turn, end_turn, end_block, select, end_switch, end_call, operate, Operand, Open, Left, Rig}
use Rattle.p10_interp.specs.private.Operations.{first_result, first_value, first_target, below, on_some, taken_before, on_taken, on_call, count_of_items, scalars_of_items, with_frame, block_closed, leaves_done, done_by}
use Rattle.p10_interp.specs.private.Resuming.{depth_of}
use Rattle.p10_interp.specs.private.Acts.{goes_back, sought, use_after, begun, begun_form, begun_unused, begun_values, begun_written, begun_items, entered_if, initialized, declared_by, tested_by, looped_by, without, entered_at, selected, executed, begun_statement, begun_statements, branched, act, pass, next_act}
use Rattle.p10_interp.specs.private.Weights.{weight_of_statement, weight_of_form, weight_of_statements, weight_of_branch, weight, weights}
use Rattle.p10_interp.proofs.Following.{Goes, goes_to, goes_here, goes_from, goes_then, goes_or, goes_if, goes_step, sensed_goes, read_goes, asserted_goes, library_goes, write_goes, copy_goes, fill_goes}

-- ## Operations

some_goes : {A B : Type 0} (o : Option A) (w : State) (go : A → Progress B) → ((x : A) → Goes w (go x)) → Goes w (on_some o w go)
some_goes None w go h = record { after = follows_same w }
some_goes (Some x) w go h = h x

taken_goes : {A : Type 0} (taken : Option (List Scalar × List Operand)) (w : State) (go : List Scalar → List Operand → Progress A) → ((xs : List Scalar) (operands : List Operand) → Goes w (go xs operands)) →
    Goes w (on_taken taken w go)
taken_goes None w go h = record { after = follows_same w }
taken_goes (Some (xs, operands)) w go h = h xs operands

call_goes : {A : Type 0} (calls : List Open) (w : State) (go : Open → List Open → Progress A) → ((f : Open) (calls : List Open) → Goes w (go f calls)) → Goes w (on_call calls w go)
call_goes [] w go h = record { after = follows_same w }
call_goes (f ∷ calls) w go h = h f calls

left_goes : (operands : List Operand) (f : Open) (calls : List Open) (w : State) (o : Progress Done) → Goes w o → Goes w (leaves_done operands f calls o)
left_goes operands f calls w o h = goes_then w o _ h (λ done w. goes_here _ w)

pub done_goes : (p : PlainProgram) (o : Operation) (operands : List Operand) (calls : List Open) (w : State) → Goes w (done_by p o operands calls w)
done_goes p (use_value span) operands calls w = some_goes (first_result operands) w _ (λ x. goes_or (used x) span w _ (λ x. goes_here _ w))
done_goes p drop_value operands calls w = some_goes (first_result operands) w _ (λ x. goes_here _ w)
done_goes p give_none operands calls w = goes_here _ w
done_goes p (convert_to t) operands calls w = some_goes (first_value operands) w _ (λ x. goes_here _ w)
done_goes p (apply_unary op t span) operands calls w = some_goes (first_value operands) w _ (λ x. goes_or (operated_unary op t x) span w _ (λ z. goes_here _ w))
done_goes p (apply_binary op t span) operands calls w = some_goes (first_value operands) w _ (λ y. some_goes (first_value (below operands)) w _ (λ x. goes_or (operated op t w.objects x y) span w _ (λ z. goes_here _ w)))
done_goes p take_truth operands calls w = some_goes (first_value operands) w _ (λ x. goes_here _ w)
done_goes p (call_library function span t n) operands calls w = taken_goes (taken_before n [] operands) w _ (λ xs operands. goes_then w (library p function span t xs w) _ (library_goes p function span t xs w) (λ x w. goes_here _ w))
done_goes p (read_at span t) operands calls w = some_goes (first_target operands) w _ (λ target. call_goes calls w _ (λ f calls. goes_then w _ _ (read_goes span t f.frame.held target w) (λ x w. goes_here _ w)))
done_goes p read_none operands calls w = some_goes (first_target operands) w _ (λ target. goes_here _ w)
done_goes p take_address operands calls w = some_goes (first_target operands) w _ (λ target. goes_here _ w)
done_goes p (decay_at span t) operands calls w = some_goes (first_target operands) w _ (λ target. goes_or (inner w.objects (pointer_to target) 0 (width p (element_type t)) (element_count t)) span w _ (λ q. goes_here _ w))
done_goes p (index_at span) operands calls w = some_goes (first_value operands) w _ (λ y. some_goes (first_value (below operands)) w _ (λ x. goes_or (shift w.objects (pointer_of x) (number_of y)) span w _ (λ q. goes_here _ w)))
done_goes p (member_at span whole m t) operands calls w = some_goes (first_target operands) w _ (λ target.
    goes_or (inner w.objects (pointer_to target) (scalars_before p (bare p.structures whole) m) (width p t) 1) span w _ (λ q. goes_here _ w))
done_goes p (dereference_at span) operands calls w = some_goes (first_value operands) w _ (λ x. goes_or (reach w.objects (pointer_of x)) span w _ (λ object. goes_here _ w))
done_goes p (write_at span) operands calls w = some_goes (first_value operands) w _ (λ x. some_goes (first_target (below operands)) w _ (λ target. call_goes calls w _ (λ f calls.
    left_goes (below (below operands)) f calls w _ (write_goes span target (holding x) f.frame w))))
done_goes p (read_old span t for) operands calls w = goes_step w _ (λ w. some_goes (first_target operands) w _ (λ target. call_goes calls w _ (λ f calls.
    goes_then w _ _ (read_goes span t f.frame.held target w) (λ x w. goes_here _ w))))
done_goes p (write_new op at for span t) operands calls w = goes_step w _ (λ w. some_goes (first_value operands) w _ (λ y. some_goes (first_value (below operands)) w _ (λ x. some_goes (first_target (below (below operands))) w _ (λ target. call_goes calls w _ (λ f calls.
    goes_or (operated op for w.objects x y) at w _ (λ z. left_goes (below (below (below operands))) f calls w _ (write_goes span target (holding (converted_to t z)) f.frame w)))))))
done_goes p (copy_between to_span from_span t) operands calls w = some_goes (first_target operands) w _ (λ source. some_goes (first_target (below operands)) w _ (λ target. call_goes calls w _ (λ f calls.
    left_goes (below (below operands)) f calls w _ (copy_goes (width p t) 0 to_span (pointer_to target) from_span (pointer_to source) f.frame w))))
done_goes p (fill_from span t items) operands calls w = taken_goes (taken_before (count_of_items items) [] operands) w _ (λ xs operands. some_goes (first_target operands) w _ (λ target. call_goes calls w _ (λ f calls.
    left_goes (below operands) f calls w _ (fill_goes span (scalars_of_items items xs) (scalars p t) 0 (pointer_to target) f.frame w))))
done_goes p (assert_at span) operands calls w = some_goes (first_value operands) w _ (λ x. goes_then w _ _ (asserted_goes span x w) (λ none w. goes_here _ w))
done_goes p give_back operands calls w = some_goes (first_value operands) w _ (λ x. goes_here _ w)

-- ## Lighter

-- where no step was taken, the tasks weigh less than before
abbrev pub WeighsLess : State → ℕ → Progress Rig → Type 0
WeighsLess from most (gives r w) = from.left ≤ w.left → weights r.tasks < most
WeighsLess from most (ends end w) = Unit {0}

pub record IsLighter (from : State) (most : ℕ) (o : Progress Rig) : Type 0 where
  pub after : EndsAfter from o
  pub less : WeighsLess from most o

-- what comes after a step
paid_by : (from v : State) (most : ℕ) (o : Progress Rig) → suc v.left ≤ from.left → EndsAfter v o → WeighsLess from most o
paid_by from v most (gives r w) l h = λ d. absurd (let f : w.left ≤ v.left = h.left in omega (arith, l, f, d))
paid_by from v most (ends end w) l h = tt

paid_at : (n : ℕ) (w : State) (most : ℕ) (go : State → Progress Rig) → n ≡ w.left → ((w : State) → Goes w (go w)) → WeighsLess w most (step_at n w go)
paid_at zero w most go e h = tt
paid_at (suc m) w most go e h = paid_by w (record w { left = m }) most _ (let d : suc m ≡ w.left = e in omega (arith, d)) (h (record w { left = m })).after

paid : (w : State) (most : ℕ) (go : State → Progress Rig) → ((w : State) → Goes w (go w)) → IsLighter w most (step w go)
paid w most go h = record { after = (goes_step w go h).after; less = paid_at w.left w most go refl h }

-- an act without a step
free : (u : State) (most : ℕ) (flow : Flow) (k : List Task) (operands : List Operand) (calls : List Open) (w : State) → Follows u w → weights k < most → IsLighter u most (goes_back flow k operands calls w)
free u most flow k operands calls w f l = record { after = f; less = λ d. l }

light_or : {A : Type 0} (r : Result A Stop) (span : Span) (w : State) (most : ℕ) (go : A → Progress Rig) → ((a : A) → IsLighter w most (go a)) → IsLighter w most (or_undefined r span w go)
light_or (Ok a) span w most go h = h a
light_or (Err stop) span w most go h = record { after = follows_same w; less = tt }

light_if : (w : State) (most : ℕ) (b : Bool) (x y : Progress Rig) → IsLighter w most x → IsLighter w most y → IsLighter w most (if b then x else y)
light_if w most true x y g h = g
light_if w most false x y g h = h

light_call : (calls : List Open) (w : State) (most : ℕ) (go : Open → List Open → Progress Rig) → ((f : Open) (calls : List Open) → IsLighter w most (go f calls)) → IsLighter w most (on_call calls w go)
light_call [] w most go h = record { after = follows_same w; less = tt }
light_call (f ∷ calls) w most go h = h f calls

light_some : {A : Type 0} (o : Option A) (w : State) (most : ℕ) (go : A → Progress Rig) → ((x : A) → IsLighter w most (go x)) → IsLighter w most (on_some o w go)
light_some None w most go h = record { after = follows_same w; less = tt }
light_some (Some x) w most go h = h x

light_taken : (taken : Option (List Scalar × List Operand)) (w : State) (most : ℕ) (go : List Scalar → List Operand → Progress Rig) → ((xs : List Scalar) (operands : List Operand) → IsLighter w most (go xs operands)) →
    IsLighter w most (on_taken taken w go)
light_taken None w most go h = record { after = follows_same w; less = tt }
light_taken (Some (xs, operands)) w most go h = h xs operands

light_left : (w : State) (most : ℕ) (k : List Task) (o : Progress Left) → weights k < most → Goes w o → IsLighter w most (and_then o (λ left w. goes_back left.flow k left.operands left.calls w))
light_left w most k (gives left u) l h = record { after = h.after; less = λ d. l }
light_left w most k (ends end u) l h = record { after = h.after; less = tt }

-- ## Places and values

sought_light : (p : PlainProgram) (q : PlainPlace) (k : List Task) (operands : List Operand) (f : Open) (calls : List Open) (w : State) (most : ℕ) → weights k < most → IsLighter w most (sought p q k operands f calls w)
sought_light p (place at t (variable m)) k operands f calls w most l = light_or (variable_target m (width p t) (slice_get f.frame.held m)) at.span w most _ (λ target. free w most normal k _ _ w (follows_same w) l)
sought_light p (place at t (global m)) k operands f calls w most l = light_or (global_target m (width p t) (slice_get p.objects m)) at.span w most _ (λ target. free w most normal k _ _ w (follows_same w) l)
sought_light p (place at t (literal m bytes)) k operands f calls w most l =
    light_or (literal_target (width p t) (literal_number m (length p.objects) p.literals)) at.span w most _ (λ target. free w most normal k _ _ w (follows_same w) l)
sought_light p (place at t (index a i)) k operands f calls w most l = paid w most _ (λ w. goes_here _ w)
sought_light p (place at t (member q m)) k operands f calls w most l = paid w most _ (λ w. goes_here _ w)
sought_light p (place at t (dereference v)) k operands f calls w most l = paid w most _ (λ w. goes_here _ w)

sought_goes : (p : PlainProgram) (q : PlainPlace) (k : List Task) (operands : List Operand) (f : Open) (calls : List Open) (w : State) → Goes w (sought p q k operands f calls w)
sought_goes p q k operands f calls w = record { after = (sought_light p q k operands f calls w (suc (weights k)) (omega arith)).after }

mutual
  begun_light : (p : PlainProgram) (v : PlainValue) (k : List Task) (operands : List Operand) (f : Open) (calls : List Open) (w : State) (most : ℕ) → IsLighter w most (begun p v k operands f calls w)
  begun_light p (value at t form) k operands f calls w most = form_light p at t form (use_after at t form k) operands f calls w most

  form_light : (p : PlainProgram) (at : At) (t : PlainType) (form : PlainForm) (k : List Task) (operands : List Operand) (f : Open) (calls : List Open) (w : State) (most : ℕ) →
      IsLighter w most (begun_form p at t form k operands f calls w)
  form_light p at t (constant z) k operands f calls w most = paid w most _ (λ w. goes_here _ w)
  form_light p at t (read q) k operands f calls w most = paid w most _ (λ w. sought_goes p q _ operands f calls w)
  form_light p at t (sense m) k operands f calls w most = paid w most _ (λ w. goes_then w (sensed t w) _ (sensed_goes t w) (λ x w. goes_here _ w))
  form_light p at t (address q) k operands f calls w most = paid w most _ (λ w. sought_goes p q _ operands f calls w)
  form_light p at t (decay q) k operands f calls w most = paid w most _ (λ w. sought_goes p q _ operands f calls w)
  form_light p at t (convert v) k operands f calls w most = begun_light p v (operate (convert_to t) ∷ k) operands f calls w most
  form_light p at t (cast v) k operands f calls w most = paid w most _ (λ w. goes_here _ w)
  form_light p at t (unary op v) k operands f calls w most = paid w most _ (λ w. goes_here _ w)
  form_light p at t (binary op a b) k operands f calls w most = paid w most _ (λ w. goes_here _ w)
  form_light p at t (logic op a b) k operands f calls w most = paid w most _ (λ w. goes_here _ w)
  form_light p at t (conditional c a b) k operands f calls w most = paid w most _ (λ w. goes_here _ w)
  form_light p at t (call name g arguments) k operands f calls w most = paid w most _ (λ w. goes_here _ w)
  form_light p at t (built_in name function arguments) k operands f calls w most = paid w most _ (λ w. goes_here _ w)

unused_light : (p : PlainProgram) (v : PlainValue) (k : List Task) (operands : List Operand) (f : Open) (calls : List Open) (w : State) (most : ℕ) → IsLighter w most (begun_unused p v k operands f calls w)
unused_light p (value at t form) k operands f calls w most = form_light p at t form (operate drop_value ∷ k) operands f calls w most

values_light : (p : PlainProgram) (vs : PlainValues) (k : List Task) (operands : List Operand) (f : Open) (calls : List Open) (w : State) → IsLighter w (1 + weights k) (begun_values p vs k operands f calls w)
values_light p no_values k operands f calls w = free w _ normal k _ _ w (follows_same w) (omega arith)
values_light p (more_values v vs) k operands f calls w = begun_light p v (evaluate_values vs ∷ k) operands f calls w _

written_light : (p : PlainProgram) (written : PlainWritten) (items : List PlainItem) (k : List Task) (operands : List Operand) (f : Open) (calls : List Open) (w : State) →
    IsLighter w (suc (suc (length items)) + weights k) (begun_written p written items k operands f calls w)
written_light p (one_scalar v) items k operands f calls w = begun_light p v (evaluate_items items ∷ k) operands f calls w _
written_light p (scalars_of_text bytes) items k operands f calls w = free w _ normal (evaluate_items items ∷ k) _ _ w (follows_same w) (omega arith)

items_light : (p : PlainProgram) (items : List PlainItem) (k : List Task) (operands : List Operand) (f : Open) (calls : List Open) (w : State) →
    IsLighter w (suc (length items) + weights k) (begun_items p items k operands f calls w)
items_light p [] k operands f calls w = free w _ normal k _ _ w (follows_same w) (omega arith)
items_light p (item ∷ items) k operands f calls w = written_light p item.written items k operands f calls w

-- ## Statements

initialized_goes : (span : Span) (t : PlainType) (target : Target) (i : PlainInitializer) (k : List Task) (operands : List Operand) (f : Open) (calls : List Open) (w : State) → Goes w (initialized span t target i k operands f calls w)
initialized_goes span t target not_initialized k operands f calls w = goes_here _ w
initialized_goes span t target (single v) k operands f calls w = goes_here _ w
initialized_goes span t target (copied q) k operands f calls w = goes_here _ w
initialized_goes span t target (listed at items) k operands f calls w = goes_here _ w

declared_goes : (p : PlainProgram) (span : Span) (m : ℕ) (v : Option PlainVariable) (i : PlainInitializer) (k : List Task) (operands : List Operand) (f : Open) (calls : List Open) (w : State) →
    Goes w (declared_by p span m v i k operands f calls w)
declared_goes p span m None i k operands f calls w = goes_here _ w
declared_goes p span m (Some v) i k operands f calls w = goes_if w v.frame _ _
    (initialized_goes span v.type (Variable m) i k operands (with_frame f (holding_at f.frame m (holds unset))) calls w)
    (goes_from w (open_object declared (unset_cells (scalars p v.type)) w) _ (follows_open w declared (unset_cells (scalars p v.type)))
    (initialized_goes span v.type (Element (first_of w.opened (width p v.type) 1)) i k operands
    (with_frame f (record { held = slice_set f.frame.held m (stands w.opened); opened = w.opened ∷ f.frame.opened })) calls (open_object declared (unset_cells (scalars p v.type)) w)))

tested_light : (p : PlainProgram) (l : Loop) (tested : Option PlainValue) (k : List Task) (operands : List Operand) (f : Open) (calls : List Open) (w : State) (most : ℕ) → IsLighter w most (tested_by p l tested k operands f calls w)
tested_light p l None k operands f calls w most = paid w most _ (λ w. goes_here _ w)
tested_light p l (Some v) k operands f calls w most = begun_light p v (enter_turn l ∷ k) operands f calls w most

looped_light : (p : PlainProgram) (keyword : LoopKeyword) (l : Loop) (k : List Task) (operands : List Operand) (f : Open) (calls : List Open) (w : State) →
    IsLighter w (weight_of_statement l.body + weight_of_statements l.third + 4 + weights k) (looped_by p keyword l k operands f calls w)
looped_light p While l k operands f calls w = tested_light p l l.tested k operands f calls w _
looped_light p For l k operands f calls w = tested_light p l l.tested k operands f calls w _
looped_light p Do l k operands f calls w = free w _ normal (execute_statement l.body ∷ (end_turn l ∷ k)) _ _ w (follows_same w) (omega arith)

without_light : (i : ℕ) (xs : PlainStatements) → weight_of_statements (without i xs) ≤ weight_of_statements xs
without_light zero xs = omega arith
without_light (suc i) no_statements = omega arith
without_light (suc i) (more_statements x xs) = let h : weight_of_statements (without i xs) ≤ weight_of_statements xs = without_light i xs in omega (arith, h)

entered_light : (i : Option ℕ) (xs : PlainStatements) (k : List Task) (operands : List Operand) (f : Open) (calls : List Open) (w : State) →
    IsLighter w (weight_of_statements xs + 2 + 1 + weights k) (entered_at i xs k operands f calls w)
entered_light None xs k operands f calls w = free w _ normal k _ _ w (follows_same w) (omega arith)
entered_light (Some i) xs k operands f calls w =
    let h : weight_of_statements (without i xs) ≤ weight_of_statements xs = without_light i xs in
    free w _ normal (execute_statements (without i xs) ∷ (end_block ∷ (end_switch ∷ k))) _ _ w (follows_same w) (omega (arith, h))

selected_light : (i : Option ℕ) (body : PlainStatement) (k : List Task) (operands : List Operand) (f : Open) (calls : List Open) (w : State) →
    IsLighter w (weight_of_statement body + 1 + weights k) (selected i body k operands f calls w)
selected_light i (statement at (block xs)) k operands f calls w = entered_light i xs k operands f calls w
selected_light i (statement at form) k operands f calls w = free w _ normal k _ _ w (follows_same w) (omega arith)

executed_light : (p : PlainProgram) (at : At) (form : PlainStatementForm) (k : List Task) (operands : List Operand) (f : Open) (calls : List Open) (w : State) (most : ℕ) →
    weight_of_form form + weights k ≤ most → IsLighter w most (executed p at form k operands f calls w)
executed_light p at (declare m i) k operands f calls w most l = paid w most _ (λ w. declared_goes p at.span m (slice_get f.function.variables m) i k operands f calls w)
executed_light p at (set q v) k operands f calls w most l = paid w most _ (λ w. sought_goes p q _ operands f calls w)
executed_light p at (update kind op t q v) k operands f calls w most l = paid w most _ (λ w. sought_goes p q _ operands f calls w)
executed_light p at (copy q r) k operands f calls w most l = paid w most _ (λ w. sought_goes p q _ operands f calls w)
executed_light p at (asserts there v) k operands f calls w most l = paid w most _ (λ w. goes_here _ w)
executed_light p at (expression v) k operands f calls w most l = paid w most _ (λ w. goes_here _ w)
executed_light p at (if_then v a) k operands f calls w most l = paid w most _ (λ w. goes_here _ w)
executed_light p at (if_else v a b) k operands f calls w most l = paid w most _ (λ w. goes_here _ w)
executed_light p at (loop head first tested third body) k operands f calls w most l = paid w most _ (λ w. goes_here _ w)
executed_light p at (switch keyword v labels body) k operands f calls w most l = paid w most _ (λ w. goes_here _ w)
executed_light p at (return keyword None) k operands f calls w most l = paid w most _ (λ w. goes_here _ w)
executed_light p at (return keyword (Some v)) k operands f calls w most l = paid w most _ (λ w. goes_here _ w)
executed_light p at break k operands f calls w most l = paid w most _ (λ w. goes_here _ w)
executed_light p at continue k operands f calls w most l = paid w most _ (λ w. goes_here _ w)
executed_light p at empty k operands f calls w most l = paid w most _ (λ w. goes_here _ w)
executed_light p at (block xs) k operands f calls w most l = free w most normal (execute_statements xs ∷ (end_block ∷ k)) _ _ w (follows_same w) (omega (arith, l))
executed_light p at (declare_static m) k operands f calls w most l = free w most normal k _ _ w (follows_same w) (omega (arith, l))
executed_light p at (mark InitDone) k operands f calls w most l = free w most normal k _ _ (record w { marked = true }) (follows_mark w) (omega (arith, l))
executed_light p at (mark TaskLoop) k operands f calls w most l = free w most normal k _ _ w (follows_same w) (omega (arith, l))

statement_light : (p : PlainProgram) (x : PlainStatement) (k : List Task) (operands : List Operand) (f : Open) (calls : List Open) (w : State) →
    IsLighter w (weight_of_statement x + weights k) (begun_statement p x k operands f calls w)
statement_light p (statement at form) k operands f calls w = executed_light p at form k operands f calls w _ (omega arith)

more_light : (u : State) (m n : ℕ) (o : Progress Rig) → m ≤ n → IsLighter u m o → IsLighter u n o
more_light u m n (gives r w) l h = record { after = h.after; less = λ d. let g : weights r.tasks < m = h.less d in omega (arith, g, l) }
more_light u m n (ends end w) l h = record { after = h.after; less = tt }

statements_light : (p : PlainProgram) (xs : PlainStatements) (k : List Task) (operands : List Operand) (f : Open) (calls : List Open) (w : State) →
    IsLighter w (weight_of_statements xs + weights k) (begun_statements p xs k operands f calls w)
statements_light p no_statements k operands f calls w = free w _ normal k _ _ w (follows_same w) (omega arith)
statements_light p (more_statements x xs) k operands f calls w =
    more_light w (weight_of_statement x + (weight_of_statements xs + weights k)) _ _ (omega arith) (statement_light p x (execute_statements xs ∷ k) operands f calls w)

branched_light : (b : Bool) (a : PlainStatement) (c : Option PlainStatement) (k : List Task) (operands : List Operand) (calls : List Open) (w : State) →
    IsLighter w (weight_of_statement a + weight_of_branch c + 1 + weights k) (branched b a c k operands calls w)
branched_light true a c k operands calls w = free w _ normal (execute_statement a ∷ k) _ _ w (follows_same w) (omega arith)
branched_light false a None k operands calls w = free w _ normal k _ _ w (follows_same w) (omega arith)
branched_light false a (Some c) k operands calls w = free w _ normal (execute_statement c ∷ k) _ _ w (follows_same w) (omega arith)

entered_goes : (h : Option PlainFunction) (xs : List Scalar) (k : List Task) (operands : List Operand) (calls : List Open) (w : State) → Goes w (entered_if h xs k operands calls w)
entered_goes None xs k operands calls w = goes_here _ w
entered_goes (Some h) xs k operands calls w =
    let e : IsEntry (raised (deeper h (depth_of calls)) w) (entered h.variables xs (raised (deeper h (depth_of calls)) w)) = entered_is h.variables xs (raised (deeper h (depth_of calls)) w) in
    goes_to w _ _ (follows_trans w (raised (deeper h (depth_of calls)) w) _ (follows_raised w (deeper h (depth_of calls))) e.follows)

-- ## Acts

pub act_light : (p : PlainProgram) (t : Task) (k : List Task) (operands : List Operand) (calls : List Open) (w : State) → IsLighter w (weights (t ∷ k)) (act p t k operands calls w)
act_light p (evaluate_value v) k operands calls w = light_call calls w _ _ (λ f calls. begun_light p v k operands f calls w _)
act_light p (discard_value v) k operands calls w = light_call calls w _ _ (λ f calls. unused_light p v k operands f calls w _)
act_light p (locate_place q) k operands calls w = light_call calls w _ _ (λ f calls. sought_light p q k operands f calls w _ (omega arith))
act_light p (evaluate_values vs) k operands calls w = light_call calls w _ _ (λ f calls. values_light p vs k operands f calls w)
act_light p (evaluate_items items) k operands calls w = light_call calls w _ _ (λ f calls. items_light p items k operands f calls w)
act_light p (decide op v) k operands calls w = light_some (first_value operands) w _ _ (λ x. light_call calls w _ _ (λ f calls.
    light_if w _ (is_decided op (is_true x)) _ _ (free w _ normal k _ _ w (follows_same w) (omega arith)) (free w _ normal (evaluate_value v ∷ (operate take_truth ∷ k)) _ _ w (follows_same w) (omega arith))))
act_light p (choose a c) k operands calls w = light_some (first_value operands) w _ _ (λ x. light_call calls w _ _ (λ f calls.
    free w _ normal (evaluate_value (if is_true x then a else c) ∷ k) _ _ w (follows_same w) (omega arith)))
act_light p (call_function g m) k operands calls w = light_taken (taken_before m [] operands) w _ _ (λ xs operands. paid w _ _ (λ w. entered_goes (slice_get p.functions g) xs k operands calls w))
act_light p (execute_statement x) k operands calls w = light_call calls w _ _ (λ f calls. statement_light p x k operands f calls w)
act_light p (execute_statements xs) k operands calls w = light_call calls w _ _ (λ f calls. statements_light p xs k operands f calls w)
act_light p (copy_into span t q) k operands calls w = light_some (first_target operands) w _ _ (λ target. light_call calls w _ _ (λ f calls. paid w _ _ (λ w. sought_goes p q _ _ f calls w)))
act_light p (branch a c) k operands calls w = light_some (first_value operands) w _ _ (λ x. light_call calls w _ _ (λ f calls. branched_light (is_true x) a c k (below operands) (f ∷ calls) w))
act_light p (begin_loop keyword l) k operands calls w = light_call calls w _ _ (λ f calls. looped_light p keyword l k operands f calls w)
act_light p (test_loop l) k operands calls w = light_call calls w _ _ (λ f calls. tested_light p l l.tested k operands f calls w _)
act_light p (enter_turn l) k operands calls w = light_some (first_value operands) w _ _ (λ x. light_call calls w _ _ (λ f calls.
    light_if w _ (is_true x) _ _ (free w _ normal (execute_statement l.body ∷ (end_turn l ∷ k)) _ _ w (follows_same w) (omega arith)) (free w _ normal k _ _ w (follows_same w) (omega arith))))
act_light p (end_turn l) k operands calls w = light_call calls w _ _ (λ f calls. free w _ normal (execute_statements l.third ∷ (test_loop l ∷ k)) _ _ w (follows_same w) (omega arith))
act_light p end_block k operands calls w = light_call calls w _ _ (λ f calls. free w _ normal k _ _ (block_closed f w) (follows_objects w (all_closed f.frame.opened w.objects)) (omega arith))
act_light p (select labels body) k operands calls w = light_some (first_value operands) w _ _ (λ x. light_call calls w _ _ (λ f calls.
    selected_light (labelled (number_of x) labels.cases labels.otherwise) body k (below operands) f calls w))
act_light p end_switch k operands calls w = free w _ normal k _ _ w (follows_same w) (omega arith)
act_light p end_call k operands calls w = light_call calls w _ _ (λ f calls. free w _ normal k _ _ (block_closed f w) (follows_objects w (all_closed f.frame.opened w.objects)) (omega arith))
act_light p (operate o) k operands calls w = light_left w _ k (done_by p o operands calls w) (omega arith) (done_goes p o operands calls w)

-- any task has a weight
pub weighs : (t : Task) (k : List Task) → weights k < weights (t ∷ k)
weighs t k = let h : 0 < weight t = some t in omega (arith, h)
  where
    positive : (x : PlainStatement) → 0 < weight_of_statement x
    positive (statement at (block xs)) = omega arith
    positive (statement at form) = omega arith

    all_positive : (xs : PlainStatements) → 0 < weight_of_statements xs
    all_positive no_statements = omega arith
    all_positive (more_statements x xs) = let h : 0 < weight_of_statement x = positive x in omega (arith, h)

    some : (t : Task) → 0 < weight t
    some (execute_statement x) = positive x
    some (execute_statements xs) = all_positive xs
    some t = omega arith

pub pass_light : (p : PlainProgram) (flow : Flow) (t : Task) (k : List Task) (operands : List Operand) (calls : List Open) (w : State) → IsLighter w (weights (t ∷ k)) (pass p flow t k operands calls w)
pass_light p flow end_block k operands calls w = light_call calls w _ _ (λ f calls. free w _ flow k _ _ (block_closed f w) (follows_objects w (all_closed f.frame.opened w.objects)) (omega arith))
pass_light p flow end_call k operands calls w = light_call calls w _ _ (λ f calls. free w _ normal k _ _ (block_closed f w) (follows_objects w (all_closed f.frame.opened w.objects)) (omega arith))
pass_light p continued (end_turn l) k operands calls w = act_light p (end_turn l) k operands calls w
pass_light p continued (test_loop l) k operands calls w = act_light p (test_loop l) k operands calls w
pass_light p normal t k operands calls w = record { after = follows_same w; less = λ d. weighs t k }
pass_light p broken t k operands calls w = record { after = follows_same w; less = λ d. weighs t k }
pass_light p continued t k operands calls w = record { after = follows_same w; less = λ d. weighs t k }
pass_light p (returned x) t k operands calls w = record { after = follows_same w; less = λ d. weighs t k }

pub next_light : (p : PlainProgram) (flow : Flow) (t : Task) (k : List Task) (operands : List Operand) (calls : List Open) (w : State) → IsLighter w (weights (t ∷ k)) (next_act p flow t k operands calls w)
next_light p normal t k operands calls w = act_light p t k operands calls w
next_light p broken t k operands calls w = pass_light p broken t k operands calls w
next_light p continued t k operands calls w = pass_light p continued t k operands calls w
next_light p (returned x) t k operands calls w = pass_light p (returned x) t k operands calls w
