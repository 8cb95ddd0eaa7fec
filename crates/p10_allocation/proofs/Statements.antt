-- Statements of which each node keeps what holds of the mark and of the count, by induction on them.
use Rattle.std.proofs.Common.{ℕ, zero, suc, Bool, List, [], ◌∷◌, ◌++◌, Option, Some, None, slice_get}
use Rattle.std.specs.Prelude.{slice_set}
use Rattle.p10_base.specs.declared.span.Span.{Span}
use Rattle.p10_base.specs.declared.at.At.{At}
use Rattle.p10_core.specs.declared.statements.LoopKeyword.{LoopKeyword}
use Rattle.p10_core.specs.declared.statements.LoopKeyword.TheVariants.{While, Do, For}
use Rattle.p10_core.specs.declared.statements.MarkKind.TheVariants.{InitDone, TaskLoop}
use Rattle.p10_core.specs.Types.{PlainType}
use Rattle.p10_core.specs.Typed.{PlainValue, PlainPlace, place_at, place_type, PlainWritten, one_scalar, scalars_of_text, PlainItem, PlainInitializer, not_initialized, single, copied, listed, PlainStatement, statement, PlainStatementForm, set, update, copy, evaluate as expression, asserts, declare, declare_static, block, if_then, if_else, loop, switch, break, continue, return, empty, mark, PlainStatements, no_statements, more_statements, PlainVariable}
use Rattle.p10_core.specs.Nodes.{PlainNode, nodes_of_value, nodes_of_place, nodes_of_maybe, nodes_of_written, nodes_of_items, nodes_of_initializer, nodes_of_statement, nodes_in_statement_form, nodes_of_statements}
use Rattle.p10_meaning.specs.declared.pointers.Ptr.{Ptr}
use Rattle.p10_meaning.specs.declared.pointers.Scalar.{Scalar}
use Rattle.p10_meaning.specs.declared.pointers.Cell.{Cell}
use Rattle.p10_meaning.specs.Pointers.{unset, holding, first_of}
use Rattle.p10_meaning.specs.Objects.{declared, write_at}
use Rattle.p10_meaning.specs.States.{State, Progress}
use Rattle.p10_meaning.specs.Scalars.{number_of, is_true, converted_to, operated, unset_cells}
use Rattle.p10_meaning.specs.Values.{Setting, Held, holds, stands, scalars, width, open_object, Target, Variable, Sensor, Element, pointer_to, read_target, asserted, evaluate, discard, locate}
use Rattle.p10_meaning.specs.Statements.{Frame, Flow, normal, broken, continued, returned, Done, go_on, holding_at, in_block, write_target, part_of, write_part, copy_scalars, written_scalars, listed_scalars, listed_scalar, fill, initialize, declare_variable, test, next_turn, turns, loop_by, before_third, labelled, from_label, after_switch, execute, execute_form, execute_from, enter, enter_form, round, looped}
use Rattle.p10_allocation.proofs.Outcomes.{Each, EachInLoop, each_left, each_right, each_in_loop, Leaves, Keeps, leaves_step, leaves_then, leaves_or, leaves_if}
use Rattle.p10_allocation.proofs.Values.{read_leaves, asserted_leaves, evaluate_leaves, discard_leaves, locate_leaves}

-- ## Parts that evaluate nothing

module _ (P : Bool → ℕ → Type 0) where
  abbrev pub RunLeaves : {A : Type 0} → (Frame → State → Progress A) → Type 0
  RunLeaves run = (frame : Frame) (w : State) → P w.marked w.after_mark → Leaves P (run frame w)

  pub go_leaves : (rest : Frame → State → Progress Done) → RunLeaves rest → (flow : Flow) → RunLeaves (λ frame w. go_on flow frame w rest)
  go_leaves rest k normal frame w e = k frame w e
  go_leaves rest k broken frame w e = record { state = e }
  go_leaves rest k continued frame w e = record { state = e }
  go_leaves rest k (returned x) frame w e = record { state = e }

  block_leaves : (run : Frame → State → Progress Done) → RunLeaves run → RunLeaves (in_block run)
  block_leaves run k frame w e = leaves_then P (run (record frame { opened = [] }) w) _ (k (record frame { opened = [] }) w e) (λ d w e. record { state = e })

  write_leaves : (span : Span) (target : Target) (cell : Cell) → RunLeaves (write_target span target cell)
  write_leaves span (Variable m) cell frame w e = record { state = e }
  write_leaves span Sensor cell frame w e = record { state = e }
  write_leaves span (Element q) cell frame w e = leaves_or P (write_at w.objects q cell) span w _ e (λ objects. record { state = e })

  copy_leaves : (m i : ℕ) (to_span : Span) (to : Ptr) (from_span : Span) (from : Ptr) → RunLeaves (copy_scalars m i to_span to from_span from)
  copy_leaves zero i to_span to from_span from frame w e = record { state = e }
  copy_leaves (suc m) i to_span to from_span from frame w e =
      leaves_step P w _ e (λ l. leaves_or P (part_of w.objects from i) from_span (record w { left = l }) _ e (λ cell. leaves_or P (write_part w.objects to i cell) to_span (record w { left = l }) _ e (λ objects.
      copy_leaves m (suc i) to_span to from_span from frame (record w { left = l; objects = objects }) e)))

  fill_leaves : (span : Span) (xs : List (ℕ × Scalar)) (types : List PlainType) (i : ℕ) (q : Ptr) → RunLeaves (fill span xs types i q)
  fill_leaves span xs [] i q frame w e = record { state = e }
  fill_leaves span xs (t ∷ types) i q frame w e =
      leaves_step P w _ e (λ l. leaves_or P (write_part w.objects q i (holding (listed_scalar i t xs))) span (record w { left = l }) _ e (λ objects.
      fill_leaves span xs types (suc i) q frame (record w { left = l; objects = objects }) e))

  next_leaves : (go : Frame → State → Progress Done) → RunLeaves go → (flow : Flow) → RunLeaves (λ frame w. next_turn flow frame w go)
  next_leaves go k normal frame w e = k frame w e
  next_leaves go k continued frame w e = k frame w e
  next_leaves go k broken frame w e = record { state = e }
  next_leaves go k (returned x) frame w e = record { state = e }

  third_leaves : (third : Frame → State → Progress Done) → RunLeaves third → (flow : Flow) → RunLeaves (λ frame w. before_third flow frame w third)
  third_leaves third k normal frame w e = k frame w e
  third_leaves third k continued frame w e = k frame w e
  third_leaves third k broken frame w e = record { state = e }
  third_leaves third k (returned x) frame w e = record { state = e }

  turns_leave : (m : ℕ) (tested : Frame → State → Progress Bool) (body : Frame → State → Progress Done) → RunLeaves tested → RunLeaves body → RunLeaves (turns m tested body)
  turns_leave zero tested body j k frame w e = record { state = e }
  turns_leave (suc m) tested body j k frame w e =
      leaves_then P (tested frame w) _ (j frame w e) (λ more w e. leaves_if P more _ _
      (leaves_then P (body frame w) _ (k frame w e) (λ d w e. next_leaves (turns m tested body) (turns_leave m tested body j k) d.flow d.frame w e)) (record { state = e }))

  loop_leaves : (keyword : LoopKeyword) (m : ℕ) (tested : Frame → State → Progress Bool) (body : Frame → State → Progress Done) → RunLeaves tested → RunLeaves body → RunLeaves (loop_by keyword m tested body)
  loop_leaves While m tested body j k frame w e = turns_leave m tested body j k frame w e
  loop_leaves For m tested body j k frame w e = turns_leave m tested body j k frame w e
  loop_leaves Do m tested body j k frame w e = leaves_then P (body frame w) _ (k frame w e) (λ d w e. next_leaves (turns m tested body) (turns_leave m tested body j k) d.flow d.frame w e)

  label_leaves : (k : Option ℕ) (run : ℕ → Frame → State → Progress Done) → ((k : ℕ) → RunLeaves (run k)) → RunLeaves (from_label k run)
  label_leaves None run k frame w e = record { state = e }
  label_leaves (Some i) run k frame w e = block_leaves (run i) (k i) frame w e

-- ## Statements

module _ (P : Bool → ℕ → Type 0) (N : PlainNode → Type 0) (s : Setting) (keeps : Keeps P N s.call) where
  value_leaves : (held : List Held) (v : PlainValue) → Each N (nodes_of_value v) → (w : State) → P w.marked w.after_mark → Leaves P (evaluate s held v w)
  value_leaves held v q w e = evaluate_leaves P N s keeps held v q w e

  place_leaves : (held : List Held) (p : PlainPlace) → Each N (nodes_of_place p) → (w : State) → P w.marked w.after_mark → Leaves P (locate s held p w)
  place_leaves held p q w e = locate_leaves P N s keeps held p q w e

  written_leaves : (held : List Held) (i : ℕ) (x : PlainWritten) → Each N (nodes_of_written x) → (w : State) → P w.marked w.after_mark → Leaves P (written_scalars s held i x w)
  written_leaves held i (one_scalar v) q w e = leaves_then P (evaluate s held v w) _ (value_leaves held v q w e) (λ x w e. record { state = e })
  written_leaves held i (scalars_of_text bytes) q w e = record { state = e }

  listed_leaves : (held : List Held) (items : List PlainItem) → Each N (nodes_of_items items) → (w : State) → P w.marked w.after_mark → Leaves P (listed_scalars s held items w)
  listed_leaves held [] q w e = record { state = e }
  listed_leaves held (item ∷ items) q w e =
      leaves_then P (written_scalars s held item.scalar item.written w) _ (written_leaves held item.scalar item.written (each_left N (nodes_of_written item.written) (nodes_of_items items) q) w e) (λ xs w e.
      leaves_then P (listed_scalars s held items w) _ (listed_leaves held items (each_right N (nodes_of_written item.written) (nodes_of_items items) q) w e) (λ ys w e. record { state = e }))

  initialize_leaves : (span : Span) (t : PlainType) (target : Target) (initializer : PlainInitializer) → Each N (nodes_of_initializer initializer) → RunLeaves P (initialize s span t target initializer)
  initialize_leaves span t target not_initialized q frame w e = record { state = e }
  initialize_leaves span t target (single v) q frame w e = leaves_then P (evaluate s frame.held v w) _ (value_leaves frame.held v q w e) (λ x w e. write_leaves P span target (holding x) frame w e)
  initialize_leaves span t target (copied p) q frame w e =
      leaves_step P w _ e (λ l. leaves_then P (locate s frame.held p (record w { left = l })) _ (place_leaves frame.held p q (record w { left = l }) e) (λ source w e.
      copy_leaves P (width s.program t) 0 span (pointer_to target) (place_at p).span (pointer_to source) frame w e))
  initialize_leaves span t target (listed at items) q frame w e =
      leaves_then P (listed_scalars s frame.held items w) _ (listed_leaves frame.held items q w e) (λ xs w e. fill_leaves P span xs (scalars s.program t) 0 (pointer_to target) frame w e)

  declare_leaves : (span : Span) (n : ℕ) (v : Option PlainVariable) (initializer : PlainInitializer) → Each N (nodes_of_initializer initializer) → RunLeaves P (declare_variable s span n v initializer)
  declare_leaves span n None initializer q frame w e = record { state = e }
  declare_leaves span n (Some v) initializer q frame w e = leaves_if P v.frame _ _
      (initialize_leaves span v.type (Variable n) initializer q (holding_at frame n (holds unset)) w e)
      (initialize_leaves span v.type (Element (first_of w.opened (width s.program v.type) 1)) initializer q (record { held = slice_set frame.held n (stands w.opened); opened = w.opened ∷ frame.opened })
      (open_object declared (unset_cells (scalars s.program v.type)) w) e)

  pub test_leaves : (tested : Option PlainValue) → Each N (nodes_of_maybe tested) → RunLeaves P (λ frame w. test s tested frame w)
  test_leaves None q frame w e = leaves_step P w _ e (λ l. record { state = e })
  test_leaves (Some v) q frame w e = leaves_then P (evaluate s frame.held v w) _ (value_leaves frame.held v q w e) (λ x w e. record { state = e })

  mutual
    pub execute_leaves : (x : PlainStatement) → Each N (nodes_of_statement x) → RunLeaves P (execute s x)
    execute_leaves (statement at form) q frame w e = form_leaves at form q frame w e

    form_leaves : (at : At) (form : PlainStatementForm) → Each N (nodes_of_statement (statement at form)) → RunLeaves P (execute_form s at form)
    form_leaves at (declare n initializer) q frame w e = leaves_step P w _ e (λ l. declare_leaves at.span n (slice_get s.variables n) initializer q.1 frame (record w { left = l }) e)
    form_leaves at (set p v) q frame w e =
        leaves_step P w _ e (λ l. leaves_then P (locate s frame.held p (record w { left = l })) _ (place_leaves frame.held p (each_left N (nodes_of_place p) (nodes_of_value v) q.1) (record w { left = l }) e) (λ target w e.
        leaves_then P (evaluate s frame.held v w) _ (value_leaves frame.held v (each_right N (nodes_of_place p) (nodes_of_value v) q.1) w e) (λ x w e. write_leaves P (place_at p).span target (holding x) frame w e)))
    form_leaves at (update kind op t p v) q frame w e =
        leaves_step P w _ e (λ l. leaves_then P (locate s frame.held p (record w { left = l })) _ (place_leaves frame.held p (each_left N (nodes_of_place p) (nodes_of_value v) q.1) (record w { left = l }) e) (λ target w e.
        leaves_step P w _ e (λ l. leaves_then P (read_target (place_at p).span (place_type p) frame.held target (record w { left = l })) _ (read_leaves P (place_at p).span (place_type p) frame.held target (record w { left = l }) e) (λ x w e.
        leaves_then P (evaluate s frame.held v w) _ (value_leaves frame.held v (each_right N (nodes_of_place p) (nodes_of_value v) q.1) w e) (λ y w e.
        leaves_step P w _ e (λ l. leaves_or P (operated op t w.objects (converted_to t x) y) at.span (record w { left = l }) _ e (λ z.
        write_leaves P (place_at p).span target (holding (converted_to (place_type p) z)) frame (record w { left = l }) e)))))))
    form_leaves at (copy p r) q frame w e =
        leaves_step P w _ e (λ l. leaves_then P (locate s frame.held p (record w { left = l })) _ (place_leaves frame.held p (each_left N (nodes_of_place p) (nodes_of_place r) q.1) (record w { left = l }) e) (λ target w e.
        leaves_then P (locate s frame.held r w) _ (place_leaves frame.held r (each_right N (nodes_of_place p) (nodes_of_place r) q.1) w e) (λ source w e.
        copy_leaves P (width s.program (place_type p)) 0 (place_at p).span (pointer_to target) (place_at r).span (pointer_to source) frame w e)))
    form_leaves at (asserts call v) q frame w e =
        leaves_step P w _ e (λ l. leaves_then P (evaluate s frame.held v (record w { left = l })) _ (value_leaves frame.held v q.1 (record w { left = l }) e) (λ x w e.
        leaves_then P (asserted call.span x w) _ (asserted_leaves P call.span x w e) (λ none w e. record { state = e })))
    form_leaves at (expression v) q frame w e =
        leaves_step P w _ e (λ l. leaves_then P (discard s frame.held v (record w { left = l })) _ (discard_leaves P N s keeps frame.held v q.1 (record w { left = l }) e) (λ x w e. record { state = e }))
    form_leaves at (if_then v x) q frame w e =
        leaves_step P w _ e (λ l. leaves_then P (evaluate s frame.held v (record w { left = l })) _ (value_leaves frame.held v (each_left N (nodes_of_value v) (nodes_of_statement x) q.1) (record w { left = l }) e) (λ y w e.
        leaves_if P (is_true y) _ _ (execute_leaves x (each_right N (nodes_of_value v) (nodes_of_statement x) q.1) frame w e) (record { state = e })))
    form_leaves at (if_else v x z) q frame w e =
        let both : Each N (nodes_of_statement x ++ nodes_of_statement z) = each_right N (nodes_of_value v) (nodes_of_statement x ++ nodes_of_statement z) q.1 in
        leaves_step P w _ e (λ l. leaves_then P (evaluate s frame.held v (record w { left = l })) _ (value_leaves frame.held v (each_left N (nodes_of_value v) (nodes_of_statement x ++ nodes_of_statement z) q.1) (record w { left = l }) e) (λ y w e.
        leaves_if P (is_true y) _ _ (execute_leaves x (each_left N (nodes_of_statement x) (nodes_of_statement z) both) frame w e) (execute_leaves z (each_right N (nodes_of_statement x) (nodes_of_statement z) both) frame w e)))
    form_leaves at (loop head first tested third body) q frame w e =
        let o : EachInLoop N (nodes_of_statements first) (nodes_of_maybe tested) (nodes_of_statements third) (nodes_of_statement body) =
        each_in_loop N head.keyword (nodes_of_statements first) (nodes_of_maybe tested) (nodes_of_statements third) (nodes_of_statement body) q.1 in
        leaves_step P w _ e (λ l. block_leaves P (looped s head.keyword first tested third body) (λ frame w e.
        leaves_then P (execute_from s 0 first frame w) _ (from_leaves 0 first o.first_each frame w e) (λ d w e.
        go_leaves P (λ frame w. loop_by head.keyword s.turns (λ frame w. test s tested frame w) (round s third body) frame w)
        (loop_leaves P head.keyword s.turns (λ frame w. test s tested frame w) (round s third body) (test_leaves tested o.test_each)
        (λ frame w e. leaves_then P (execute s body frame w) _ (execute_leaves body o.body_each frame w e) (λ d w e.
        third_leaves P (λ frame w. execute_from s 0 third frame w) (from_leaves 0 third o.third_each) d.flow d.frame w e)))
        d.flow d.frame w e)) frame (record w { left = l }) e)
    form_leaves at (switch keyword v labels body) q frame w e =
        leaves_step P w _ e (λ l. leaves_then P (evaluate s frame.held v (record w { left = l })) _ (value_leaves frame.held v (each_left N (nodes_of_value v) (nodes_of_statement body) q.1) (record w { left = l }) e) (λ x w e.
        leaves_then P (enter s (labelled (number_of x) labels.cases labels.otherwise) body frame w) after_switch
        (enter_leaves (labelled (number_of x) labels.cases labels.otherwise) body (each_right N (nodes_of_value v) (nodes_of_statement body) q.1) frame w e) (λ d w e. record { state = e })))
    form_leaves at (return keyword None) q frame w e = leaves_step P w _ e (λ l. record { state = e })
    form_leaves at (return keyword (Some v)) q frame w e =
        leaves_step P w _ e (λ l. leaves_then P (evaluate s frame.held v (record w { left = l })) _ (value_leaves frame.held v q.1 (record w { left = l }) e) (λ x w e. record { state = e }))
    form_leaves at break q frame w e = leaves_step P w _ e (λ l. record { state = e })
    form_leaves at continue q frame w e = leaves_step P w _ e (λ l. record { state = e })
    form_leaves at empty q frame w e = leaves_step P w _ e (λ l. record { state = e })
    form_leaves at (block xs) q frame w e = block_leaves P (λ frame w. execute_from s 0 xs frame w) (from_leaves 0 xs q.1) frame w e
    form_leaves at (declare_static k) q frame w e = record { state = e }
    form_leaves at (mark InitDone) q frame w e = record { state = keeps.passes at q.0 w.marked w.after_mark e }
    form_leaves at (mark TaskLoop) q frame w e = record { state = e }

    pub from_leaves : (k : ℕ) (xs : PlainStatements) → Each N (nodes_of_statements xs) → RunLeaves P (execute_from s k xs)
    from_leaves k no_statements q frame w e = record { state = e }
    from_leaves zero (more_statements x rest) q frame w e =
        leaves_then P (execute s x frame w) _ (execute_leaves x (each_left N (nodes_of_statement x) (nodes_of_statements rest) q) frame w e) (λ d w e.
        go_leaves P (λ frame w. execute_from s zero rest frame w) (from_leaves zero rest (each_right N (nodes_of_statement x) (nodes_of_statements rest) q)) d.flow d.frame w e)
    from_leaves (suc k) (more_statements x rest) q frame w e = from_leaves k rest (each_right N (nodes_of_statement x) (nodes_of_statements rest) q) frame w e

    enter_leaves : (k : Option ℕ) (x : PlainStatement) → Each N (nodes_of_statement x) → RunLeaves P (enter s k x)
    enter_leaves k (statement at form) q frame w e = enter_form_leaves k form q.1 frame w e

    enter_form_leaves : (k : Option ℕ) (form : PlainStatementForm) → Each N (nodes_in_statement_form form) → RunLeaves P (enter_form s k form)
    enter_form_leaves k (block xs) q frame w e = label_leaves P k (λ k frame w. execute_from s k xs frame w) (λ k. from_leaves k xs q) frame w e
    enter_form_leaves k form q frame w e = record { state = e }
