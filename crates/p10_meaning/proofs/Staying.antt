-- Variables that a statement neither assigns nor declares stay, by induction on statements.
use Rattle.std.proofs.Common.{◌≡◌, ℕ, zero, suc, cond, Bool, true, false, List, [], ◌∷◌, refl, ◌∙◌, ap, Option, Some, None, slice_get, Result, Ok, Err}
use Rattle.std.specs.Prelude.{slice_set, ◌||◌}
use Rattle.std.proofs.lemmas.Bool.{eqb-false}
use Rattle.p10_base.specs.declared.span.Span.{Span}
use Rattle.p10_base.specs.declared.at.At.{At}
use Rattle.p10_int.specs.declared.operators.Stop.{Stop}
use Rattle.p10_core.specs.declared.statements.LoopKeyword.{LoopKeyword}
use Rattle.p10_core.specs.declared.statements.LoopKeyword.TheVariants.{While, Do, For}
use Rattle.p10_core.specs.declared.statements.MarkKind.TheVariants.{InitDone, TaskLoop}
use Rattle.p10_core.specs.Types.{PlainType, bare}
use Rattle.p10_core.specs.Typed.{PlainPlace, place, variable, global, literal, index, member, dereference, place_at, place_type, PlainInitializer, not_initialized, single, copied, listed, PlainStatement, statement, PlainStatementForm, set, update, copy, evaluate as expression, asserts, declare, declare_static, block, if_then, if_else, loop, switch, break, continue, return, empty, mark, PlainStatements, no_statements, more_statements, PlainVariable, PlainObject}
use Rattle.p10_meaning.specs.declared.pointers.Ptr.{Ptr}
use Rattle.p10_meaning.specs.declared.pointers.Scalar.{Scalar}
use Rattle.p10_meaning.specs.declared.pointers.Cell.{Cell}
use Rattle.p10_meaning.specs.Pointers.{unset, holding, first_of}
use Rattle.p10_meaning.specs.Objects.{declared, reach, shift, inner, write_at}
use Rattle.p10_meaning.specs.States.{State, Progress, gives, ends, step_at, step, and_then, or_undefined}
use Rattle.p10_meaning.specs.Scalars.{number_of, pointer_of, is_true, converted_to, operated, unset_cells}
use Rattle.p10_meaning.specs.Values.{Setting, Held, holds, stands, absent, scalars, width, open_object, Target, Variable, Sensor, Element, variable_target, global_target, literal_target, pointer_to, scalars_before, read_target, asserted, evaluate, discard, locate}
use Rattle.p10_meaning.specs.Statements.{Frame, Flow, normal, broken, continued, returned, Done, go_on, holding_at, in_block, write_target, part_of, write_part, copy_scalars, listed_scalars, listed_scalar, fill, initialize, declare_variable, test, next_turn, turns, loop_by, before_third, labelled, from_label, after_switch, execute, execute_form, execute_from, enter, enter_form, round, looped}
use Rattle.p10_meaning.specs.Variables.{is_variable_place, may_change, form_may_change, any_may_change, OnGiven, VariablesStay, ValuesLeaveFrames}

-- ## Rules

given_any : {A : Type 0} (o : Progress A) → OnGiven (λ a. Unit {0}) o
given_any (gives a w) = tt
given_any (ends end w) = tt

given_step_at : {A : Type 0} (P : A → Type 0) (m : ℕ) (w : State) (go : State → Progress A) → ((w : State) → OnGiven P (go w)) → OnGiven P (step_at m w go)
given_step_at P zero w go h = tt
given_step_at P (suc m) w go h = h (record w { left = m })

given_step : {A : Type 0} (P : A → Type 0) (w : State) (go : State → Progress A) → ((w : State) → OnGiven P (go w)) → OnGiven P (step w go)
given_step P w go h = given_step_at P w.left w go h

given_then : {A B : Type 0} (P : A → Type 0) (Q : B → Type 0) (o : Progress A) (go : A → State → Progress B) → OnGiven P o → ((a : A) (w : State) → P a → OnGiven Q (go a w)) → OnGiven Q (and_then o go)
given_then P Q (gives a w) go h k = k a w h
given_then P Q (ends end w) go h k = tt

given_after : {A B : Type 0} (Q : B → Type 0) (o : Progress A) (go : A → State → Progress B) → ((a : A) (w : State) → OnGiven Q (go a w)) → OnGiven Q (and_then o go)
given_after Q o go k = given_then (λ a. Unit {0}) Q o go (given_any o) (λ a w h. k a w)

given_or : {A B : Type 0} (Q : B → Type 0) (r : Result A Stop) (span : Span) (w : State) (go : A → Progress B) → ((a : A) → OnGiven Q (go a)) → OnGiven Q (or_undefined r span w go)
given_or Q (Ok a) span w go h = h a
given_or Q (Err stop) span w go h = tt

given_if : {A : Type 0} (Q : A → Type 0) (b : Bool) (x y : Progress A) → OnGiven Q x → OnGiven Q y → OnGiven Q (cond b x y)
given_if Q true x y f g = f
given_if Q false x y f g = g

neither : (a b : Bool) → (a || b) ≡ false → (a ≡ false) × (b ≡ false)
neither true b e = absurd cc
neither false b e = (refl, e)

-- ## Places

-- a place that isn't the variable with a number
abbrev IsOther : ℕ → Target → Type 0
IsOther n (Variable m) = m ≡ n → ⊥
IsOther n Sensor = Unit {0}
IsOther n (Element q) = Unit {0}

variable_other : (n m scalars : ℕ) (held : Option Held) (span : Span) (w : State) → (m ≡ n → ⊥) → OnGiven (IsOther n) (or_undefined (variable_target m scalars held) span w (λ target. gives target w))
variable_other n m scalars None span w h = tt
variable_other n m scalars (Some absent) span w h = tt
variable_other n m scalars (Some (holds cell)) span w h = h
variable_other n m scalars (Some (stands object)) span w h = tt

sensor_other : (n : ℕ) (b : Bool) (q : Ptr) → IsOther n (cond b Sensor (Element q))
sensor_other n true q = tt
sensor_other n false q = tt

global_other : (n m scalars : ℕ) (object : Option PlainObject) (span : Span) (w : State) → OnGiven (IsOther n) (or_undefined (global_target m scalars object) span w (λ target. gives target w))
global_other n m scalars None span w = tt
global_other n m scalars (Some object) span w = sensor_other n object.sensor (first_of m scalars 1)

literal_other : (n scalars : ℕ) (object : Option ℕ) (span : Span) (w : State) → OnGiven (IsOther n) (or_undefined (literal_target scalars object) span w (λ target. gives target w))
literal_other n scalars None span w = tt
literal_other n scalars (Some object) span w = tt

place_other : (s : Setting) (n : ℕ) (held : List Held) (q : PlainPlace) (w : State) → is_variable_place n q ≡ false → OnGiven (IsOther n) (locate s held q w)
place_other s n held (place at t (variable m)) w e = variable_other n m _ (slice_get held m) at.span w (eqb-false m n e)
place_other s n held (place at t (global m)) w e = global_other n m _ (slice_get s.program.objects m) at.span w
place_other s n held (place at t (literal m bytes)) w e = literal_other n _ _ at.span w
place_other s n held (place at t (index a i)) w e =
    given_step (IsOther n) w _ (λ w. given_after (IsOther n) (evaluate s held a w) _ (λ x w. given_after (IsOther n) (evaluate s held i w) _ (λ y w. given_or (IsOther n) (shift w.objects (pointer_of x) (number_of y)) at.span w _ (λ q. tt))))
place_other s n held (place at t (member p m)) w e = given_step (IsOther n) w _ (λ w. given_after (IsOther n) (locate s held p w) _ (λ target w. given_or (IsOther n)
    (inner w.objects (pointer_to target) (scalars_before s.program (bare s.program.structures (place_type p)) m) (width s.program t) 1) at.span w _ (λ q. tt)))
place_other s n held (place at t (dereference v)) w e = given_step (IsOther n) w _ (λ w. given_after (IsOther n) (evaluate s held v w) _ (λ x w. given_or (IsOther n) (reach w.objects (pointer_of x)) at.span w _ (λ object. tt)))

set_other : (hs : List Held) (m n : ℕ) (h : Held) → (m ≡ n → ⊥) → slice_get (slice_set hs m h) n ≡ slice_get hs n
set_other [] m n h o = refl
set_other (x ∷ hs) zero zero h o = absurd (o refl)
set_other (x ∷ hs) zero (suc n) h o = refl
set_other (x ∷ hs) (suc m) zero h o = refl
set_other (x ∷ hs) (suc m) (suc n) h o = set_other hs m n h (λ e. o (ap (λ k. suc k) e))

-- ## Statements

module _ (s : Setting) (n : ℕ) where
  abbrev Stays : Option Held → Done → Type 0
  Stays h d = slice_get d.frame.held n ≡ h

  abbrev RunStays : (Frame → State → Progress Done) → Type 0
  RunStays run = (h : Option Held) (frame : Frame) (w : State) → slice_get frame.held n ≡ h → OnGiven (Stays h) (run frame w)

  go_stays : (rest : Frame → State → Progress Done) → RunStays rest → (h : Option Held) (d : Done) (w : State) → Stays h d → OnGiven (Stays h) (go_on d.flow d.frame w rest)
  go_stays rest k h d w e = case d.flow
    where
      case : (flow : Flow) → OnGiven (Stays h) (go_on flow d.frame w rest)
      case normal = k h d.frame w e
      case broken = e
      case continued = e
      case (returned x) = e

  block_stays : (run : Frame → State → Progress Done) → RunStays run → RunStays (in_block run)
  block_stays run k h frame w e = given_then (Stays h) (Stays h) (run (record frame { opened = [] }) w) _ (k h (record frame { opened = [] }) w e) (λ d w e. e)

  write_stays : (span : Span) (target : Target) (cell : Cell) → IsOther n target → RunStays (write_target span target cell)
  write_stays span (Variable m) cell o h frame w e = set_other frame.held m n (holds cell) o ∙ e
  write_stays span Sensor cell o h frame w e = e
  write_stays span (Element q) cell o h frame w e = given_or (Stays h) (write_at w.objects q cell) span w _ (λ objects. e)

  copy_stays : (m i : ℕ) (to_span : Span) (to : Ptr) (from_span : Span) (from : Ptr) → RunStays (copy_scalars m i to_span to from_span from)
  copy_stays zero i to_span to from_span from h frame w e = e
  copy_stays (suc m) i to_span to from_span from h frame w e =
      given_step (Stays h) w _ (λ w. given_or (Stays h) (part_of w.objects from i) from_span w _ (λ cell. given_or (Stays h) (write_part w.objects to i cell) to_span w _ (λ objects.
      copy_stays m (suc i) to_span to from_span from h frame (record w { objects = objects }) e)))

  fill_stays : (span : Span) (xs : List (ℕ × Scalar)) (types : List PlainType) (i : ℕ) (q : Ptr) → RunStays (fill span xs types i q)
  fill_stays span xs [] i q h frame w e = e
  fill_stays span xs (t ∷ types) i q h frame w e =
      given_step (Stays h) w _ (λ w. given_or (Stays h) (write_part w.objects q i (holding (listed_scalar i t xs))) span w _ (λ objects. fill_stays span xs types (suc i) q h frame (record w { objects = objects }) e))

  initialize_stays : (span : Span) (t : PlainType) (target : Target) (initializer : PlainInitializer) → IsOther n target → RunStays (initialize s span t target initializer)
  initialize_stays span t target not_initialized o h frame w e = e
  initialize_stays span t target (single v) o h frame w e = given_after (Stays h) (evaluate s frame.held v w) _ (λ x w. write_stays span target (holding x) o h frame w e)
  initialize_stays span t target (copied p) o h frame w e =
      given_step (Stays h) w _ (λ w. given_after (Stays h) (locate s frame.held p w) _ (λ source w. copy_stays (width s.program t) 0 span (pointer_to target) (place_at p).span (pointer_to source) h frame w e))
  initialize_stays span t target (listed at items) o h frame w e = given_after (Stays h) (listed_scalars s frame.held items w) _ (λ xs w. fill_stays span xs (scalars s.program t) 0 (pointer_to target) h frame w e)

  declare_stays : (span : Span) (m : ℕ) (v : Option PlainVariable) (initializer : PlainInitializer) → (m ≡ n → ⊥) → RunStays (declare_variable s span m v initializer)
  declare_stays span m None initializer o h frame w e = e
  declare_stays span m (Some v) initializer o h frame w e = given_if (Stays h) v.frame _ _
      (initialize_stays span v.type (Variable m) initializer o h (holding_at frame m (holds unset)) w (set_other frame.held m n (holds unset) o ∙ e))
      (initialize_stays span v.type (Element (first_of w.opened (width s.program v.type) 1)) initializer tt h (record { held = slice_set frame.held m (stands w.opened); opened = w.opened ∷ frame.opened })
      (open_object declared (unset_cells (scalars s.program v.type)) w) (set_other frame.held m n (stands w.opened) o ∙ e))

  next_stays : (go : Frame → State → Progress Done) → RunStays go → (h : Option Held) (d : Done) (w : State) → Stays h d → OnGiven (Stays h) (next_turn d.flow d.frame w go)
  next_stays go k h d w e = case d.flow
    where
      case : (flow : Flow) → OnGiven (Stays h) (next_turn flow d.frame w go)
      case normal = k h d.frame w e
      case continued = k h d.frame w e
      case broken = e
      case (returned x) = e

  third_stays : (third : Frame → State → Progress Done) → RunStays third → (h : Option Held) (d : Done) (w : State) → Stays h d → OnGiven (Stays h) (before_third d.flow d.frame w third)
  third_stays third k h d w e = case d.flow
    where
      case : (flow : Flow) → OnGiven (Stays h) (before_third flow d.frame w third)
      case normal = k h d.frame w e
      case continued = k h d.frame w e
      case broken = e
      case (returned x) = e

  turns_stay : (m : ℕ) (tested : Frame → State → Progress Bool) (body : Frame → State → Progress Done) → RunStays body → RunStays (turns m tested body)
  turns_stay zero tested body k h frame w e = tt
  turns_stay (suc m) tested body k h frame w e =
      given_after (Stays h) (tested frame w) _ (λ more w. given_if (Stays h) more _ _
      (given_then (Stays h) (Stays h) (body frame w) _ (k h frame w e) (λ d w e. next_stays (turns m tested body) (turns_stay m tested body k) h d w e)) e)

  loop_stays : (keyword : LoopKeyword) (m : ℕ) (tested : Frame → State → Progress Bool) (body : Frame → State → Progress Done) → RunStays body → RunStays (loop_by keyword m tested body)
  loop_stays While m tested body k h frame w e = turns_stay m tested body k h frame w e
  loop_stays For m tested body k h frame w e = turns_stay m tested body k h frame w e
  loop_stays Do m tested body k h frame w e = given_then (Stays h) (Stays h) (body frame w) _ (k h frame w e) (λ d w e. next_stays (turns m tested body) (turns_stay m tested body k) h d w e)

  label_stays : (k : Option ℕ) (run : ℕ → Frame → State → Progress Done) → ((k : ℕ) → RunStays (run k)) → RunStays (from_label k run)
  label_stays None run k h frame w e = e
  label_stays (Some i) run k h frame w e = block_stays (run i) (k i) h frame w e

  mutual
    execute_stays : (x : PlainStatement) → may_change n x ≡ false → RunStays (execute s x)
    execute_stays (statement at form) o h frame w e = form_stays at form o h frame w e

    form_stays : (at : At) (form : PlainStatementForm) → form_may_change n form ≡ false → RunStays (execute_form s at form)
    form_stays at (declare m initializer) o h frame w e = given_step (Stays h) w _ (λ w. declare_stays at.span m (slice_get s.variables m) initializer (eqb-false m n o) h frame w e)
    form_stays at (set q v) o h frame w e =
        given_step (Stays h) w _ (λ w. given_then (IsOther n) (Stays h) (locate s frame.held q w) _ (place_other s n frame.held q w o) (λ target w other. given_after (Stays h) (evaluate s frame.held v w) _ (λ x w.
        write_stays (place_at q).span target (holding x) other h frame w e)))
    form_stays at (update kind op t q v) o h frame w e =
        given_step (Stays h) w _ (λ w. given_then (IsOther n) (Stays h) (locate s frame.held q w) _ (place_other s n frame.held q w o) (λ target w other. given_step (Stays h) w _ (λ w. given_after (Stays h) (read_target (place_at q).span (place_type q) frame.held target w) _ (λ x w.
        given_after (Stays h) (evaluate s frame.held v w) _ (λ y w. given_step (Stays h) w _ (λ w. given_or (Stays h) (operated op t w.objects (converted_to t x) y) at.span w _ (λ z. write_stays (place_at q).span target (holding (converted_to (place_type q) z)) other h frame w e)))))))
    form_stays at (copy q r) o h frame w e =
        given_step (Stays h) w _ (λ w. given_after (Stays h) (locate s frame.held q w) _ (λ target w. given_after (Stays h) (locate s frame.held r w) _ (λ source w.
        copy_stays (width s.program (place_type q)) 0 (place_at q).span (pointer_to target) (place_at r).span (pointer_to source) h frame w e)))
    form_stays at (asserts call v) o h frame w e = given_step (Stays h) w _ (λ w. given_after (Stays h) (evaluate s frame.held v w) _ (λ x w. given_after (Stays h) (asserted call.span x w) _ (λ none w. e)))
    form_stays at (expression v) o h frame w e = given_step (Stays h) w _ (λ w. given_after (Stays h) (discard s frame.held v w) _ (λ x w. e))
    form_stays at (if_then v x) o h frame w e = given_step (Stays h) w _ (λ w. given_after (Stays h) (evaluate s frame.held v w) _ (λ y w. given_if (Stays h) (is_true y) _ _ (execute_stays x o h frame w e) e))
    form_stays at (if_else v x z) o h frame w e =
        let both : (may_change n x ≡ false) × (may_change n z ≡ false) = neither (may_change n x) (may_change n z) o in
        given_step (Stays h) w _ (λ w. given_after (Stays h) (evaluate s frame.held v w) _ (λ y w. given_if (Stays h) (is_true y) _ _ (execute_stays x both.0 h frame w e) (execute_stays z both.1 h frame w e)))
    form_stays at (loop head first tested third body) o h frame w e =
        let parts : ((any_may_change n first || any_may_change n third) ≡ false) × (may_change n body ≡ false) = neither (any_may_change n first || any_may_change n third) (may_change n body) o in
        let clauses : (any_may_change n first ≡ false) × (any_may_change n third ≡ false) = neither (any_may_change n first) (any_may_change n third) parts.0 in
        given_step (Stays h) w _ (λ w. block_stays (looped s head.keyword first tested third body) (λ h frame w e.
        given_then (Stays h) (Stays h) (execute_from s 0 first frame w) _ (from_stays 0 first clauses.0 h frame w e) (λ d w e.
        go_stays (λ frame w. loop_by head.keyword s.turns (λ frame w. test s tested frame w) (round s third body) frame w)
        (loop_stays head.keyword s.turns (λ frame w. test s tested frame w) (round s third body)
        (λ h frame w e. given_then (Stays h) (Stays h) (execute s body frame w) _ (execute_stays body parts.1 h frame w e) (λ d w e.
        third_stays (λ frame w. execute_from s 0 third frame w) (from_stays 0 third clauses.1) h d w e)))
        h d w e)) h frame w e)
    form_stays at (switch keyword v labels body) o h frame w e =
        given_step (Stays h) w _ (λ w. given_after (Stays h) (evaluate s frame.held v w) _ (λ x w.
        given_then (Stays h) (Stays h) (enter s (labelled (number_of x) labels.cases labels.otherwise) body frame w) after_switch (enter_stays (labelled (number_of x) labels.cases labels.otherwise) body o h frame w e) (λ d w e. e)))
    form_stays at (return keyword None) o h frame w e = given_step (Stays h) w _ (λ w. e)
    form_stays at (return keyword (Some v)) o h frame w e = given_step (Stays h) w _ (λ w. given_after (Stays h) (evaluate s frame.held v w) _ (λ x w. e))
    form_stays at break o h frame w e = given_step (Stays h) w _ (λ w. e)
    form_stays at continue o h frame w e = given_step (Stays h) w _ (λ w. e)
    form_stays at empty o h frame w e = given_step (Stays h) w _ (λ w. e)
    form_stays at (block xs) o h frame w e = block_stays (λ frame w. execute_from s 0 xs frame w) (from_stays 0 xs o) h frame w e
    form_stays at (declare_static k) o h frame w e = e
    form_stays at (mark InitDone) o h frame w e = e
    form_stays at (mark TaskLoop) o h frame w e = e

    from_stays : (k : ℕ) (xs : PlainStatements) → any_may_change n xs ≡ false → RunStays (execute_from s k xs)
    from_stays k no_statements o h frame w e = e
    from_stays zero (more_statements x rest) o h frame w e =
        let both : (may_change n x ≡ false) × (any_may_change n rest ≡ false) = neither (may_change n x) (any_may_change n rest) o in
        given_then (Stays h) (Stays h) (execute s x frame w) _ (execute_stays x both.0 h frame w e) (λ d w e. go_stays (λ frame w. execute_from s zero rest frame w) (from_stays zero rest both.1) h d w e)
    from_stays (suc k) (more_statements x rest) o h frame w e = from_stays k rest (neither (may_change n x) (any_may_change n rest) o).1 h frame w e

    enter_stays : (k : Option ℕ) (x : PlainStatement) → may_change n x ≡ false → RunStays (enter s k x)
    enter_stays k (statement at form) o h frame w e = enter_form_stays k form o h frame w e

    enter_form_stays : (k : Option ℕ) (form : PlainStatementForm) → form_may_change n form ≡ false → RunStays (enter_form s k form)
    enter_form_stays k (block xs) o h frame w e = label_stays k (λ k frame w. execute_from s k xs frame w) (λ k. from_stays k xs o) h frame w e
    enter_form_stays k (declare m i) o h frame w e = e
    enter_form_stays k (set q v) o h frame w e = e
    enter_form_stays k (update kind op t q v) o h frame w e = e
    enter_form_stays k (copy q r) o h frame w e = e
    enter_form_stays k (expression v) o h frame w e = e
    enter_form_stays k (asserts call v) o h frame w e = e
    enter_form_stays k (declare_static m) o h frame w e = e
    enter_form_stays k (if_then v x) o h frame w e = e
    enter_form_stays k (if_else v x y) o h frame w e = e
    enter_form_stays k (loop head first tested third body) o h frame w e = e
    enter_form_stays k (switch span v labels body) o h frame w e = e
    enter_form_stays k break o h frame w e = e
    enter_form_stays k continue o h frame w e = e
    enter_form_stays k (return span v) o h frame w e = e
    enter_form_stays k empty o h frame w e = e
    enter_form_stays k (mark kind) o h frame w e = e

-- ## The laws

pub variables_stay : VariablesStay
variables_stay s x n o frame w = execute_stays s n x o (slice_get frame.held n) frame w refl

pub values_leave_frames : ValuesLeaveFrames
values_leave_frames s at v frame w = given_step (λ (d : Done). d.frame ≡ frame) w _ (λ w. given_after (λ (d : Done). d.frame ≡ frame) (discard s frame.held v w) _ (λ x w. refl))
