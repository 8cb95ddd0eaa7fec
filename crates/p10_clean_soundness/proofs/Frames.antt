-- An object stands for a variable until the variable is declared again, and only declarations open objects in a block, by induction on
-- statements.
use Rattle.std.proofs.Common.{◌≡◌, ℕ, zero, suc, cond, Bool, true, false, List, [], ◌∷◌, ◌++◌, refl, ◌∙◌, ap, arith, Option, Some, None, slice_get, inl, inr}
use Rattle.std.specs.Prelude.{slice_set, nat_eq, ◌||◌, ◌⊎◌}
use Rattle.std.proofs.lemmas.Bool.Decides.{nat_tests}
use Rattle.p10_base.specs.declared.span.Span.{Span}
use Rattle.p10_base.specs.declared.at.At.{At}
use Rattle.p10_core.specs.declared.statements.LoopKeyword.{LoopKeyword}
use Rattle.p10_core.specs.declared.statements.LoopKeyword.TheVariants.{While, Do, For}
use Rattle.p10_core.specs.declared.statements.MarkKind.TheVariants.{InitDone, TaskLoop}
use Rattle.p10_core.specs.Types.{PlainType, bare}
use Rattle.p10_core.specs.Typed.{PlainPlace, place, variable, global, literal, index, member, dereference, place_at, place_type, PlainInitializer, not_initialized, single, copied, listed, PlainStatement, statement, set, update, copy, evaluate as expression, asserts, declare, declare_static, block, if_then, if_else, loop, switch, break, continue, return, empty, mark, PlainStatements, no_statements, more_statements, PlainVariable, PlainObject}
use Rattle.p10_core.specs.WholePrograms.{Region, is_among, after, after_all, is_declaration, declared_in, declared_of, IsWholeStatement, AreWholeStatements}
use Rattle.p10_meaning.specs.declared.pointers.Ptr.{Ptr}
use Rattle.p10_meaning.specs.declared.pointers.Scalar.{Scalar}
use Rattle.p10_meaning.specs.declared.pointers.Cell.{Cell}
use Rattle.p10_meaning.specs.Pointers.{unset, holding, first_of}
use Rattle.p10_meaning.specs.Objects.{declared, reach, shift, inner, write_at}
use Rattle.p10_meaning.specs.States.{State, Progress, gives, or_undefined}
use Rattle.p10_meaning.specs.Scalars.{number_of, pointer_of, is_true, converted_to, operated, unset_cells}
use Rattle.p10_meaning.specs.Values.{Setting, Held, holds, stands, absent, scalars, width, open_object, Target, Variable, Sensor, Element, variable_target, global_target, literal_target, pointer_to, scalars_before, read_target, asserted, evaluate, discard, locate}
use Rattle.p10_meaning.specs.Statements.{Frame, Flow, normal, broken, continued, returned, Done, go_on, holding_at, in_block, write_target, part_of, write_part, copy_scalars, listed_scalars, listed_scalar, fill, initialize, declare_variable, test, next_turn, turns, loop_by, before_third, labelled, from_label, after_switch, execute, execute_from, enter, round, looped}
use Rattle.p10_sums.specs.Keeping.{HoldsOf}
use Rattle.p10_execution.proofs.ScopedEnds.{third_declares}
use Rattle.p10_execution.proofs.Giving.{holds_step, holds_then, holds_after, holds_or, holds_if, holds_weaker}

-- ## Lists of numbers

-- a number that isn't in a list isn't in its parts
pub out_of_both : (a b : Bool) → a || b ≡ false → (a ≡ false) × (b ≡ false)
out_of_both true b e = absurd cc
out_of_both false b e = (refl, e)

pub left_out : (n : ℕ) (xs ys : List ℕ) → is_among n (xs ++ ys) ≡ false → is_among n xs ≡ false
left_out n [] ys e = refl
left_out n (x ∷ xs) ys e =
    let h : (nat_eq n x ≡ false) × (is_among n (xs ++ ys) ≡ false) = out_of_both (nat_eq n x) (is_among n (xs ++ ys)) e in
    ap (λ b. b || is_among n xs) h.0 ∙ left_out n xs ys h.1

pub right_out : (n : ℕ) (xs ys : List ℕ) → is_among n (xs ++ ys) ≡ false → is_among n ys ≡ false
right_out n [] ys e = e
right_out n (x ∷ xs) ys e = right_out n xs ys (out_of_both (nat_eq n x) (is_among n (xs ++ ys)) e).1

other_than : (n m : ℕ) → is_among n (m ∷ []) ≡ false → m ≡ n → ⊥
other_than n m e h = of (nat_eq n m) refl e
  where
    of : (b : Bool) → nat_eq n m ≡ b → b || false ≡ false → ⊥
    of true g e = absurd cc
    of false g e = grind (arith, nat_tests, g, h)

set_other : {A : Type 0} (hs : List A) (m n : ℕ) (h : A) → (m ≡ n → ⊥) → slice_get (slice_set hs m h) n ≡ slice_get hs n
set_other [] m n h o = refl
set_other (x ∷ hs) zero zero h o = absurd (o refl)
set_other (x ∷ hs) zero (suc n) h o = refl
set_other (x ∷ hs) (suc m) zero h o = refl
set_other (x ∷ hs) (suc m) (suc n) h o = set_other hs m n h (λ e. o (ap (λ k. suc k) e))

-- ## Objects that stand for variables

module _ (s : Setting) (n object : ℕ) where
  -- the object stands for the variable
  abbrev StandsIn : List Held → Type 0
  StandsIn held = slice_get held n ≡ Some (stands object)

  abbrev pub Fine : Done → State → Type 0
  Fine d w = StandsIn d.frame.held

  abbrev pub RunKeeps : (Frame → State → Progress Done) → Type 0
  RunKeeps run = (frame : Frame) (w : State) → StandsIn frame.held → HoldsOf Fine (run frame w)

  -- a place isn't that variable
  abbrev IsOther : Target → Type 0
  IsOther (Variable m) = m ≡ n → ⊥
  IsOther Sensor = Unit {0}
  IsOther (Element q) = Unit {0}

  variable_other : (m width : ℕ) (held : Option Held) (span : Span) (w : State) → (m ≡ n → held ≡ Some (stands object)) → HoldsOf (λ t w. IsOther t) (or_undefined (variable_target m width held) span w (λ target. gives target w))
  variable_other m width None span w h = tt
  variable_other m width (Some absent) span w h = tt
  variable_other m width (Some (holds cell)) span w h = λ e. let q : Some (holds cell) ≡ Some (stands object) = h e in absurd cc
  variable_other m width (Some (stands o)) span w h = tt

  sensor_other : (b : Bool) (q : Ptr) → IsOther (cond b Sensor (Element q))
  sensor_other true q = tt
  sensor_other false q = tt

  global_other : (m width : ℕ) (o : Option PlainObject) (span : Span) (w : State) → HoldsOf (λ t w. IsOther t) (or_undefined (global_target m width o) span w (λ target. gives target w))
  global_other m width None span w = tt
  global_other m width (Some o) span w = sensor_other o.sensor (first_of m width 1)

  literal_other : (width : ℕ) (o : Option ℕ) (span : Span) (w : State) → HoldsOf (λ t w. IsOther t) (or_undefined (literal_target width o) span w (λ target. gives target w))
  literal_other width None span w = tt
  literal_other width (Some o) span w = tt

  place_other : (held : List Held) → StandsIn held → (q : PlainPlace) (w : State) → HoldsOf (λ t w. IsOther t) (locate s held q w)
  place_other held h (place at t (variable m)) w = variable_other m _ (slice_get held m) at.span w (λ e. ap (slice_get held) e ∙ h)
  place_other held h (place at t (global m)) w = global_other m _ (slice_get s.program.objects m) at.span w
  place_other held h (place at t (literal m bytes)) w = literal_other _ _ at.span w
  place_other held h (place at t (index a i)) w =
      holds_step (λ t w. IsOther t) w _ (λ left _. holds_after (λ t w. IsOther t) (evaluate s held a (record w { left = left })) _ (λ x w. holds_after (λ t w. IsOther t) (evaluate s held i w) _ (λ y w.
      holds_or (λ t w. IsOther t) (shift w.objects (pointer_of x) (number_of y)) at.span w _ (λ q _. tt))))
  place_other held h (place at t (member p m)) w =
      holds_step (λ t w. IsOther t) w _ (λ left _. holds_after (λ t w. IsOther t) (locate s held p (record w { left = left })) _ (λ target w.
      holds_or (λ t w. IsOther t) (inner w.objects (pointer_to target) (scalars_before s.program (bare s.program.structures (place_type p)) m) (width s.program t) 1) at.span w _ (λ q _. tt)))
  place_other held h (place at t (dereference v)) w =
      holds_step (λ t w. IsOther t) w _ (λ left _. holds_after (λ t w. IsOther t) (evaluate s held v (record w { left = left })) _ (λ x w.
      holds_or (λ t w. IsOther t) (reach w.objects (pointer_of x)) at.span w _ (λ o _. tt)))

  go_keeps : (rest : Frame → State → Progress Done) → RunKeeps rest → (d : Done) (w : State) → Fine d w → HoldsOf Fine (go_on d.flow d.frame w rest)
  go_keeps rest k d w e = case d.flow
    where
      case : (flow : Flow) → HoldsOf Fine (go_on flow d.frame w rest)
      case normal = k d.frame w e
      case broken = e
      case continued = e
      case (returned x) = e

  block_keeps : (run : Frame → State → Progress Done) → RunKeeps run → RunKeeps (in_block run)
  block_keeps run k frame w e = holds_then Fine Fine (run (record frame { opened = [] }) w) _ (k (record frame { opened = [] }) w e) (λ d w e. e)

  write_keeps : (span : Span) (target : Target) (cell : Cell) → IsOther target → RunKeeps (write_target span target cell)
  write_keeps span (Variable m) cell other frame w e = set_other frame.held m n (holds cell) other ∙ e
  write_keeps span Sensor cell other frame w e = e
  write_keeps span (Element q) cell other frame w e = holds_or Fine (write_at w.objects q cell) span w _ (λ objects _. e)

  copy_keeps : (m i : ℕ) (to_span : Span) (to : Ptr) (from_span : Span) (from : Ptr) → RunKeeps (copy_scalars m i to_span to from_span from)
  copy_keeps zero i to_span to from_span from frame w e = e
  copy_keeps (suc m) i to_span to from_span from frame w e =
      holds_step Fine w _ (λ left _. holds_or Fine (part_of w.objects from i) from_span (record w { left = left }) _ (λ cell _. holds_or Fine (write_part w.objects to i cell) to_span (record w { left = left }) _ (λ objects _.
      copy_keeps m (suc i) to_span to from_span from frame (record w { left = left; objects = objects }) e)))

  fill_keeps : (span : Span) (xs : List (ℕ × Scalar)) (types : List PlainType) (i : ℕ) (q : Ptr) → RunKeeps (fill span xs types i q)
  fill_keeps span xs [] i q frame w e = e
  fill_keeps span xs (t ∷ types) i q frame w e =
      holds_step Fine w _ (λ left _. holds_or Fine (write_part w.objects q i (holding (listed_scalar i t xs))) span (record w { left = left }) _ (λ objects _. fill_keeps span xs types (suc i) q frame (record w { left = left; objects = objects }) e))

  initialize_keeps : (span : Span) (t : PlainType) (target : Target) (initializer : PlainInitializer) → IsOther target → RunKeeps (initialize s span t target initializer)
  initialize_keeps span t target not_initialized other frame w e = e
  initialize_keeps span t target (single v) other frame w e = holds_after Fine (evaluate s frame.held v w) _ (λ x w. write_keeps span target (holding x) other frame w e)
  initialize_keeps span t target (copied p) other frame w e =
      holds_step Fine w _ (λ left _. holds_after Fine (locate s frame.held p (record w { left = left })) _ (λ source w. copy_keeps (width s.program t) 0 span (pointer_to target) (place_at p).span (pointer_to source) frame w e))
  initialize_keeps span t target (listed at items) other frame w e = holds_after Fine (listed_scalars s frame.held items w) _ (λ xs w. fill_keeps span xs (scalars s.program t) 0 (pointer_to target) frame w e)

  declare_keeps : (span : Span) (m : ℕ) (v : Option PlainVariable) (initializer : PlainInitializer) → (m ≡ n → ⊥) → RunKeeps (declare_variable s span m v initializer)
  declare_keeps span m None initializer other frame w e = e
  declare_keeps span m (Some v) initializer other frame w e = holds_if Fine v.frame _ _
      (λ _. initialize_keeps span v.type (Variable m) initializer other (holding_at frame m (holds unset)) w (set_other frame.held m n (holds unset) other ∙ e))
      (λ _. initialize_keeps span v.type (Element (first_of w.opened (width s.program v.type) 1)) initializer tt (record { held = slice_set frame.held m (stands w.opened); opened = w.opened ∷ frame.opened })
      (open_object declared (unset_cells (scalars s.program v.type)) w) (set_other frame.held m n (stands w.opened) other ∙ e))

  next_keeps : (go : Frame → State → Progress Done) → RunKeeps go → (d : Done) (w : State) → Fine d w → HoldsOf Fine (next_turn d.flow d.frame w go)
  next_keeps go k d w e = case d.flow
    where
      case : (flow : Flow) → HoldsOf Fine (next_turn flow d.frame w go)
      case normal = k d.frame w e
      case continued = k d.frame w e
      case broken = e
      case (returned x) = e

  third_keeps : (third : Frame → State → Progress Done) → RunKeeps third → (d : Done) (w : State) → Fine d w → HoldsOf Fine (before_third d.flow d.frame w third)
  third_keeps third k d w e = case d.flow
    where
      case : (flow : Flow) → HoldsOf Fine (before_third flow d.frame w third)
      case normal = k d.frame w e
      case continued = k d.frame w e
      case broken = e
      case (returned x) = e

  turns_keep : (m : ℕ) (tested : Frame → State → Progress Bool) (body : Frame → State → Progress Done) → RunKeeps body → RunKeeps (turns m tested body)
  turns_keep zero tested body k frame w e = tt
  turns_keep (suc m) tested body k frame w e =
      holds_after Fine (tested frame w) _ (λ more w. holds_if Fine more _ _
      (λ _. holds_then Fine Fine (body frame w) _ (k frame w e) (λ d w e. next_keeps (turns m tested body) (turns_keep m tested body k) d w e)) (λ _. e))

  loop_keeps : (keyword : LoopKeyword) (m : ℕ) (tested : Frame → State → Progress Bool) (body : Frame → State → Progress Done) → RunKeeps body → RunKeeps (loop_by keyword m tested body)
  loop_keeps While m tested body k frame w e = turns_keep m tested body k frame w e
  loop_keeps For m tested body k frame w e = turns_keep m tested body k frame w e
  loop_keeps Do m tested body k frame w e = holds_then Fine Fine (body frame w) _ (k frame w e) (λ d w e. next_keeps (turns m tested body) (turns_keep m tested body k) d w e)

  label_keeps : (k : Option ℕ) (run : ℕ → Frame → State → Progress Done) → ((k : ℕ) → RunKeeps (run k)) → RunKeeps (from_label k run)
  label_keeps None run k frame w e = e
  label_keeps (Some i) run k frame w e = block_keeps (run i) (k i) frame w e

  mutual
    pub object_stays : (x : PlainStatement) (r : Region) → IsWholeStatement r x → is_among n (declared_in x) ≡ false → RunKeeps (execute s x)
    object_stays (statement at (declare m initializer)) r i out frame w e = holds_step Fine w _ (λ left _. declare_keeps at.span m (slice_get s.variables m) initializer (other_than n m out) frame (record w { left = left }) e)
    object_stays (statement at (set q v)) r i out frame w e =
        holds_step Fine w _ (λ left _. holds_then (λ t w. IsOther t) Fine (locate s frame.held q (record w { left = left })) _ (place_other frame.held e q (record w { left = left })) (λ target w other. holds_after Fine (evaluate s frame.held v w) _ (λ x w.
        write_keeps (place_at q).span target (holding x) other frame w e)))
    object_stays (statement at (update kind op t q v)) r i out frame w e =
        holds_step Fine w _ (λ left _. holds_then (λ t w. IsOther t) Fine (locate s frame.held q (record w { left = left })) _ (place_other frame.held e q (record w { left = left })) (λ target w other.
        holds_step Fine w _ (λ left _. holds_after Fine (read_target (place_at q).span (place_type q) frame.held target (record w { left = left })) _ (λ x w.
        holds_after Fine (evaluate s frame.held v w) _ (λ y w. holds_step Fine w _ (λ left _. holds_or Fine (operated op t w.objects (converted_to t x) y) at.span (record w { left = left }) _ (λ z _.
        write_keeps (place_at q).span target (holding (converted_to (place_type q) z)) other frame (record w { left = left }) e)))))))
    object_stays (statement at (copy q z)) r i out frame w e =
        holds_step Fine w _ (λ left _. holds_after Fine (locate s frame.held q (record w { left = left })) _ (λ target w. holds_after Fine (locate s frame.held z w) _ (λ source w.
        copy_keeps (width s.program (place_type q)) 0 (place_at q).span (pointer_to target) (place_at z).span (pointer_to source) frame w e)))
    object_stays (statement at (asserts call v)) r i out frame w e = holds_step Fine w _ (λ left _. holds_after Fine (evaluate s frame.held v (record w { left = left })) _ (λ x w. holds_after Fine (asserted call.span x w) _ (λ none w. e)))
    object_stays (statement at (expression v)) r i out frame w e = holds_step Fine w _ (λ left _. holds_after Fine (discard s frame.held v (record w { left = left })) _ (λ x w. e))
    object_stays (statement at (if_then v x)) r i out frame w e = holds_step Fine w _ (λ left _. holds_after Fine (evaluate s frame.held v (record w { left = left })) _ (λ y w. holds_if Fine (is_true y) _ _ (λ _. object_stays x r i.1 out frame w e) (λ _. e)))
    object_stays (statement at (if_else v x z)) r i out frame w e =
        holds_step Fine w _ (λ left _. holds_after Fine (evaluate s frame.held v (record w { left = left })) _ (λ y w. holds_if Fine (is_true y) _ _
        (λ _. object_stays x r i.1 (left_out n (declared_in x) (declared_in z) out) frame w e) (λ _. object_stays z r i.2 (right_out n (declared_in x) (declared_in z) out) frame w e)))
    object_stays (statement at (loop head first tested third body)) r i out frame w e =
        holds_step Fine w _ (λ left _. block_keeps (looped s head.keyword first tested third body) (λ frame w e.
        holds_then Fine Fine (execute_from s 0 first frame w) _ (object_stays_from 0 first r i.0 (left_out n (declared_of first) (declared_in body) out) frame w e) (λ d w e.
        go_keeps (λ frame w. loop_by head.keyword s.turns (λ frame w. test s tested frame w) (round s third body) frame w)
        (loop_keeps head.keyword s.turns (λ frame w. test s tested frame w) (round s third body)
        (λ frame w e. holds_then Fine Fine (execute s body frame w) _ (object_stays body (record (after_all r first) { in_loop = true }) i.3 (right_out n (declared_of first) (declared_in body) out) frame w e) (λ d w e.
        third_keeps (λ frame w. execute_from s 0 third frame w) (object_stays_from 0 third (after_all r first) i.2 (ap (is_among n) (third_declares head.keyword first tested third i.4))) d w e)))
        d w e)) frame (record w { left = left }) e)
    object_stays (statement at (switch keyword v labels body)) r i out frame w e =
        holds_step Fine w _ (λ left _. holds_after Fine (evaluate s frame.held v (record w { left = left })) _ (λ x w.
        holds_then Fine Fine (enter s (labelled (number_of x) labels.cases labels.otherwise) body frame w) after_switch (object_stays_entered (labelled (number_of x) labels.cases labels.otherwise) body (record r { in_switch = true }) i.1 out frame w e) (λ d w e. e)))
    object_stays (statement at (return keyword None)) r i out frame w e = holds_step Fine w _ (λ left _. e)
    object_stays (statement at (return keyword (Some v))) r i out frame w e = holds_step Fine w _ (λ left _. holds_after Fine (evaluate s frame.held v (record w { left = left })) _ (λ x w. e))
    object_stays (statement at break) r i out frame w e = holds_step Fine w _ (λ left _. e)
    object_stays (statement at continue) r i out frame w e = holds_step Fine w _ (λ left _. e)
    object_stays (statement at empty) r i out frame w e = holds_step Fine w _ (λ left _. e)
    object_stays (statement at (block xs)) r i out frame w e = block_keeps (λ frame w. execute_from s 0 xs frame w) (object_stays_from 0 xs r i out) frame w e
    object_stays (statement at (declare_static k)) r i out frame w e = e
    object_stays (statement at (mark InitDone)) r i out frame w e = e
    object_stays (statement at (mark TaskLoop)) r i out frame w e = e

    pub object_stays_from : (k : ℕ) (xs : PlainStatements) (r : Region) → AreWholeStatements r xs → is_among n (declared_of xs) ≡ false → RunKeeps (execute_from s k xs)
    object_stays_from k no_statements r i out frame w e = e
    object_stays_from zero (more_statements x rest) r i out frame w e =
        holds_then Fine Fine (execute s x frame w) _ (object_stays x r i.0 (left_out n (declared_in x) (declared_of rest) out) frame w e) (λ d w e.
        go_keeps (λ frame w. execute_from s zero rest frame w) (object_stays_from zero rest (after r x) i.1 (right_out n (declared_in x) (declared_of rest) out)) d w e)
    object_stays_from (suc k) (more_statements x rest) r i out frame w e = object_stays_from k rest (after r x) i.1 (right_out n (declared_in x) (declared_of rest) out) frame w e

    object_stays_entered : (k : Option ℕ) (x : PlainStatement) (r : Region) → IsWholeStatement r x → is_among n (declared_in x) ≡ false → RunKeeps (enter s k x)
    object_stays_entered k (statement at (block xs)) r i out frame w e = label_keeps k (λ k frame w. execute_from s k xs frame w) (λ k. object_stays_from k xs r i out) frame w e
    object_stays_entered k (statement at form) r i out frame w e = e

-- ## Objects that a block opens

module _ (s : Setting) where
  -- the objects that a block opened are these
  abbrev pub Opened : List ℕ → Done → State → Type 0
  Opened opened d w = d.frame.opened ≡ opened

  block_opened : (run : Frame → State → Progress Done) (frame : Frame) (w : State) → HoldsOf (Opened frame.opened) (in_block run frame w)
  block_opened run frame w = holds_after (Opened frame.opened) (run (record frame { opened = [] }) w) _ (λ d w. refl)

  write_opened : (span : Span) (target : Target) (cell : Cell) (frame : Frame) (w : State) → HoldsOf (Opened frame.opened) (write_target span target cell frame w)
  write_opened span (Variable m) cell frame w = refl
  write_opened span Sensor cell frame w = refl
  write_opened span (Element q) cell frame w = holds_or (Opened frame.opened) (write_at w.objects q cell) span w _ (λ objects _. refl)

  copy_opened : (m i : ℕ) (to_span : Span) (to : Ptr) (from_span : Span) (from : Ptr) (frame : Frame) (w : State) → HoldsOf (Opened frame.opened) (copy_scalars m i to_span to from_span from frame w)
  copy_opened zero i to_span to from_span from frame w = refl
  copy_opened (suc m) i to_span to from_span from frame w =
      holds_step (Opened frame.opened) w _ (λ left _. holds_or (Opened frame.opened) (part_of w.objects from i) from_span (record w { left = left }) _ (λ cell _. holds_or (Opened frame.opened) (write_part w.objects to i cell) to_span (record w { left = left }) _ (λ objects _.
      copy_opened m (suc i) to_span to from_span from frame (record w { left = left; objects = objects }))))

  fill_opened : (span : Span) (xs : List (ℕ × Scalar)) (types : List PlainType) (i : ℕ) (q : Ptr) (frame : Frame) (w : State) → HoldsOf (Opened frame.opened) (fill span xs types i q frame w)
  fill_opened span xs [] i q frame w = refl
  fill_opened span xs (t ∷ types) i q frame w =
      holds_step (Opened frame.opened) w _ (λ left _. holds_or (Opened frame.opened) (write_part w.objects q i (holding (listed_scalar i t xs))) span (record w { left = left }) _ (λ objects _. fill_opened span xs types (suc i) q frame (record w { left = left; objects = objects })))

  initialize_opened : (span : Span) (t : PlainType) (target : Target) (initializer : PlainInitializer) (frame : Frame) (w : State) → HoldsOf (Opened frame.opened) (initialize s span t target initializer frame w)
  initialize_opened span t target not_initialized frame w = refl
  initialize_opened span t target (single v) frame w = holds_after (Opened frame.opened) (evaluate s frame.held v w) _ (λ x w. write_opened span target (holding x) frame w)
  initialize_opened span t target (copied p) frame w =
      holds_step (Opened frame.opened) w _ (λ left _. holds_after (Opened frame.opened) (locate s frame.held p (record w { left = left })) _ (λ source w. copy_opened (width s.program t) 0 span (pointer_to target) (place_at p).span (pointer_to source) frame w))
  initialize_opened span t target (listed at items) frame w = holds_after (Opened frame.opened) (listed_scalars s frame.held items w) _ (λ xs w. fill_opened span xs (scalars s.program t) 0 (pointer_to target) frame w)

  -- a declaration opens at most the next object
  abbrev pub OpenedOne : List ℕ → ℕ → Done → State → Type 0
  OpenedOne opened next d w = (d.frame.opened ≡ opened) ⊎ (d.frame.opened ≡ next ∷ opened)

  pub declare_opened : (at : At) (m : ℕ) (initializer : PlainInitializer) (frame : Frame) (w : State) → HoldsOf (OpenedOne frame.opened w.opened) (execute s (statement at (declare m initializer)) frame w)
  declare_opened at m initializer frame w = holds_step (OpenedOne frame.opened w.opened) w _ (λ left _. of left (slice_get s.variables m))
    where
      of : (left : ℕ) (v : Option PlainVariable) → HoldsOf (OpenedOne frame.opened w.opened) (declare_variable s at.span m v initializer frame (record w { left = left }))
      of left None = inl refl
      of left (Some v) = holds_if (OpenedOne frame.opened w.opened) v.frame _ _
          (λ _. holds_weaker (Opened frame.opened) (OpenedOne frame.opened w.opened) (initialize s at.span v.type (Variable m) initializer (holding_at frame m (holds unset)) (record w { left = left }))
          (initialize_opened at.span v.type (Variable m) initializer (holding_at frame m (holds unset)) (record w { left = left })) (λ d w e. inl e))
          (λ _. let there : Frame = record { held = slice_set frame.held m (stands w.opened); opened = w.opened ∷ frame.opened } in
          let start : State = open_object declared (unset_cells (scalars s.program v.type)) (record w { left = left }) in
          holds_weaker (Opened (w.opened ∷ frame.opened)) (OpenedOne frame.opened w.opened) (initialize s at.span v.type (Element (first_of w.opened (width s.program v.type) 1)) initializer there start)
          (initialize_opened at.span v.type (Element (first_of w.opened (width s.program v.type) 1)) initializer there start) (λ d w e. inr e))

  -- another statement opens none
  pub statement_opened : (x : PlainStatement) (r : Region) → IsWholeStatement r x → is_declaration x ≡ false → (frame : Frame) (w : State) → HoldsOf (Opened frame.opened) (execute s x frame w)
  statement_opened (statement at (declare m initializer)) r i plain frame w = absurd cc
  statement_opened (statement at (set q v)) r i plain frame w =
      holds_step (Opened frame.opened) w _ (λ left _. holds_after (Opened frame.opened) (locate s frame.held q (record w { left = left })) _ (λ target w. holds_after (Opened frame.opened) (evaluate s frame.held v w) _ (λ x w.
      write_opened (place_at q).span target (holding x) frame w)))
  statement_opened (statement at (update kind op t q v)) r i plain frame w =
      holds_step (Opened frame.opened) w _ (λ left _. holds_after (Opened frame.opened) (locate s frame.held q (record w { left = left })) _ (λ target w.
      holds_step (Opened frame.opened) w _ (λ left _. holds_after (Opened frame.opened) (read_target (place_at q).span (place_type q) frame.held target (record w { left = left })) _ (λ x w.
      holds_after (Opened frame.opened) (evaluate s frame.held v w) _ (λ y w. holds_step (Opened frame.opened) w _ (λ left _. holds_or (Opened frame.opened) (operated op t w.objects (converted_to t x) y) at.span (record w { left = left }) _ (λ z _.
      write_opened (place_at q).span target (holding (converted_to (place_type q) z)) frame (record w { left = left }))))))))
  statement_opened (statement at (copy q z)) r i plain frame w =
      holds_step (Opened frame.opened) w _ (λ left _. holds_after (Opened frame.opened) (locate s frame.held q (record w { left = left })) _ (λ target w. holds_after (Opened frame.opened) (locate s frame.held z w) _ (λ source w.
      copy_opened (width s.program (place_type q)) 0 (place_at q).span (pointer_to target) (place_at z).span (pointer_to source) frame w)))
  statement_opened (statement at (asserts call v)) r i plain frame w = holds_step (Opened frame.opened) w _ (λ left _. holds_after (Opened frame.opened) (evaluate s frame.held v (record w { left = left })) _ (λ x w. holds_after (Opened frame.opened) (asserted call.span x w) _ (λ none w. refl)))
  statement_opened (statement at (expression v)) r i plain frame w = holds_step (Opened frame.opened) w _ (λ left _. holds_after (Opened frame.opened) (discard s frame.held v (record w { left = left })) _ (λ x w. refl))
  statement_opened (statement at (if_then v x)) r i plain frame w =
      holds_step (Opened frame.opened) w _ (λ left _. holds_after (Opened frame.opened) (evaluate s frame.held v (record w { left = left })) _ (λ y w. holds_if (Opened frame.opened) (is_true y) _ _ (λ _. statement_opened x r i.1 i.2 frame w) (λ _. refl)))
  statement_opened (statement at (if_else v x z)) r i plain frame w =
      holds_step (Opened frame.opened) w _ (λ left _. holds_after (Opened frame.opened) (evaluate s frame.held v (record w { left = left })) _ (λ y w. holds_if (Opened frame.opened) (is_true y) _ _
      (λ _. statement_opened x r i.1 i.3 frame w) (λ _. statement_opened z r i.2 i.4 frame w)))
  statement_opened (statement at (loop head first tested third body)) r i plain frame w = holds_step (Opened frame.opened) w _ (λ left _. block_opened (looped s head.keyword first tested third body) frame (record w { left = left }))
  statement_opened (statement at (switch keyword v labels body)) r i plain frame w =
      holds_step (Opened frame.opened) w _ (λ left _. holds_after (Opened frame.opened) (evaluate s frame.held v (record w { left = left })) _ (λ x w.
      holds_then (Opened frame.opened) (Opened frame.opened) (enter s (labelled (number_of x) labels.cases labels.otherwise) body frame w) after_switch (entered_opened (labelled (number_of x) labels.cases labels.otherwise) body frame w) (λ d w e. e)))
    where
      entered_opened : (k : Option ℕ) (x : PlainStatement) (frame : Frame) (w : State) → HoldsOf (Opened frame.opened) (enter s k x frame w)
      entered_opened None (statement at (block xs)) frame w = refl
      entered_opened (Some k) (statement at (block xs)) frame w = block_opened (λ frame w. execute_from s k xs frame w) frame w
      entered_opened k (statement at form) frame w = refl
  statement_opened (statement at (return keyword None)) r i plain frame w = holds_step (Opened frame.opened) w _ (λ left _. refl)
  statement_opened (statement at (return keyword (Some v))) r i plain frame w = holds_step (Opened frame.opened) w _ (λ left _. holds_after (Opened frame.opened) (evaluate s frame.held v (record w { left = left })) _ (λ x w. refl))
  statement_opened (statement at break) r i plain frame w = holds_step (Opened frame.opened) w _ (λ left _. refl)
  statement_opened (statement at continue) r i plain frame w = holds_step (Opened frame.opened) w _ (λ left _. refl)
  statement_opened (statement at empty) r i plain frame w = holds_step (Opened frame.opened) w _ (λ left _. refl)
  statement_opened (statement at (block xs)) r i plain frame w = block_opened (λ frame w. execute_from s 0 xs frame w) frame w
  statement_opened (statement at (declare_static k)) r i plain frame w = refl
  statement_opened (statement at (mark InitDone)) r i plain frame w = refl
  statement_opened (statement at (mark TaskLoop)) r i plain frame w = refl
