-- No object ever stands for a frame variable, by induction on statements.
use Rattle.std.proofs.Common.{◌≡◌, ℕ, zero, suc, Bool, true, false, List, [], ◌∷◌, refl, ◌∙◌, ap, sym, Option, Some, None, slice_get, inl, inr}
use Rattle.std.specs.Prelude.{slice_set, ◌⊎◌}
use Rattle.std.proofs.lemmas.Option.{same_Some}
use Rattle.p10_base.specs.declared.span.Span.{Span}
use Rattle.p10_core.specs.declared.statements.LoopKeyword.{LoopKeyword}
use Rattle.p10_core.specs.declared.statements.LoopKeyword.TheVariants.{While, Do, For}
use Rattle.p10_core.specs.declared.statements.MarkKind.TheVariants.{InitDone, TaskLoop}
use Rattle.p10_core.specs.Types.{PlainType}
use Rattle.p10_core.specs.Typed.{place_at, place_type, PlainInitializer, not_initialized, single, copied, listed, PlainStatement, statement, set, update, copy, evaluate as expression, asserts, declare, declare_static, block, if_then, if_else, loop, switch, break, continue, return, empty, mark, PlainStatements, no_statements, more_statements, PlainVariable}
use Rattle.p10_meaning.specs.declared.pointers.Ptr.{Ptr}
use Rattle.p10_meaning.specs.declared.pointers.Scalar.{Scalar}
use Rattle.p10_meaning.specs.declared.pointers.Cell.{Cell}
use Rattle.p10_meaning.specs.Pointers.{unset, holding, first_of}
use Rattle.p10_meaning.specs.Objects.{declared, write_at}
use Rattle.p10_meaning.specs.States.{State, Progress}
use Rattle.p10_meaning.specs.Scalars.{number_of, is_true, converted_to, operated, unset_cells}
use Rattle.p10_meaning.specs.Values.{Setting, Held, holds, stands, scalars, width, open_object, Target, Variable, Sensor, Element, pointer_to, read_target, asserted, evaluate, discard, locate}
use Rattle.p10_meaning.specs.Statements.{Frame, Flow, normal, broken, continued, returned, Done, go_on, holding_at, in_block, write_target, part_of, write_part, copy_scalars, listed_scalars, listed_scalar, fill, initialize, declare_variable, test, next_turn, turns, loop_by, before_third, labelled, from_label, after_switch, execute, execute_from, enter, round, looped}
use Rattle.p10_sums.specs.Keeping.{HoldsOf}
use Rattle.p10_absx.proofs.Entries.{got_after}
use Rattle.p10_execution.specs.Standing.{AreInFrame}
use Rattle.p10_execution.proofs.Giving.{holds_step, holds_then, holds_after, holds_or, holds_if}

-- ## Changes of a frame

pub cell_set : (variables : List PlainVariable) (held : List Held) (k : ℕ) (cell : Cell) → AreInFrame variables held → AreInFrame variables (slice_set held k (holds cell))
cell_set variables held k cell h = record { no_object = λ n v o there frame_is e. by_case n v o there frame_is (got_after held k n (holds cell) (stands o) e) }
  where
    by_case : (n : ℕ) (v : PlainVariable) (o : ℕ) → slice_get variables n ≡ Some v → v.frame ≡ true → ((n ≡ k) × (stands o ≡ holds cell)) ⊎ ((n ≡ k → ⊥) × (slice_get held n ≡ Some (stands o))) → ⊥
    by_case n v o there frame_is (inl p) = let q : stands o ≡ holds cell = p.1 in absurd cc
    by_case n v o there frame_is (inr p) = h.no_object n v o there frame_is p.1

pub object_set : (variables : List PlainVariable) (held : List Held) (k object : ℕ) (u : PlainVariable) → slice_get variables k ≡ Some u → u.frame ≡ false → AreInFrame variables held → AreInFrame variables (slice_set held k (stands object))
object_set variables held k object u there isnt h = record { no_object = λ n v o it frame_is e. by_case n v o it frame_is (got_after held k n (stands object) (stands o) e) }
  where
    by_case : (n : ℕ) (v : PlainVariable) (o : ℕ) → slice_get variables n ≡ Some v → v.frame ≡ true → ((n ≡ k) × (stands o ≡ stands object)) ⊎ ((n ≡ k → ⊥) × (slice_get held n ≡ Some (stands o))) → ⊥
    by_case n v o it frame_is (inl p) =
        let same : u ≡ v = same_Some _ _ (sym there ∙ (ap (slice_get variables) (sym p.0) ∙ it)) in
        let yes : u.frame ≡ true = ap (λ (x : PlainVariable). x.frame) same ∙ frame_is in
        absurd cc
    by_case n v o it frame_is (inr p) = h.no_object n v o it frame_is p.1

-- ## Statements

module _ (s : Setting) where
  abbrev Fine : Done → State → Type 0
  Fine d w = AreInFrame s.variables d.frame.held

  abbrev RunKeeps : (Frame → State → Progress Done) → Type 0
  RunKeeps run = (frame : Frame) (w : State) → AreInFrame s.variables frame.held → HoldsOf Fine (run frame w)

  go_keeps : (rest : Frame → State → Progress Done) → RunKeeps rest → (d : Done) (w : State) → Fine d w → HoldsOf Fine (go_on d.flow d.frame w rest)
  go_keeps rest k d w e = case d.flow
    where
      case : (flow : Flow) → HoldsOf Fine (go_on flow d.frame w rest)
      case normal = k d.frame w e
      case broken = e
      case continued = e
      case (returned x) = e

  block_keeps : (run : Frame → State → Progress Done) → RunKeeps run → RunKeeps (in_block run)
  block_keeps run k frame w e = holds_then Fine Fine (run (record frame { opened = [] }) w) _ (k (record frame { opened = [] }) w e) (λ d w e. e)

  write_keeps : (span : Span) (target : Target) (cell : Cell) → RunKeeps (write_target span target cell)
  write_keeps span (Variable m) cell frame w e = cell_set s.variables frame.held m cell e
  write_keeps span Sensor cell frame w e = e
  write_keeps span (Element q) cell frame w e = holds_or Fine (write_at w.objects q cell) span w _ (λ objects _. e)

  copy_keeps : (m i : ℕ) (to_span : Span) (to : Ptr) (from_span : Span) (from : Ptr) → RunKeeps (copy_scalars m i to_span to from_span from)
  copy_keeps zero i to_span to from_span from frame w e = e
  copy_keeps (suc m) i to_span to from_span from frame w e =
      holds_step Fine w _ (λ left _. holds_or Fine (part_of w.objects from i) from_span (record w { left = left }) _ (λ cell _. holds_or Fine (write_part w.objects to i cell) to_span (record w { left = left }) _ (λ objects _.
      copy_keeps m (suc i) to_span to from_span from frame (record w { left = left; objects = objects }) e)))

  fill_keeps : (span : Span) (xs : List (ℕ × Scalar)) (types : List PlainType) (i : ℕ) (q : Ptr) → RunKeeps (fill span xs types i q)
  fill_keeps span xs [] i q frame w e = e
  fill_keeps span xs (t ∷ types) i q frame w e =
      holds_step Fine w _ (λ left _. holds_or Fine (write_part w.objects q i (holding (listed_scalar i t xs))) span (record w { left = left }) _ (λ objects _. fill_keeps span xs types (suc i) q frame (record w { left = left; objects = objects }) e))

  initialize_keeps : (span : Span) (t : PlainType) (target : Target) (initializer : PlainInitializer) → RunKeeps (initialize s span t target initializer)
  initialize_keeps span t target not_initialized frame w e = e
  initialize_keeps span t target (single v) frame w e = holds_after Fine (evaluate s frame.held v w) _ (λ x w. write_keeps span target (holding x) frame w e)
  initialize_keeps span t target (copied p) frame w e =
      holds_step Fine w _ (λ left _. holds_after Fine (locate s frame.held p (record w { left = left })) _ (λ source w. copy_keeps (width s.program t) 0 span (pointer_to target) (place_at p).span (pointer_to source) frame w e))
  initialize_keeps span t target (listed at items) frame w e = holds_after Fine (listed_scalars s frame.held items w) _ (λ xs w. fill_keeps span xs (scalars s.program t) 0 (pointer_to target) frame w e)

  declare_keeps : (span : Span) (m : ℕ) (v : Option PlainVariable) (initializer : PlainInitializer) → slice_get s.variables m ≡ v → RunKeeps (declare_variable s span m v initializer)
  declare_keeps span m None initializer there frame w e = e
  declare_keeps span m (Some v) initializer there frame w e = holds_if Fine v.frame _ _
      (λ _. initialize_keeps span v.type (Variable m) initializer (holding_at frame m (holds unset)) w (cell_set s.variables frame.held m unset e))
      (λ isnt. initialize_keeps span v.type (Element (first_of w.opened (width s.program v.type) 1)) initializer (record { held = slice_set frame.held m (stands w.opened); opened = w.opened ∷ frame.opened })
      (open_object declared (unset_cells (scalars s.program v.type)) w) (object_set s.variables frame.held m w.opened v there isnt e))

  next_keeps : (go : Frame → State → Progress Done) → RunKeeps go → (d : Done) (w : State) → Fine d w → HoldsOf Fine (next_turn d.flow d.frame w go)
  next_keeps go k d w e = case d.flow
    where
      case : (flow : Flow) → HoldsOf Fine (next_turn flow d.frame w go)
      case normal = k d.frame w e
      case continued = k d.frame w e
      case broken = e
      case (returned x) = e

  third_keeps : (third : Frame → State → Progress Done) → RunKeeps third → (d : Done) (w : State) → Fine d w → HoldsOf Fine (before_third d.flow d.frame w third)
  third_keeps third k d w e = case d.flow
    where
      case : (flow : Flow) → HoldsOf Fine (before_third flow d.frame w third)
      case normal = k d.frame w e
      case continued = k d.frame w e
      case broken = e
      case (returned x) = e

  turns_keep : (m : ℕ) (tested : Frame → State → Progress Bool) (body : Frame → State → Progress Done) → RunKeeps body → RunKeeps (turns m tested body)
  turns_keep zero tested body k frame w e = tt
  turns_keep (suc m) tested body k frame w e =
      holds_after Fine (tested frame w) _ (λ more w. holds_if Fine more _ _
      (λ _. holds_then Fine Fine (body frame w) _ (k frame w e) (λ d w e. next_keeps (turns m tested body) (turns_keep m tested body k) d w e)) (λ _. e))

  loop_keeps : (keyword : LoopKeyword) (m : ℕ) (tested : Frame → State → Progress Bool) (body : Frame → State → Progress Done) → RunKeeps body → RunKeeps (loop_by keyword m tested body)
  loop_keeps While m tested body k frame w e = turns_keep m tested body k frame w e
  loop_keeps For m tested body k frame w e = turns_keep m tested body k frame w e
  loop_keeps Do m tested body k frame w e = holds_then Fine Fine (body frame w) _ (k frame w e) (λ d w e. next_keeps (turns m tested body) (turns_keep m tested body k) d w e)

  label_keeps : (k : Option ℕ) (run : ℕ → Frame → State → Progress Done) → ((k : ℕ) → RunKeeps (run k)) → RunKeeps (from_label k run)
  label_keeps None run k frame w e = e
  label_keeps (Some i) run k frame w e = block_keeps (run i) (k i) frame w e

  mutual
    pub execute_in_frame : (x : PlainStatement) → RunKeeps (execute s x)
    execute_in_frame (statement at (declare m initializer)) frame w e = holds_step Fine w _ (λ left _. declare_keeps at.span m (slice_get s.variables m) initializer refl frame (record w { left = left }) e)
    execute_in_frame (statement at (set q v)) frame w e =
        holds_step Fine w _ (λ left _. holds_after Fine (locate s frame.held q (record w { left = left })) _ (λ target w. holds_after Fine (evaluate s frame.held v w) _ (λ x w.
        write_keeps (place_at q).span target (holding x) frame w e)))
    execute_in_frame (statement at (update kind op t q v)) frame w e =
        holds_step Fine w _ (λ left _. holds_after Fine (locate s frame.held q (record w { left = left })) _ (λ target w. holds_step Fine w _ (λ left _. holds_after Fine (read_target (place_at q).span (place_type q) frame.held target (record w { left = left })) _ (λ x w.
        holds_after Fine (evaluate s frame.held v w) _ (λ y w. holds_step Fine w _ (λ left _. holds_or Fine (operated op t w.objects (converted_to t x) y) at.span (record w { left = left }) _ (λ z _.
        write_keeps (place_at q).span target (holding (converted_to (place_type q) z)) frame (record w { left = left }) e)))))))
    execute_in_frame (statement at (copy q r)) frame w e =
        holds_step Fine w _ (λ left _. holds_after Fine (locate s frame.held q (record w { left = left })) _ (λ target w. holds_after Fine (locate s frame.held r w) _ (λ source w.
        copy_keeps (width s.program (place_type q)) 0 (place_at q).span (pointer_to target) (place_at r).span (pointer_to source) frame w e)))
    execute_in_frame (statement at (asserts call v)) frame w e = holds_step Fine w _ (λ left _. holds_after Fine (evaluate s frame.held v (record w { left = left })) _ (λ x w. holds_after Fine (asserted call.span x w) _ (λ none w. e)))
    execute_in_frame (statement at (expression v)) frame w e = holds_step Fine w _ (λ left _. holds_after Fine (discard s frame.held v (record w { left = left })) _ (λ x w. e))
    execute_in_frame (statement at (if_then v x)) frame w e = holds_step Fine w _ (λ left _. holds_after Fine (evaluate s frame.held v (record w { left = left })) _ (λ y w. holds_if Fine (is_true y) _ _ (λ _. execute_in_frame x frame w e) (λ _. e)))
    execute_in_frame (statement at (if_else v x z)) frame w e =
        holds_step Fine w _ (λ left _. holds_after Fine (evaluate s frame.held v (record w { left = left })) _ (λ y w. holds_if Fine (is_true y) _ _ (λ _. execute_in_frame x frame w e) (λ _. execute_in_frame z frame w e)))
    execute_in_frame (statement at (loop head first tested third body)) frame w e =
        holds_step Fine w _ (λ left _. block_keeps (looped s head.keyword first tested third body) (λ frame w e.
        holds_then Fine Fine (execute_from s 0 first frame w) _ (from_in_frame 0 first frame w e) (λ d w e.
        go_keeps (λ frame w. loop_by head.keyword s.turns (λ frame w. test s tested frame w) (round s third body) frame w)
        (loop_keeps head.keyword s.turns (λ frame w. test s tested frame w) (round s third body)
        (λ frame w e. holds_then Fine Fine (execute s body frame w) _ (execute_in_frame body frame w e) (λ d w e.
        third_keeps (λ frame w. execute_from s 0 third frame w) (from_in_frame 0 third) d w e)))
        d w e)) frame (record w { left = left }) e)
    execute_in_frame (statement at (switch keyword v labels body)) frame w e =
        holds_step Fine w _ (λ left _. holds_after Fine (evaluate s frame.held v (record w { left = left })) _ (λ x w.
        holds_then Fine Fine (enter s (labelled (number_of x) labels.cases labels.otherwise) body frame w) after_switch (enter_in_frame (labelled (number_of x) labels.cases labels.otherwise) body frame w e) (λ d w e. e)))
    execute_in_frame (statement at (return keyword None)) frame w e = holds_step Fine w _ (λ left _. e)
    execute_in_frame (statement at (return keyword (Some v))) frame w e = holds_step Fine w _ (λ left _. holds_after Fine (evaluate s frame.held v (record w { left = left })) _ (λ x w. e))
    execute_in_frame (statement at break) frame w e = holds_step Fine w _ (λ left _. e)
    execute_in_frame (statement at continue) frame w e = holds_step Fine w _ (λ left _. e)
    execute_in_frame (statement at empty) frame w e = holds_step Fine w _ (λ left _. e)
    execute_in_frame (statement at (block xs)) frame w e = block_keeps (λ frame w. execute_from s 0 xs frame w) (from_in_frame 0 xs) frame w e
    execute_in_frame (statement at (declare_static k)) frame w e = e
    execute_in_frame (statement at (mark InitDone)) frame w e = e
    execute_in_frame (statement at (mark TaskLoop)) frame w e = e

    pub from_in_frame : (k : ℕ) (xs : PlainStatements) → RunKeeps (execute_from s k xs)
    from_in_frame k no_statements frame w e = e
    from_in_frame zero (more_statements x rest) frame w e =
        holds_then Fine Fine (execute s x frame w) _ (execute_in_frame x frame w e) (λ d w e. go_keeps (λ frame w. execute_from s zero rest frame w) (from_in_frame zero rest) d w e)
    from_in_frame (suc k) (more_statements x rest) frame w e = from_in_frame k rest frame w e

    enter_in_frame : (k : Option ℕ) (x : PlainStatement) → RunKeeps (enter s k x)
    enter_in_frame k (statement at (block xs)) frame w e = label_keeps k (λ k frame w. execute_from s k xs frame w) (λ k. from_in_frame k xs) frame w e
    enter_in_frame k (statement at form) frame w e = e
