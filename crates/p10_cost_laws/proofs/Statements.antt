-- Straight-line statements take exactly what they cost, and execution goes on after them.
use Rattle.std.proofs.Common.{◌≡◌, ℕ, zero, suc, ◌+◌, Bool, true, false, List, [], ◌∷◌, length, refl, ◌∙◌, sym, ap, subst, arith, Option, Some, None, Result, slice_get}
use Rattle.std.specs.Prelude.{slice_set, if◌then◌else◌}
use Rattle.p10_base.specs.declared.span.Span.{Span}
use Rattle.p10_base.specs.declared.at.At.{At}
use Rattle.p10_core.specs.declared.statements.MarkKind.TheVariants.{InitDone, TaskLoop}
use Rattle.p10_core.specs.Types.{PlainType}
use Rattle.p10_core.specs.Typed.{PlainPlace, place_at, place_type, PlainWritten, one_scalar, scalars_of_text, PlainItem, PlainInitializer, not_initialized, single, copied, listed, PlainStatement, statement, PlainStatementForm, set, update, copy, evaluate as expression, asserts, declare, declare_static, block, if_then, if_else, loop, switch, break, continue, return, empty, mark, PlainStatements, no_statements, more_statements, PlainVariable}
use Rattle.p10_cert.specs.Claims.{Func, Loop}
use Rattle.p10_meaning.specs.declared.pointers.Ptr.{Ptr}
use Rattle.p10_meaning.specs.declared.pointers.Scalar.{Scalar}
use Rattle.p10_meaning.specs.declared.pointers.Cell.{Cell}
use Rattle.p10_meaning.specs.Pointers.{unset, holding, first_of}
use Rattle.p10_meaning.specs.Objects.{declared, write_at}
use Rattle.p10_meaning.specs.States.{State, Progress}
use Rattle.p10_meaning.specs.Scalars.{converted_to, operated, unset_cells}
use Rattle.p10_meaning.specs.Values.{Setting, holds, stands, scalars, width, open_object, Target, Variable, Sensor, Element, pointer_to, read_target, asserted, evaluate, discard, locate}
use Rattle.p10_meaning.specs.Statements.{Frame, Flow, normal, Done, goes, go_on, holding_at, in_block, leave_block, write_target, part_of, write_part, copy_scalars, text_scalars, written_scalars, listed_scalars, listed_scalar, fill, initialize, declare_variable, execute, execute_form, execute_from}
use Rattle.p10_sums.specs.Counting.{Counting}
use Rattle.p10_sums.specs.Costs.{value_cost, place_cost, written_cost, items_cost, variable_width, initializer_cost, statement_cost, statement_form_cost, statements_cost}
use Rattle.p10_sums.specs.Laws.{counting_in}
use Rattle.p10_cost_laws.specs.Exactly.{IsStraightWritten, AreStraightItems, IsStraightInitializer, IsStraightStatement, IsStraightStatementForm, AreStraightStatements, Exactly, Anything, GoesOn, StatementsTakeTheirCost}
use Rattle.p10_cost_laws.proofs.Taking.{stays, exact_same, exact_from, exact_step, exact_then, exact_or, exact_if, exact_on, exact_after}
use Rattle.p10_cost_laws.proofs.Values.{target_exact, asserted_exact, value_exact, discard_exact, place_exact}

-- ## Writing

goes_exact : (from : State) (frame : Frame) (w : State) → w.left ≡ from.left → Exactly GoesOn 0 from (goes frame w)
goes_exact from frame w e = (stays _ ∙ e, refl)

write_exact : (span : Span) (target : Target) (cell : Cell) (frame : Frame) (w : State) → Exactly GoesOn 0 w (write_target span target cell frame w)
write_exact span (Variable k) cell frame w = goes_exact w (holding_at frame k (holds cell)) w refl
write_exact span Sensor cell frame w = goes_exact w frame w refl
write_exact span (Element q) cell frame w = exact_or GoesOn 0 w (write_at w.objects q cell) span w _ (λ objects. goes_exact w frame (record w { objects = objects }) refl)

one_more : (n : ℕ) → 1 + n ≡ suc n
one_more n = omega arith

copy_exact : (m i : ℕ) (to_span : Span) (to : Ptr) (from_span : Span) (from : Ptr) (frame : Frame) (w : State) → Exactly GoesOn m w (copy_scalars m i to_span to from_span from frame w)
copy_exact zero i to_span to from_span from frame w = goes_exact w frame w refl
copy_exact (suc m) i to_span to from_span from frame w = exact_same GoesOn (1 + m) (suc m) w _ (one_more m) (exact_step GoesOn m w _ (λ left.
    exact_or GoesOn m (record w { left = left }) (part_of w.objects from i) from_span (record w { left = left }) _ (λ cell.
    exact_or GoesOn m (record w { left = left }) (write_part w.objects to i cell) to_span (record w { left = left }) _ (λ objects.
    exact_from GoesOn m (record w { left = left; objects = objects }) (record w { left = left }) _ refl (copy_exact m (suc i) to_span to from_span from frame (record w { left = left; objects = objects }))))))

fill_exact : (span : Span) (xs : List (ℕ × Scalar)) (ts : List PlainType) (i : ℕ) (q : Ptr) (frame : Frame) (w : State) → Exactly GoesOn (length ts) w (fill span xs ts i q frame w)
fill_exact span xs [] i q frame w = goes_exact w frame w refl
fill_exact span xs (t ∷ ts) i q frame w = exact_same GoesOn (1 + length ts) (length (t ∷ ts)) w _ (omega arith) (exact_step GoesOn (length ts) w _ (λ left.
    exact_or GoesOn (length ts) (record w { left = left }) (write_part w.objects q i (holding (listed_scalar i t xs))) span (record w { left = left }) _ (λ objects.
    exact_from GoesOn (length ts) (record w { left = left; objects = objects }) (record w { left = left }) _ refl (fill_exact span xs ts (suc i) q frame (record w { left = left; objects = objects })))))

-- ## Statements

module _ (s : Setting) (functions : List Func) (loops : List Loop) where
  abbrev c : Counting
  c = counting_in s functions loops

  items_exact : (items : List PlainItem) → AreStraightItems items → (frame : Frame) (w : State) → Exactly Anything (items_cost c items) w (listed_scalars s frame.held items w)
  items_exact [] h frame w = (stays _, tt)
  items_exact (item ∷ items) h frame w =
      exact_then Anything Anything (written_cost c item.written) (items_cost c items) w (written_scalars s frame.held item.scalar item.written w) _ (written_exact item.scalar item.written h.0) (λ xs u _.
      exact_on Anything Anything (items_cost c items) u (listed_scalars s frame.held items u) _ (items_exact items h.1 frame u) (λ ys v _. (stays _, tt)))
    where
      written_exact : (i : ℕ) (written : PlainWritten) → IsStraightWritten written → Exactly Anything (written_cost c written) w (written_scalars s frame.held i written w)
      written_exact i (one_scalar v) h = exact_on Anything Anything (value_cost c v) w (evaluate s frame.held v w) _ (value_exact s functions loops frame.held v h w) (λ x u _. (stays _, tt))
      written_exact i (scalars_of_text bytes) h = (stays _, tt)

  initialize_exact : (span : Span) (t : PlainType) (target : Target) (initializer : PlainInitializer) → IsStraightInitializer initializer → (frame : Frame) (w : State) →
      Exactly GoesOn (initializer_cost c (width s.program t) initializer) w (initialize s span t target initializer frame w)
  initialize_exact span t target not_initialized h frame w = goes_exact w frame w refl
  initialize_exact span t target (single v) h frame w =
      exact_on Anything GoesOn (value_cost c v) w (evaluate s frame.held v w) _ (value_exact s functions loops frame.held v h w) (λ x u _. write_exact span target (holding x) frame u)
  initialize_exact span t target (copied q) h frame w = exact_step GoesOn (place_cost c q + width s.program t) w _ (λ left.
      exact_then Anything GoesOn (place_cost c q) (width s.program t) (record w { left = left }) (locate s frame.held q (record w { left = left })) _ (place_exact s functions loops frame.held q h (record w { left = left })) (λ source u _.
      copy_exact (width s.program t) 0 span (pointer_to target) (place_at q).span (pointer_to source) frame u))
  initialize_exact span t target (listed at items) h frame w =
      exact_then Anything GoesOn (items_cost c items) (width s.program t) w (listed_scalars s frame.held items w) _ (items_exact items h frame w) (λ xs u _. fill_exact span xs (scalars s.program t) 0 (pointer_to target) frame u)

  declare_exact : (span : Span) (n : ℕ) (v : PlainVariable) (initializer : PlainInitializer) → IsStraightInitializer initializer → (frame : Frame) (w : State) →
      Exactly GoesOn (initializer_cost c (width s.program v.type) initializer) w (declare_variable s span n (Some v) initializer frame w)
  declare_exact span n v initializer h frame w =
      exact_if GoesOn (initializer_cost c (width s.program v.type) initializer) w v.frame _ _
      (initialize_exact span v.type (Variable n) initializer h (holding_at frame n (holds unset)) w)
      (exact_from GoesOn (initializer_cost c (width s.program v.type) initializer) (open_object declared (unset_cells (scalars s.program v.type)) w) w _ refl
      (initialize_exact span v.type (Element (first_of w.opened (width s.program v.type) 1)) initializer h (record { held = slice_set frame.held n (stands w.opened); opened = w.opened ∷ frame.opened })
      (open_object declared (unset_cells (scalars s.program v.type)) w)))

  block_exact : (n : ℕ) (run : Frame → State → Progress Done) → ((frame : Frame) (w : State) → Exactly GoesOn n w (run frame w)) → (frame : Frame) (w : State) → Exactly GoesOn n w (in_block run frame w)
  block_exact n run h frame w =
      exact_on GoesOn GoesOn n w (run (record frame { opened = [] }) w) _ (h (record frame { opened = [] }) w) (λ d u g. (stays _, g))

  -- what comes after a statement after which execution goes on
  after_exact : (n : ℕ) (rest : Frame → State → Progress Done) → ((frame : Frame) (w : State) → Exactly GoesOn n w (rest frame w)) → (d : Done) (w : State) → GoesOn d → Exactly GoesOn n w (go_on d.flow d.frame w rest)
  after_exact n rest h d w g = subst (λ (flow : Flow). Exactly GoesOn n w (go_on flow d.frame w rest)) (sym g) (h d.frame w)

  mutual
    pub execute_exact : (x : PlainStatement) → IsStraightStatement s.variables x → (frame : Frame) (w : State) → Exactly GoesOn (statement_cost c x) w (execute s x frame w)
    execute_exact (statement at form) i frame w = form_exact at form i frame w

    form_exact : (at : At) (form : PlainStatementForm) → IsStraightStatementForm s.variables form → (frame : Frame) (w : State) → Exactly GoesOn (statement_form_cost c form) w (execute_form s at form frame w)
    form_exact at (set q v) i frame w = exact_step GoesOn (place_cost c q + value_cost c v) w _ (λ left.
        exact_then Anything GoesOn (place_cost c q) (value_cost c v) (record w { left = left }) (locate s frame.held q (record w { left = left })) _ (place_exact s functions loops frame.held q i.0 (record w { left = left })) (λ target u _.
        exact_on Anything GoesOn (value_cost c v) u (evaluate s frame.held v u) _ (value_exact s functions loops frame.held v i.1 u) (λ x u _. write_exact (place_at q).span target (holding x) frame u)))
    form_exact at (update kind op t q v) i frame w = exact_step GoesOn (place_cost c q + (1 + (value_cost c v + 1))) w _ (λ left.
        exact_then Anything GoesOn (place_cost c q) (1 + (value_cost c v + 1)) (record w { left = left }) (locate s frame.held q (record w { left = left })) _ (place_exact s functions loops frame.held q i.0 (record w { left = left })) (λ target w _.
        exact_step GoesOn (value_cost c v + 1) w _ (λ left.
        exact_after Anything GoesOn (value_cost c v + 1) (record w { left = left }) (read_target (place_at q).span (place_type q) frame.held target (record w { left = left })) _
        (target_exact (place_at q).span (place_type q) frame.held target (record w { left = left })) (λ x w _.
        exact_then Anything GoesOn (value_cost c v) 1 w (evaluate s frame.held v w) _ (value_exact s functions loops frame.held v i.1 w) (λ y w _.
        exact_step GoesOn 0 w _ (λ left.
        exact_or GoesOn 0 (record w { left = left }) (operated op t w.objects (converted_to t x) y) at.span (record w { left = left }) _ (λ z.
        write_exact (place_at q).span target (holding (converted_to (place_type q) z)) frame (record w { left = left }))))))))
    form_exact at (copy q r) i frame w = exact_step GoesOn (place_cost c q + (place_cost c r + width s.program (place_type q))) w _ (λ left.
        exact_then Anything GoesOn (place_cost c q) (place_cost c r + width s.program (place_type q)) (record w { left = left }) (locate s frame.held q (record w { left = left })) _ (place_exact s functions loops frame.held q i.0 (record w { left = left })) (λ target w _.
        exact_then Anything GoesOn (place_cost c r) (width s.program (place_type q)) w (locate s frame.held r w) _ (place_exact s functions loops frame.held r i.1 w) (λ source w _.
        copy_exact (width s.program (place_type q)) 0 (place_at q).span (pointer_to target) (place_at r).span (pointer_to source) frame w)))
    form_exact at (expression v) i frame w = exact_step GoesOn (value_cost c v) w _ (λ left.
        exact_on Anything GoesOn (value_cost c v) (record w { left = left }) (discard s frame.held v (record w { left = left })) _ (discard_exact s functions loops frame.held v i (record w { left = left })) (λ x u _. goes_exact u frame u refl))
    form_exact at (asserts call v) i frame w = exact_step GoesOn (value_cost c v) w _ (λ left.
        exact_on Anything GoesOn (value_cost c v) (record w { left = left }) (evaluate s frame.held v (record w { left = left })) _ (value_exact s functions loops frame.held v i (record w { left = left })) (λ x u _.
        exact_on Anything GoesOn 0 u (asserted call.span x u) _ (asserted_exact call.span x u) (λ none v _. goes_exact v frame v refl)))
    form_exact at (declare n initializer) i frame w = exact_step GoesOn (initializer_cost c (variable_width c (slice_get s.variables n)) initializer) w _ (λ left.
        subst (λ (o : Option PlainVariable). Exactly GoesOn (initializer_cost c (variable_width c o) initializer) (record w { left = left }) (declare_variable s at.span n o initializer frame (record w { left = left }))) (sym i.0.1)
        (declare_exact at.span n i.0.0 initializer i.1 frame (record w { left = left })))
    form_exact at (declare_static n) i frame w = goes_exact w frame w refl
    form_exact at (block xs) i frame w = block_exact (statements_cost c xs) (λ frame w. execute_from s 0 xs frame w) (λ frame w. from_exact xs i frame w) frame w
    form_exact at empty i frame w = exact_step GoesOn 0 w _ (λ left. goes_exact (record w { left = left }) frame (record w { left = left }) refl)
    form_exact at (mark InitDone) i frame w = goes_exact w frame (record w { marked = true }) refl
    form_exact at (mark TaskLoop) i frame w = goes_exact w frame w refl
    form_exact at (if_then v x) i frame w = absurd i
    form_exact at (if_else v x y) i frame w = absurd i
    form_exact at (loop head first tested third body) i frame w = absurd i
    form_exact at (switch keyword v labels body) i frame w = absurd i
    form_exact at break i frame w = absurd i
    form_exact at continue i frame w = absurd i
    form_exact at (return keyword v) i frame w = absurd i

    from_exact : (xs : PlainStatements) → AreStraightStatements s.variables xs → (frame : Frame) (w : State) → Exactly GoesOn (statements_cost c xs) w (execute_from s 0 xs frame w)
    from_exact no_statements i frame w = goes_exact w frame w refl
    from_exact (more_statements x rest) i frame w =
        exact_then GoesOn GoesOn (statement_cost c x) (statements_cost c rest) w (execute s x frame w) _ (execute_exact x i.0 frame w) (λ d u g.
        after_exact (statements_cost c rest) (λ frame w. execute_from s 0 rest frame w) (λ frame w. from_exact rest i.1 frame w) d u g)

pub statements_take_their_cost : StatementsTakeTheirCost
statements_take_their_cost s functions loops x frame w i = execute_exact s functions loops x i frame w
