-- Statements and calls take at most what they cost, by induction on statements.
use Rattle.std.proofs.Common.{◌≡◌, ℕ, zero, suc, ◌+◌, ◌*◌, ◌<◌, ◌≤◌, max, cond, Bool, true, false, List, [], ◌∷◌, ◌++◌, refl, sym, subst, arith, length, Option, Some, None, slice_get}
use Rattle.std.specs.Prelude.{slice_set}
use Rattle.p10_base.specs.declared.span.Span.{Span}
use Rattle.p10_core.specs.declared.statements.LoopKeyword.{LoopKeyword}
use Rattle.p10_core.specs.declared.statements.LoopKeyword.TheVariants.{While, Do, For}
use Rattle.p10_core.specs.declared.statements.MarkKind.TheVariants.{InitDone, TaskLoop}
use Rattle.p10_core.specs.Types.{PlainType}
use Rattle.p10_core.specs.Typed.{PlainValue, place_at, place_type, PlainWritten, one_scalar, scalars_of_text, PlainItem, PlainInitializer, not_initialized, single, copied, listed, PlainStatement, statement, set, update, copy, evaluate as expression, asserts, declare, declare_static, block, if_then, if_else, loop, switch, break, continue, return, empty, mark, PlainStatements, no_statements, more_statements, PlainVariable, PlainFunction, PlainProgram}
use Rattle.p10_core.specs.Nodes.{PlainNode, nodes_of_value, nodes_of_place, nodes_of_maybe, nodes_of_written, nodes_of_items, nodes_of_initializer, in_loop_order, nodes_of_statement, nodes_of_statements}
use Rattle.p10_core.specs.WholePrograms.{frame_bytes}
use Rattle.p10_cert.specs.Claims.{Func, Loop}
use Rattle.p10_meaning.specs.declared.pointers.Ptr.{Ptr}
use Rattle.p10_meaning.specs.declared.pointers.Scalar.{Scalar}
use Rattle.p10_meaning.specs.declared.pointers.Cell.{Cell}
use Rattle.p10_meaning.specs.Pointers.{unset, holding, first_of}
use Rattle.p10_meaning.specs.Objects.{declared, write_at}
use Rattle.p10_meaning.specs.States.{State, Progress, step}
use Rattle.p10_meaning.specs.Scalars.{number_of, is_true, converted_to, operated, unset_cells}
use Rattle.p10_meaning.specs.Values.{Setting, Held, holds, stands, scalars, width, open_object, Target, Variable, Sensor, Element, pointer_to, read_target, asserted, evaluate, discard, locate}
use Rattle.p10_meaning.specs.Statements.{Frame, Done, go_on, holding_at, write_target, part_of, write_part, copy_scalars, written_scalars, listed_scalars, listed_scalar, fill, initialize, declare_variable, test, turns, loop_by, before_third, labelled, execute, execute_from, enter, round, looped}
use Rattle.p10_meaning.specs.Calling.{Depth, deeper, raised, Entered, with_variable, entered, setting_of, enter_call, call_at}
use Rattle.p10_meaning.proofs.AgreeingCalls.{loops_have_no_bound}
use Rattle.p10_sums.specs.Counting.{Counting, turns_claimed, counting_of}
use Rattle.p10_sums.specs.Costs.{value_cost, place_cost, written_cost, items_cost, variable_width, initializer_cost, test_cost, loop_cost, statement_cost, statements_cost, cost_of}
use Rattle.p10_sums.specs.Depths.{depth_of, effect_of}
use Rattle.p10_sums.specs.Keeping.{OnGives, OnBack, TurnsKeep, DoKeeps, LoopKeeps, WrittenKeeps, ItemsKeep, InitializerKeeps, DeclarationKeeps, TestKeeps, StatementKeeps, StatementsKeep, EnteredKeeps}
use Rattle.p10_sums.specs.Laws.{Spends, Takes, counting_in, CallKeeps, ValuesTakeWhatTheyCost, StatementsTakeWhatTheyCost, CallsTakeWhatTheyCost}
use Rattle.p10_sums.proofs.Covering.{Bounds, Covers, covers_left, covers_right}
use Rattle.p10_sums.proofs.Spending.{Same, takes_from, takes_more, takes_here, takes_changed, takes_step, takes_plain, takes_then, takes_after, takes_last, takes_or, takes_if}
use Rattle.p10_sums.proofs.SpendingValues.{same, le_max_left, le_max_right, read_takes, asserted_takes, value_takes, discard_takes, place_takes}
use Rattle.p10_sums.proofs.SpendingLoops.{turn_steps_are, lower, lower_step, go_takes, third_takes, next_takes, block_takes, turns_take}

suc_more : (n : ℕ) → 1 + n ≤ suc n
suc_more n = omega arith

at_most : (n : ℕ) → n ≤ n
at_most n = omega arith

-- ## Writing

module _ (C B : ℕ) (A : Bool) where
  write_takes : (span : Span) (target : Target) (cell : Cell) (frame : Frame) (w : State) → Takes 0 C B A w (write_target span target cell frame w)
  write_takes span (Variable n) cell frame w = takes_here C B A 0 _ w w (same w)
  write_takes span Sensor cell frame w = takes_here C B A 0 _ w w (same w)
  write_takes span (Element q) cell frame w = takes_or C B A 0 (write_at w.objects q cell) span w _ (λ objects. takes_here C B A 0 _ w (record w { objects = objects }) (record { left = refl; calls = refl; bytes = refl; counted = refl }))

  copy_takes : (n i : ℕ) (to_span : Span) (to : Ptr) (from_span : Span) (from : Ptr) (frame : Frame) (w : State) → Takes n C B A w (copy_scalars n i to_span to from_span from frame w)
  copy_takes zero i to_span to from_span from frame w = takes_here C B A 0 _ w w (same w)
  copy_takes (suc n) i to_span to from_span from frame w = takes_more C B A (1 + n) (suc n) w _ (suc_more n) (takes_plain C B A n w _ (λ v l.
      takes_or C B A n (part_of v.objects from i) from_span v _ (λ cell. takes_or C B A n (write_part v.objects to i cell) to_span v _ (λ objects.
      takes_changed C B A n v (record v { objects = objects }) _ (record { left = refl; calls = refl; bytes = refl; counted = refl }) (copy_takes n (suc i) to_span to from_span from frame (record v { objects = objects }))))))

  fill_takes : (span : Span) (xs : List (ℕ × Scalar)) (types : List PlainType) (i : ℕ) (q : Ptr) (frame : Frame) (w : State) → Takes (length types) C B A w (fill span xs types i q frame w)
  fill_takes span xs [] i q frame w = takes_here C B A 0 _ w w (same w)
  fill_takes span xs (t ∷ types) i q frame w = takes_more C B A (1 + length types) (suc (length types)) w _ (suc_more (length types)) (takes_plain C B A (length types) w _ (λ v l.
      takes_or C B A (length types) (write_part v.objects q i (holding (listed_scalar i t xs))) span v _ (λ objects.
      takes_changed C B A (length types) v (record v { objects = objects }) _ (record { left = refl; calls = refl; bytes = refl; counted = refl }) (fill_takes span xs types (suc i) q frame (record v { objects = objects })))))

-- ## Initialisers and tests, in any setting

module _ (s : Setting) (functions : List Func) (loops : List Loop) (depth : Depth) (C B : ℕ) (A : Bool) where
  abbrev c : Counting
  c = counting_in s functions loops

  abbrev K : ℕ → List Scalar → State → Type 0
  K = CallKeeps s functions depth

  written_takes : (held : List Held) (i : ℕ) (x : PlainWritten) (w : State) → Covers functions depth C B A (nodes_of_written x) → WrittenKeeps s K held x w → Takes (written_cost c x) C B A w (written_scalars s held i x w)
  written_takes held i (one_scalar v) w b k = takes_last C B A (value_cost c v) w (evaluate s held v w) _ (value_takes s functions loops depth held C B A v w b k) (λ x u. takes_here C B A 0 _ u u (same u))
  written_takes held i (scalars_of_text bytes) w b k = takes_here C B A 0 _ w w (same w)

  items_take : (held : List Held) (items : List PlainItem) (w : State) → Covers functions depth C B A (nodes_of_items items) → ItemsKeep s K held items w → Takes (items_cost c items) C B A w (listed_scalars s held items w)
  items_take held [] w b k = takes_here C B A 0 _ w w (same w)
  items_take held (x ∷ items) w b k =
      takes_then C B A (written_cost c x.written) (items_cost c items) w (written_scalars s held x.scalar x.written w) _ _
      (written_takes held x.scalar x.written w (covers_left functions depth C B A (nodes_of_written x.written) (nodes_of_items items) b) k.0) k.1 (λ xs u l h.
      takes_last C B A (items_cost c items) u (listed_scalars s held items u) _ (items_take held items u (covers_right functions depth C B A (nodes_of_written x.written) (nodes_of_items items) b) h) (λ ys u. takes_here C B A 0 _ u u (same u)))

  initialize_takes : (span : Span) (t : PlainType) (target : Target) (i : PlainInitializer) (frame : Frame) (w : State) → Covers functions depth C B A (nodes_of_initializer i) → InitializerKeeps s K frame.held i w →
      Takes (initializer_cost c (width s.program t) i) C B A w (initialize s span t target i frame w)
  initialize_takes span t target not_initialized frame w b k = takes_here C B A 0 _ w w (same w)
  initialize_takes span t target (single v) frame w b k = takes_last C B A (value_cost c v) w (evaluate s frame.held v w) _ (value_takes s functions loops depth frame.held C B A v w b k) (λ x u. write_takes C B A span target (holding x) frame u)
  initialize_takes span t target (copied p) frame w b k = takes_step C B A (place_cost c p + width s.program t) w _ _ k (λ v l h.
      takes_after C B A (place_cost c p) (width s.program t) v (locate s frame.held p v) _ (place_takes s functions loops depth frame.held C B A p v b h)
      (λ source u d. copy_takes C B A (width s.program t) 0 span (pointer_to target) (place_at p).span (pointer_to source) frame u))
  initialize_takes span t target (listed at items) frame w b k =
      takes_after C B A (items_cost c items) (width s.program t) w (listed_scalars s frame.held items w) _ (items_take frame.held items w b k)
      (λ xs u d. fill_takes C B A span xs (scalars s.program t) 0 (pointer_to target) frame u)

  declare_takes : (span : Span) (n : ℕ) (v : Option PlainVariable) (i : PlainInitializer) (frame : Frame) (w : State) → Covers functions depth C B A (nodes_of_initializer i) → DeclarationKeeps s K n v i frame w →
      Takes (initializer_cost c (variable_width c v) i) C B A w (declare_variable s span n v i frame w)
  declare_takes span n None i frame w b k = takes_here C B A (initializer_cost c 0 i) _ w w (same w)
  declare_takes span n (Some v) i frame w b k = takes_if C B A (initializer_cost c (width s.program v.type) i) w v.frame _ _
      (λ e. initialize_takes span v.type (Variable n) i (holding_at frame n (holds unset)) w b (k.0 e))
      (λ e. takes_changed C B A (initializer_cost c (width s.program v.type) i) w (open_object declared (unset_cells (scalars s.program v.type)) w) _ (record { left = refl; calls = refl; bytes = refl; counted = refl })
      (initialize_takes span v.type (Element (first_of w.opened (width s.program v.type) 1)) i (record { held = slice_set frame.held n (stands w.opened); opened = w.opened ∷ frame.opened })
      (open_object declared (unset_cells (scalars s.program v.type)) w) b (k.1 e)))

  pub test_takes : (tested : Option PlainValue) (frame : Frame) (w : State) → Covers functions depth C B A (nodes_of_maybe tested) → TestKeeps s K tested frame w → Takes (test_cost c tested) C B A w (test s tested frame w)
  test_takes None frame w b k = takes_plain C B A 0 w _ (λ v l. takes_here C B A 0 _ v v (same v))
  test_takes (Some v) frame w b k = takes_last C B A (value_cost c v) w (evaluate s frame.held v w) _ (value_takes s functions loops depth frame.held C B A v w b k) (λ x u. takes_here C B A 0 _ u u (same u))

-- the parts of a loop are covered where it is
pub record CoversLoop (functions : List Func) (depth : Depth) (C B : ℕ) (A : Bool) (fs ts hs bs : List PlainNode) : Type 0 where
  pub first : Covers functions depth C B A fs
  pub test : Covers functions depth C B A ts
  pub third : Covers functions depth C B A hs
  pub body : Covers functions depth C B A bs

pub covers_loop : (functions : List Func) (depth : Depth) (C B : ℕ) (A : Bool) (keyword : LoopKeyword) (fs ts hs bs : List PlainNode) → Covers functions depth C B A (in_loop_order keyword fs ts hs bs) → CoversLoop functions depth C B A fs ts hs bs
covers_loop functions depth C B A While fs ts hs bs h =
    let a = covers_right functions depth C B A fs (ts ++ (hs ++ bs)) h in
    let d = covers_right functions depth C B A ts (hs ++ bs) a in
    record { first = covers_left functions depth C B A fs (ts ++ (hs ++ bs)) h; test = covers_left functions depth C B A ts (hs ++ bs) a; third = covers_left functions depth C B A hs bs d; body = covers_right functions depth C B A hs bs d }
covers_loop functions depth C B A For fs ts hs bs h =
    let a = covers_right functions depth C B A fs (ts ++ (hs ++ bs)) h in
    let d = covers_right functions depth C B A ts (hs ++ bs) a in
    record { first = covers_left functions depth C B A fs (ts ++ (hs ++ bs)) h; test = covers_left functions depth C B A ts (hs ++ bs) a; third = covers_left functions depth C B A hs bs d; body = covers_right functions depth C B A hs bs d }
covers_loop functions depth C B A Do fs ts hs bs h =
    let a = covers_right functions depth C B A fs (bs ++ (ts ++ hs)) h in
    let d = covers_right functions depth C B A bs (ts ++ hs) a in
    record { first = covers_left functions depth C B A fs (bs ++ (ts ++ hs)) h; test = covers_left functions depth C B A ts hs d; third = covers_right functions depth C B A ts hs d; body = covers_left functions depth C B A bs (ts ++ hs) a }

-- the steps of a loop after its first clause
abbrev turned_cost : LoopKeyword → ℕ → ℕ → ℕ → ℕ → ℕ
turned_cost While n t h b = (n + 1) * t + n * (b + h)
turned_cost For n t h b = (n + 1) * t + n * (b + h)
turned_cost Do n t h b = n * (b + (h + t))

loop_whole : (keyword : LoopKeyword) (n f t h b : ℕ) → 1 + (f + turned_cost keyword n t h b) ≤ loop_cost keyword n f t h b
loop_whole While n f t h b = at_most (1 + (f + ((n + 1) * t + n * (b + h))))
loop_whole For n f t h b = at_most (1 + (f + ((n + 1) * t + n * (b + h))))
loop_whole Do n f t h b = at_most (1 + (f + n * (b + (h + t))))

-- ## Statements of a function

module _ (p : PlainProgram) (functions : List Func) (loops : List Loop) (n : ℕ) (depth : Depth) (f : PlainFunction) (C B : ℕ) (A : Bool) where
  abbrev s : Setting
  s = setting_of p n (call_at n p) depth f

  abbrev d : Counting
  d = counting_in s functions loops

  abbrev L : ℕ → List Scalar → State → Type 0
  L = CallKeeps s functions depth

  -- what a round of a loop keeps
  abbrev RoundKept : PlainStatements → PlainStatement → Frame → State → Type 0
  RoundKept third body frame w = StatementKeeps d s L body frame w × OnGives (λ (done : Done) w. OnBack done.flow (StatementsKeep d s L 0 third done.frame w)) (execute s body frame w)

  none_first : (a : ℕ) → 0 + a ≤ a
  none_first a = omega arith

  last_in : (a b : ℕ) → b ≤ a + b
  last_in a b = omega arith

  -- a loop that enters its body at most as often as is claimed
  module _ (tested : Option PlainValue) (third : PlainStatements) (body : PlainStatement) (RoundKeeps : Frame → State → Type 0)
      (covered : Covers functions depth C B A (nodes_of_maybe tested))
      (round_takes : (frame : Frame) (w : State) → w.left ≤ n → RoundKeeps frame w → Takes (statement_cost d body + statements_cost d third) C B A w (round s third body frame w)) where
    turning_takes : (m : ℕ) (frame : Frame) (w : State) → w.left ≤ n → TurnsKeep m (test s tested) (round s third body) (TestKeeps s L tested) RoundKeeps frame w →
        Takes ((m + 1) * test_cost d tested + m * (statement_cost d body + statements_cost d third)) C B A w (turns n (test s tested) (round s third body) frame w)
    turning_takes m frame w l k =
        let P : Progress Done → Type 0 = λ o. Takes ((m + 1) * test_cost d tested + m * (statement_cost d body + statements_cost d third)) C B A w o in
        subst P (sym (loops_have_no_bound p depth f tested third body frame w n n n (n + suc m) l l l (wide w.left n m l)))
        (subst (λ z. Takes z C B A w (turns (n + suc m) (test s tested) (round s third body) frame w)) (turn_steps_are m (test_cost d tested) (statement_cost d body + statements_cost d third))
        (turns_take C B A n (test_cost d tested) (statement_cost d body + statements_cost d third) (test s tested) (round s third body) (TestKeeps s L tested) RoundKeeps
        (λ frame w l k. test_takes s functions loops depth C B A tested frame w covered k) round_takes m (n + suc m) frame w (less m n) l k))
      where
        wide : (a n m : ℕ) → a ≤ n → a ≤ n + suc m
        wide a n m h = omega (arith, h)

        less : (m n : ℕ) → m < n + suc m
        less m n = omega arith

    doing_takes : (m : ℕ) (frame : Frame) (w : State) → w.left ≤ n → DoKeeps m (test s tested) (round s third body) (TestKeeps s L tested) RoundKeeps frame w →
        Takes (m * (statement_cost d body + (statements_cost d third + test_cost d tested))) C B A w (loop_by Do n (test s tested) (round s third body) frame w)
    doing_takes zero frame w l k = absurd k
    doing_takes (suc m) frame w l k =
        takes_more C B A ((statement_cost d body + statements_cost d third) + ((m + 1) * test_cost d tested + m * (statement_cost d body + statements_cost d third)))
        (suc m * (statement_cost d body + (statements_cost d third + test_cost d tested))) w _ (enough (statement_cost d body) (statements_cost d third) (test_cost d tested) m)
        (takes_then C B A (statement_cost d body + statements_cost d third) ((m + 1) * test_cost d tested + m * (statement_cost d body + statements_cost d third)) w (round s third body frame w) _ _ (round_takes frame w l k.0) k.1 (λ done v e x.
        next_takes C B A ((m + 1) * test_cost d tested + m * (statement_cost d body + statements_cost d third)) done.flow done.frame v
        (TurnsKeep m (test s tested) (round s third body) (TestKeeps s L tested) RoundKeeps done.frame v) (turns n (test s tested) (round s third body)) x (λ y. turning_takes m done.frame v (lower v.left w.left n e l) y)))
      where
        enough : (b h t m : ℕ) → (b + h) + ((m + 1) * t + m * (b + h)) ≤ suc m * (b + (h + t))
        enough b h t m = omega arith

    looping_takes : (keyword : LoopKeyword) (m : ℕ) (frame : Frame) (w : State) → w.left ≤ n → LoopKeeps keyword m (test s tested) (round s third body) (TestKeeps s L tested) RoundKeeps frame w →
        Takes (turned_cost keyword m (test_cost d tested) (statements_cost d third) (statement_cost d body)) C B A w (loop_by keyword n (test s tested) (round s third body) frame w)
    looping_takes While m frame w l k = turning_takes m frame w l k
    looping_takes For m frame w l k = turning_takes m frame w l k
    looping_takes Do m frame w l k = doing_takes m frame w l k

  mutual
    pub statement_takes : (x : PlainStatement) (frame : Frame) (w : State) → w.left ≤ n → Covers functions depth C B A (nodes_of_statement x) → StatementKeeps d s L x frame w → Takes (statement_cost d x) C B A w (execute s x frame w)
    statement_takes (statement at (set q v)) frame w l b k = takes_step C B A (place_cost d q + value_cost d v) w _ _ k (λ u e h.
        takes_then C B A (place_cost d q) (value_cost d v) u (locate s frame.held q u) _ _ (place_takes s functions loops depth frame.held C B A q u (covers_left functions depth C B A (nodes_of_place q) (nodes_of_value v) b) h.0) h.1 (λ target u e h.
        takes_last C B A (value_cost d v) u (evaluate s frame.held v u) _ (value_takes s functions loops depth frame.held C B A v u (covers_right functions depth C B A (nodes_of_place q) (nodes_of_value v) b) h)
        (λ x u. write_takes C B A (place_at q).span target (holding x) frame u)))
    statement_takes (statement at (update kind op t q v)) frame w l b k = takes_step C B A (place_cost d q + (1 + (value_cost d v + 1))) w _ _ k (λ u e h.
        takes_then C B A (place_cost d q) (1 + (value_cost d v + 1)) u (locate s frame.held q u) _ _ (place_takes s functions loops depth frame.held C B A q u (covers_left functions depth C B A (nodes_of_place q) (nodes_of_value v) b) h.0) h.1 (λ target u e h.
        takes_step C B A (value_cost d v + 1) u _ _ h (λ u e h.
        takes_more C B A (0 + (value_cost d v + 1)) (value_cost d v + 1) u _ (none_first (value_cost d v + 1))
        (takes_then C B A 0 (value_cost d v + 1) u (read_target (place_at q).span (place_type q) frame.held target u) _ _ (read_takes C B A (place_at q).span (place_type q) frame.held target u) h (λ x u e h.
        takes_after C B A (value_cost d v) 1 u (evaluate s frame.held v u) _ (value_takes s functions loops depth frame.held C B A v u (covers_right functions depth C B A (nodes_of_place q) (nodes_of_value v) b) h) (λ y u e.
        takes_plain C B A 0 u _ (λ u e. takes_or C B A 0 (operated op t u.objects (converted_to t x) y) at.span u _ (λ z. write_takes C B A (place_at q).span target (holding (converted_to (place_type q) z)) frame u))))))))
    statement_takes (statement at (copy q r)) frame w l b k = takes_step C B A (place_cost d q + (place_cost d r + width p (place_type q))) w _ _ k (λ u e h.
        takes_then C B A (place_cost d q) (place_cost d r + width p (place_type q)) u (locate s frame.held q u) _ _ (place_takes s functions loops depth frame.held C B A q u (covers_left functions depth C B A (nodes_of_place q) (nodes_of_place r) b) h.0) h.1 (λ target u e h.
        takes_after C B A (place_cost d r) (width p (place_type q)) u (locate s frame.held r u) _ (place_takes s functions loops depth frame.held C B A r u (covers_right functions depth C B A (nodes_of_place q) (nodes_of_place r) b) h)
        (λ source u e. copy_takes C B A (width p (place_type q)) 0 (place_at q).span (pointer_to target) (place_at r).span (pointer_to source) frame u)))
    statement_takes (statement at (expression v)) frame w l b k = takes_step C B A (value_cost d v) w _ _ k (λ u e h.
        takes_last C B A (value_cost d v) u (discard s frame.held v u) _ (discard_takes s functions loops depth frame.held C B A v u b h) (λ x u. takes_here C B A 0 _ u u (same u)))
    statement_takes (statement at (asserts there v)) frame w l b k = takes_step C B A (value_cost d v) w _ _ k (λ u e h.
        takes_last C B A (value_cost d v) u (evaluate s frame.held v u) _ (value_takes s functions loops depth frame.held C B A v u b h) (λ x u.
        takes_last C B A 0 u (asserted there.span x u) _ (asserted_takes C B A there.span x u) (λ none u. takes_here C B A 0 _ u u (same u))))
    statement_takes (statement at (declare i initializer)) frame w l b k = takes_step C B A (initializer_cost d (variable_width d (slice_get f.variables i)) initializer) w _ _ k (λ u e h.
        declare_takes s functions loops depth C B A at.span i (slice_get f.variables i) initializer frame u b h)
    statement_takes (statement at (declare_static i)) frame w l b k = takes_here C B A 0 _ w w (same w)
    statement_takes (statement at (block ss)) frame w l b k = block_takes C B A (statements_cost d ss) (λ frame w. execute_from s 0 ss frame w) frame w (from_takes 0 ss (record frame { opened = [] }) w l b k)
    statement_takes (statement at (if_then v x)) frame w l b k = takes_step C B A (value_cost d v + statement_cost d x) w _ _ k (λ u e h.
        takes_then C B A (value_cost d v) (statement_cost d x) u (evaluate s frame.held v u) _ _ (value_takes s functions loops depth frame.held C B A v u (covers_left functions depth C B A (nodes_of_value v) (nodes_of_statement x) b) h.0) h.1 (λ i y g h.
        takes_if C B A (statement_cost d x) y (is_true i) _ _
        (λ q. statement_takes x frame y (lower y.left u.left n g (lower_step u.left w.left n e l)) (covers_right functions depth C B A (nodes_of_value v) (nodes_of_statement x) b) (h q))
        (λ q. takes_here C B A (statement_cost d x) _ y y (same y))))
    statement_takes (statement at (if_else v x z)) frame w l b k = takes_step C B A (value_cost d v + max (statement_cost d x) (statement_cost d z)) w _ _ k (λ u e h.
        takes_then C B A (value_cost d v) (max (statement_cost d x) (statement_cost d z)) u (evaluate s frame.held v u) _ _ (value_takes s functions loops depth frame.held C B A v u (covers_left functions depth C B A (nodes_of_value v) (nodes_of_statement x ++ nodes_of_statement z) b) h.0) h.1 (λ i y g h.
        takes_if C B A (max (statement_cost d x) (statement_cost d z)) y (is_true i) _ _
        (λ q. takes_more C B A (statement_cost d x) (max (statement_cost d x) (statement_cost d z)) y _ (le_max_left (statement_cost d x) (statement_cost d z))
        (statement_takes x frame y (lower y.left u.left n g (lower_step u.left w.left n e l)) (covers_left functions depth C B A (nodes_of_statement x) (nodes_of_statement z) (covers_right functions depth C B A (nodes_of_value v) (nodes_of_statement x ++ nodes_of_statement z) b)) (h.0 q)))
        (λ q. takes_more C B A (statement_cost d z) (max (statement_cost d x) (statement_cost d z)) y _ (le_max_right (statement_cost d x) (statement_cost d z))
        (statement_takes z frame y (lower y.left u.left n g (lower_step u.left w.left n e l)) (covers_right functions depth C B A (nodes_of_statement x) (nodes_of_statement z) (covers_right functions depth C B A (nodes_of_value v) (nodes_of_statement x ++ nodes_of_statement z) b)) (h.1 q)))))
    statement_takes (statement at (loop head first tested third body)) frame w l b k =
        let turned : ℕ = turned_cost head.keyword (turns_claimed (slice_get loops head.number)) (test_cost d tested) (statements_cost d third) (statement_cost d body) in
        let covered : CoversLoop functions depth C B A (nodes_of_statements first) (nodes_of_maybe tested) (nodes_of_statements third) (nodes_of_statement body) =
        covers_loop functions depth C B A head.keyword (nodes_of_statements first) (nodes_of_maybe tested) (nodes_of_statements third) (nodes_of_statement body) b in
        takes_more C B A (1 + (statements_cost d first + turned)) (statement_cost d (statement at (loop head first tested third body))) w _
        (loop_whole head.keyword (turns_claimed (slice_get loops head.number)) (statements_cost d first) (test_cost d tested) (statements_cost d third) (statement_cost d body))
        (takes_step C B A (statements_cost d first + turned) w _ _ k (λ u e h.
        block_takes C B A (statements_cost d first + turned) (looped s head.keyword first tested third body) frame u
        (takes_then C B A (statements_cost d first) turned u (execute_from s 0 first (record frame { opened = [] }) u) _
        (λ done w. go_on done.flow done.frame w (λ frame w. loop_by head.keyword n (test s tested) (round s third body) frame w)) (from_takes 0 first (record frame { opened = [] }) u (lower_step u.left w.left n e l) covered.first h.0) h.1 (λ done y g h.
        go_takes C B A turned done.flow done.frame y
        (LoopKeeps head.keyword (turns_claimed (slice_get loops head.number)) (test s tested) (round s third body) (TestKeeps s L tested) (RoundKept third body) done.frame y) (λ frame w. loop_by head.keyword n (test s tested) (round s third body) frame w) h
        (λ h. looping_takes tested third body (RoundKept third body) covered.test
        (λ frame w l k. takes_then C B A (statement_cost d body) (statements_cost d third) w (execute s body frame w) _ (λ done w. before_third done.flow done.frame w (λ frame w. execute_from s 0 third frame w)) (statement_takes body frame w l covered.body k.0) k.1 (λ done z i h.
        third_takes C B A (statements_cost d third) done.flow done.frame z (StatementsKeep d s L 0 third done.frame z) (λ frame w. execute_from s 0 third frame w) h (λ h. from_takes 0 third done.frame z (lower z.left w.left n i l) covered.third h)))
        head.keyword (turns_claimed (slice_get loops head.number)) done.frame y (lower y.left u.left n g (lower_step u.left w.left n e l)) h)))))
    statement_takes (statement at (switch span v labels body)) frame w l b k = takes_step C B A (value_cost d v + statement_cost d body) w _ _ k (λ u e h.
        takes_then C B A (value_cost d v) (statement_cost d body) u (evaluate s frame.held v u) _ _ (value_takes s functions loops depth frame.held C B A v u (covers_left functions depth C B A (nodes_of_value v) (nodes_of_statement body) b) h.0) h.1 (λ i y g h.
        takes_last C B A (statement_cost d body) y (enter s (labelled (number_of i) labels.cases labels.otherwise) body frame y) _
        (entered_takes (labelled (number_of i) labels.cases labels.otherwise) body frame y (lower y.left u.left n g (lower_step u.left w.left n e l)) (covers_right functions depth C B A (nodes_of_value v) (nodes_of_statement body) b) h)
        (λ done u. takes_here C B A 0 _ u u (same u))))
    statement_takes (statement at break) frame w l b k = takes_plain C B A 0 w _ (λ u e. takes_here C B A 0 _ u u (same u))
    statement_takes (statement at continue) frame w l b k = takes_plain C B A 0 w _ (λ u e. takes_here C B A 0 _ u u (same u))
    statement_takes (statement at (return span None)) frame w l b k = takes_plain C B A 0 w _ (λ u e. takes_here C B A 0 _ u u (same u))
    statement_takes (statement at (return span (Some v))) frame w l b k = takes_step C B A (value_cost d v) w _ _ k (λ u e h.
        takes_last C B A (value_cost d v) u (evaluate s frame.held v u) _ (value_takes s functions loops depth frame.held C B A v u b h) (λ x u. takes_here C B A 0 _ u u (same u)))
    statement_takes (statement at empty) frame w l b k = takes_plain C B A 0 w _ (λ u e. takes_here C B A 0 _ u u (same u))
    statement_takes (statement at (mark InitDone)) frame w l b k = takes_here C B A 0 _ w (record w { marked = true }) (record { left = refl; calls = refl; bytes = refl; counted = refl })
    statement_takes (statement at (mark TaskLoop)) frame w l b k = takes_here C B A 0 _ w w (same w)

    pub from_takes : (i : ℕ) (ss : PlainStatements) (frame : Frame) (w : State) → w.left ≤ n → Covers functions depth C B A (nodes_of_statements ss) → StatementsKeep d s L i ss frame w → Takes (statements_cost d ss) C B A w (execute_from s i ss frame w)
    from_takes i no_statements frame w l b k = takes_here C B A 0 _ w w (same w)
    from_takes zero (more_statements x rest) frame w l b k =
        takes_then C B A (statement_cost d x) (statements_cost d rest) w (execute s x frame w) _ _ (statement_takes x frame w l (covers_left functions depth C B A (nodes_of_statement x) (nodes_of_statements rest) b) k.0) k.1 (λ done u e h.
        go_takes C B A (statements_cost d rest) done.flow done.frame u (StatementsKeep d s L zero rest done.frame u) _ h
        (λ h. from_takes zero rest done.frame u (lower u.left w.left n e l) (covers_right functions depth C B A (nodes_of_statement x) (nodes_of_statements rest) b) h))
    from_takes (suc i) (more_statements x rest) frame w l b k = takes_more C B A (statements_cost d rest) (statement_cost d x + statements_cost d rest) w _ (last_in (statement_cost d x) (statements_cost d rest))
        (from_takes i rest frame w l (covers_right functions depth C B A (nodes_of_statement x) (nodes_of_statements rest) b) k)

    entered_takes : (i : Option ℕ) (x : PlainStatement) (frame : Frame) (w : State) → w.left ≤ n → Covers functions depth C B A (nodes_of_statement x) → EnteredKeeps d s L i x frame w → Takes (statement_cost d x) C B A w (enter s i x frame w)
    entered_takes None (statement at (block ss)) frame w l b k = takes_here C B A (statements_cost d ss) _ w w (same w)
    entered_takes (Some i) (statement at (block ss)) frame w l b k = block_takes C B A (statements_cost d ss) (λ frame w. execute_from s i ss frame w) frame w (from_takes i ss (record frame { opened = [] }) w l b k)
    entered_takes i (statement at form) frame w l b k = takes_here C B A (statement_cost d (statement at form)) _ w w (same w)

-- ## Calls

entered_if : (b : Bool) (w : State) (x y : Entered) → Same w x.state → Same w y.state → Same w (cond b x y).state
entered_if true w x y f g = f
entered_if false w x y f g = g

-- a new frame takes no step
pub entered_same : (vs : List PlainVariable) (xs : List Scalar) (w : State) → Same w (entered vs xs w).state
entered_same [] xs w = same w
entered_same (v ∷ vs) [] w = entered_same vs [] w
entered_same (v ∷ vs) (x ∷ xs) w =
    let opened : State = open_object declared (holding x ∷ []) w in
    let r : Same opened (entered vs xs opened).state = entered_same vs xs opened in
    entered_if v.frame w (with_variable (holds (holding x)) (entered vs xs w).frame.opened (entered vs xs w)) (with_variable (stands w.opened) (w.opened ∷ (entered vs xs opened).frame.opened) (entered vs xs opened))
    (entered_same vs xs w) (record { left = r.left; calls = r.calls; bytes = r.bytes; counted = r.counted })

pub raised_spends : (C B : ℕ) (A : Bool) (there : Depth) (w : State) → there.calls ≤ C → there.bytes ≤ B → Spends 0 C B A w (raised there w)
raised_spends C B A there w x y = record {
  no_more = at_most w.left;
  steps = nothing w.left;
  calls_at_most = higher w.calls there.calls C x;
  bytes_at_most = higher w.bytes there.bytes B y;
  quiet = λ e. refl;
}
  where
    nothing : (a : ℕ) → a ≤ a + 0
    nothing a = omega arith

    higher : (a b c : ℕ) → b ≤ c → max a b ≤ max a c
    higher a b c h = omega (arith, h)

pub no_first : (a : ℕ) → 0 + a ≤ a
no_first a = omega arith

-- the body of a call
body_takes : (p : PlainProgram) (functions : List Func) (n : ℕ) (depth : Depth) (k : ℕ) (f : PlainFunction) (xs : List Scalar) (C B : ℕ) (A : Bool) (w : State) → w.left ≤ n →
    (deeper f depth).calls ≤ C → (deeper f depth).bytes ≤ B → Covers functions (deeper f depth) C B A (nodes_of_statements f.body) →
    StatementsKeep (counting_of p functions k f) (setting_of p n (call_at n p) (deeper f depth) f) (CallKeeps (setting_of p n (call_at n p) (deeper f depth) f) functions (deeper f depth)) 0 f.body
    (entered f.variables xs (raised (deeper f depth) w)).frame (entered f.variables xs (raised (deeper f depth) w)).state →
    Takes (statements_cost (counting_of p functions k f) f.body) C B A w (enter_call p n (call_at n p) depth (Some f) xs w)
body_takes p functions n depth k f xs C B A w l x y covered keeps =
    let there : Depth = deeper f depth in
    let cost : ℕ = statements_cost (counting_of p functions k f) f.body in
    let start : Entered = entered f.variables xs (raised there w) in
    let r : Same (raised there w) start.state = entered_same f.variables xs (raised there w) in
    takes_more C B A (0 + cost) cost w _ (no_first cost) (takes_from C B A 0 cost w (raised there w) _ (raised_spends C B A there w x y)
    (takes_changed C B A cost (raised there w) start.state _ r
    (takes_last C B A cost start.state (execute_from (setting_of p n (call_at n p) there f) 0 f.body start.frame start.state) _
    (from_takes p functions (counting_of p functions k f).loops n there f C B A 0 f.body start.frame start.state (subst (λ a. a ≤ n) (sym r.left) l) covered keeps)
    (λ done u. takes_here C B A 0 _ u _ (record { left = refl; calls = refl; bytes = refl; counted = refl })))))

-- ## The laws

whole : (calls bytes : ℕ) (effect : Bool) → Bounds calls bytes effect calls bytes effect
whole calls bytes effect = record { calls_in = at_most calls; bytes_in = at_most bytes; effect_in = λ e. e }

pub values_take : ValuesTakeWhatTheyCost
values_take s functions loops depth held v w k = value_takes s functions loops depth held _ _ _ v w (whole _ _ _) k

pub statements_take : StatementsTakeWhatTheyCost
statements_take p functions loops n depth f x frame w l k = statement_takes p functions loops n depth f _ _ _ x frame w l (whole _ _ _) k

pub calls_take : CallsTakeWhatTheyCost
calls_take p functions n depth k f xs w e l h =
    let C : ℕ = depth.calls + (depth_of functions f).calls in
    let B : ℕ = depth.bytes + (depth_of functions f).bytes in
    let A : Bool = effect_of functions f in
    let P : Option PlainFunction → Type 0 = λ o. Takes (cost_of (counting_of p functions k f) None f) C B A w (step w (λ w. enter_call p n (call_at n p) depth o xs w)) in
    subst P (sym e) (takes_step C B A (statements_cost (counting_of p functions k f) f.body) w _ _ h (λ v q keeps.
    body_takes p functions n depth k f xs C B A v (one_less v.left w.left n q l) (calls_in depth.calls _) (bytes_in depth.bytes (frame_bytes f) _)
    (record { calls_in = calls_equal depth.calls _; bytes_in = bytes_equal depth.bytes (frame_bytes f) _; effect_in = λ e. e }) keeps))
  where
    one_less : (a b n : ℕ) → suc a ≡ b → b ≤ suc n → a ≤ n
    one_less a b n q l = omega (arith, q, l)

    calls_in : (d g : ℕ) → suc d ≤ d + (1 + g)
    calls_in d g = omega arith

    bytes_in : (d f g : ℕ) → d + f ≤ d + (f + g)
    bytes_in d f g = omega arith

    calls_equal : (d g : ℕ) → suc d + g ≤ d + (1 + g)
    calls_equal d g = omega arith

    bytes_equal : (d f g : ℕ) → (d + f) + g ≤ d + (f + g)
    bytes_equal d f g = omega arith
