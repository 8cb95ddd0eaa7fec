-- Where the end of a body can't be reached by syntax, no execution of it ends without a value.
use Rattle.std.proofs.Common.{◌≡◌, ℕ, zero, suc, ◌≤◌, ◌&&◌, ◌||◌, List, [], ◌∷◌, Bool, true, false, refl, sym, ◌∙◌, subst, arith, Option, Some, None}
use Rattle.std.specs.Prelude.{if◌then◌else◌, slice_set, slice_get}
use Rattle.p10_base.specs.declared.span.Span.{Span}
use Rattle.p10_base.specs.declared.at.At.{At}
use Rattle.p10_core.specs.declared.statements.LoopKeyword.{LoopKeyword}
use Rattle.p10_core.specs.declared.statements.LoopKeyword.TheVariants.{While, Do, For}
use Rattle.p10_core.specs.declared.statements.MarkKind.TheVariants.{InitDone, TaskLoop}
use Rattle.p10_core.specs.Types.{PlainType}
use Rattle.p10_core.specs.Rows.{is_void}
use Rattle.p10_core.specs.Typed.{PlainValue, place_at, place_type, PlainInitializer, not_initialized, single, copied, listed, PlainStatement, statement, PlainStatementForm, set, update, copy, evaluate as expression, asserts, declare, declare_static, block, if_then, if_else, loop, switch, break, continue, return, empty, mark, PlainStatements, no_statements, more_statements, PlainVariable, PlainFunction, PlainProgram}
use Rattle.p10_core.specs.WholePrograms.{Region, around, after, after_all, is_expression, is_variable_declaration, AllOf, AreClauses, IsMaybeTest, IsWholeStatement, IsWholeStatementForm, AreWholeStatements, numbers_from, IsWholeProgram}
use Rattle.p10_meaning.specs.declared.pointers.Ptr.{Ptr}
use Rattle.p10_meaning.specs.declared.pointers.Scalar.{Scalar}
use Rattle.p10_meaning.specs.declared.pointers.Cell.{Cell}
use Rattle.p10_meaning.specs.Pointers.{unset, holding, first_of}
use Rattle.p10_meaning.specs.Objects.{declared, write_at}
use Rattle.p10_meaning.specs.States.{State, Progress, step, and_then}
use Rattle.p10_meaning.specs.Scalars.{number_of, is_true, converted_to, operated, unset_cells}
use Rattle.p10_meaning.specs.Values.{Setting, holds, stands, scalars, width, open_object, Target, Variable, Sensor, Element, pointer_to, read_target, asserted, evaluate, discard, locate}
use Rattle.p10_meaning.specs.Statements.{Frame, Flow, normal, broken, continued, returned, Done, go_on, holding_at, in_block, write_target, part_of, write_part, copy_scalars, listed_scalars, listed_scalar, fill, initialize, declare_variable, test, next_turn, turns, loop_by, before_third, labelled, after_switch, execute, execute_form, execute_from, enter, round, looped}
use Rattle.p10_meaning.specs.Calling.{Depth, given, setting_of, call_at}
use Rattle.p10_meaning.specs.Sound.{region_at}
use Rattle.p10_meaning.proofs.LaidOut.{laid_out}
use Rattle.p10_meaning.proofs.SoundStatements.{scope_after, scope_after_all, after_is, after_all_is}
use Rattle.p10_meaning.proofs.SoundCalls.{few_variables, calls_keep}
use Rattle.p10_sums.specs.Keeping.{HoldsOf}
use Rattle.p10_warn.specs.Ends.{has_break, has_break_form, have_break, is_endless, reaches_end, reaches_end_form, reach_end}
use Rattle.p10_evaluation.proofs.Rules.{holds_step, holds_last, holds_any, holds_map, holds_or, holds_if}
use Rattle.p10_clean_soundness.specs.private.Stays.{HasValue}
use Rattle.p10_clean_soundness.proofs.Constants.{true_test}

-- ## Flows

-- how execution may go on after statements: by whether their end can be reached, whether they have a `break`, whether a loop stands round them,
-- and whether that or a `switch` does
abbrev pub MayGo : Bool → Bool → Bool → Bool → Flow → Type 0
MayGo past breaks inner around normal = past ≡ true
MayGo past breaks inner around broken = (breaks ≡ true) × (around ≡ true)
MayGo past breaks inner around continued = inner ≡ true
MayGo past breaks inner around (returned x) = HasValue x

may_more : (a b c d l r : Bool) (flow : Flow) → (a ≡ true → b ≡ true) → (c ≡ true → d ≡ true) → MayGo a c l r flow → MayGo b d l r flow
may_more a b c d l r normal f g h = f h
may_more a b c d l r broken f g h = (g h.0, h.1)
may_more a b c d l r continued f g h = h
may_more a b c d l r (returned x) f g h = h

or_first : (a b : Bool) → a ≡ true → (a || b) ≡ true
or_first true b e = refl
or_first false b e = absurd cc

or_second : (a b : Bool) → b ≡ true → (a || b) ≡ true
or_second true b e = refl
or_second false b e = e

-- a clause of a loop has no `break`
clause_stays : (x : PlainStatement) → (is_variable_declaration x || is_expression x) ≡ true → has_break x ≡ false
clause_stays (statement at break) e = absurd cc
clause_stays (statement at (block xs)) e = absurd cc
clause_stays (statement at (if_then v x)) e = absurd cc
clause_stays (statement at (if_else v x y)) e = absurd cc
clause_stays (statement at form) e = refl

clauses_stay : (xs : PlainStatements) → AllOf (λ x. is_variable_declaration x || is_expression x) xs → have_break xs ≡ false
clauses_stay no_statements a = refl
clauses_stay (more_statements x rest) a = both (clause_stays x a.0) (clauses_stay rest a.1)
  where
    both : {b c : Bool} → b ≡ false → c ≡ false → (b || c) ≡ false
    both p q = rw (p, q) refl

expressions_stay : (xs : PlainStatements) → AllOf is_expression xs → have_break xs ≡ false
expressions_stay xs a = clauses_stay xs (clauses xs a)
  where
    clauses : (xs : PlainStatements) → AllOf is_expression xs → AllOf (λ x. is_variable_declaration x || is_expression x) xs
    clauses no_statements a = tt
    clauses (more_statements x rest) a = (or_second (is_variable_declaration x) (is_expression x) a.0, clauses rest a.1)

first_stays : (keyword : LoopKeyword) (first : PlainStatements) (tested : Option PlainValue) (third : PlainStatements) → AreClauses keyword first tested third → have_break first ≡ false
first_stays For first tested third a = clauses_stay first a.0
first_stays While no_statements (Some v) no_statements a = refl
first_stays Do no_statements (Some v) no_statements a = refl
first_stays While no_statements None third a = absurd a
first_stays Do no_statements None third a = absurd a
first_stays While no_statements (Some v) (more_statements x rest) a = absurd a
first_stays Do no_statements (Some v) (more_statements x rest) a = absurd a
first_stays While (more_statements x rest) tested third a = absurd a
first_stays Do (more_statements x rest) tested third a = absurd a

third_stays : (keyword : LoopKeyword) (first : PlainStatements) (tested : Option PlainValue) (third : PlainStatements) → AreClauses keyword first tested third → have_break third ≡ false
third_stays For first tested third a = expressions_stay third a.1
third_stays While no_statements (Some v) no_statements a = refl
third_stays Do no_statements (Some v) no_statements a = refl
third_stays While no_statements None third a = absurd a
third_stays Do no_statements None third a = absurd a
third_stays While no_statements (Some v) (more_statements x rest) a = absurd a
third_stays Do no_statements (Some v) (more_statements x rest) a = absurd a
third_stays While (more_statements x rest) tested third a = absurd a
third_stays Do (more_statements x rest) tested third a = absurd a

-- ## Rules

-- something holds of how execution goes on
abbrev pub Flows : (Flow → Type 0) → Progress Done → Type 0
Flows P o = HoldsOf (λ (done : Done) w. P done.flow) o

least : (n : ℕ) → n ≤ n
least n = omega arith

module _ (P : Flow → Type 0) where
  after_step : (w : State) (go : State → Progress Done) → ((w : State) → Flows P (go w)) → Flows P (step w go)
  after_step w go h = holds_step (λ (done : Done) w. P done.flow) w.left w go (least w.left) (λ l less. h (record w { left = l }))

  after_any : {A : Type 0} (o : Progress A) (go : A → State → Progress Done) → ((a : A) (w : State) → Flows P (go a w)) → Flows P (and_then o go)
  after_any o go h = holds_last (λ a w. Unit {0}) (λ (done : Done) w. P done.flow) o go (holds_any o) (λ a w k. h a w)

  block_flows : (run : Frame → State → Progress Done) (frame : Frame) (w : State) → Flows P (run (record frame { opened = [] }) w) → Flows P (in_block run frame w)
  block_flows run frame w h = holds_last (λ (done : Done) w. P done.flow) (λ (done : Done) w. P done.flow) (run (record frame { opened = [] }) w) _ h (λ d u k. k)

  -- ## Statements that only go on

  write_flows : P normal → (span : Span) (target : Target) (cell : Cell) (frame : Frame) (w : State) → Flows P (write_target span target cell frame w)
  write_flows n span (Variable k) cell frame w = n
  write_flows n span Sensor cell frame w = n
  write_flows n span (Element q) cell frame w = holds_or (λ (done : Done) w. P done.flow) (write_at w.objects q cell) span w _ (λ objects e. n)

  copy_flows : P normal → (m i : ℕ) (to_span : Span) (to : Ptr) (from_span : Span) (from : Ptr) (frame : Frame) (w : State) → Flows P (copy_scalars m i to_span to from_span from frame w)
  copy_flows n zero i to_span to from_span from frame w = n
  copy_flows n (suc m) i to_span to from_span from frame w =
      after_step w _ (λ w. holds_or (λ (done : Done) w. P done.flow) (part_of w.objects from i) from_span w _ (λ cell e. holds_or (λ (done : Done) w. P done.flow) (write_part w.objects to i cell) to_span w _ (λ objects f.
      copy_flows n m (suc i) to_span to from_span from frame (record w { objects = objects }))))

  fill_flows : P normal → (span : Span) (xs : List (ℕ × Scalar)) (types : List PlainType) (i : ℕ) (q : Ptr) (frame : Frame) (w : State) → Flows P (fill span xs types i q frame w)
  fill_flows n span xs [] i q frame w = n
  fill_flows n span xs (t ∷ types) i q frame w =
      after_step w _ (λ w. holds_or (λ (done : Done) w. P done.flow) (write_part w.objects q i (holding (listed_scalar i t xs))) span w _ (λ objects e. fill_flows n span xs types (suc i) q frame (record w { objects = objects })))

  module _ (s : Setting) where
    initialize_flows : P normal → (span : Span) (t : PlainType) (target : Target) (initializer : PlainInitializer) (frame : Frame) (w : State) → Flows P (initialize s span t target initializer frame w)
    initialize_flows n span t target not_initialized frame w = n
    initialize_flows n span t target (single v) frame w = after_any (evaluate s frame.held v w) _ (λ x w. write_flows n span target (holding x) frame w)
    initialize_flows n span t target (copied q) frame w = after_step w _ (λ w. after_any (locate s frame.held q w) _ (λ source w.
        copy_flows n (width s.program t) 0 span (pointer_to target) (place_at q).span (pointer_to source) frame w))
    initialize_flows n span t target (listed at items) frame w = after_any (listed_scalars s frame.held items w) _ (λ xs w. fill_flows n span xs (scalars s.program t) 0 (pointer_to target) frame w)

    declare_flows : P normal → (span : Span) (k : ℕ) (v : Option PlainVariable) (initializer : PlainInitializer) (frame : Frame) (w : State) → Flows P (declare_variable s span k v initializer frame w)
    declare_flows n span k None initializer frame w = n
    declare_flows n span k (Some v) initializer frame w = holds_if (λ (done : Done) w. P done.flow) v.frame _ _
        (λ e. initialize_flows n span v.type (Variable k) initializer (holding_at frame k (holds unset)) w)
        (λ e. initialize_flows n span v.type (Element (first_of w.opened (width s.program v.type) 1)) initializer
        (record { held = slice_set frame.held k (stands w.opened); opened = w.opened ∷ frame.opened }) (open_object declared (unset_cells (scalars s.program v.type)) w))

-- ## Loops

-- whether a loop's end is reached
abbrev past_loop : Bool → Bool → Bool
past_loop endless breaks = if endless then breaks else true

past_break : (endless breaks : Bool) → breaks ≡ true → past_loop endless breaks ≡ true
past_break true breaks e = e
past_break false breaks e = refl

past_test : (endless breaks more : Bool) → (endless ≡ true → more ≡ true) → more ≡ false → past_loop endless breaks ≡ true
past_test true breaks more h e = let f = h refl in absurd cc
past_test false breaks more h e = refl

module _ (endless breaks l r : Bool) (test : Frame → State → Progress Bool) (body : Frame → State → Progress Done) (tests : (frame : Frame) (w : State) → HoldsOf (λ more w. endless ≡ true → more ≡ true) (test frame w))
    (rounds : (frame : Frame) (w : State) → Flows (MayGo true breaks true true) (body frame w)) where
  abbrev PastLoop : Flow → Type 0
  PastLoop flow = MayGo (past_loop endless breaks) false l r flow

  abbrev Turns : (Frame → State → Progress Done) → Type 0
  Turns go = (frame : Frame) (w : State) → Flows PastLoop (go frame w)

  next_flows : (go : Frame → State → Progress Done) → Turns go → (flow : Flow) (frame : Frame) (w : State) → MayGo true breaks true true flow → Flows PastLoop (next_turn flow frame w go)
  next_flows go k normal frame w h = k frame w
  next_flows go k continued frame w h = k frame w
  next_flows go k broken frame w h = past_break endless breaks h.0
  next_flows go k (returned x) frame w h = h

  round_flows : (go : Frame → State → Progress Done) → Turns go → (frame : Frame) (w : State) → Flows PastLoop (and_then (body frame w) (λ done w. next_turn done.flow done.frame w go))
  round_flows go k frame w = holds_last (λ (done : Done) w. MayGo true breaks true true done.flow) (λ (done : Done) w. PastLoop done.flow) (body frame w) _ (rounds frame w) (λ done w h. next_flows go k done.flow done.frame w h)

  turns_flow : (n : ℕ) → Turns (turns n test body)
  turns_flow zero frame w = tt
  turns_flow (suc n) frame w = holds_last (λ more w. endless ≡ true → more ≡ true) (λ (done : Done) w. PastLoop done.flow) (test frame w) _ (tests frame w) (λ more w h.
      holds_if (λ (done : Done) w. PastLoop done.flow) more _ _ (λ e. round_flows (turns n test body) (turns_flow n) frame w) (λ e. past_test endless breaks more h e))

  loop_flows : (keyword : LoopKeyword) (n : ℕ) → Turns (loop_by keyword n test body)
  loop_flows While n frame w = turns_flow n frame w
  loop_flows For n frame w = turns_flow n frame w
  loop_flows Do n frame w = round_flows (turns n test body) (turns_flow n) frame w

-- ## Statements

module _ (p : PlainProgram) (whole : IsWholeProgram p) (n : ℕ) (depth : Depth) (number : ℕ) (f : PlainFunction) (there : slice_get p.functions number ≡ Some f) (returns : is_void f.result ≡ false) where
  abbrev s : Setting
  s = setting_of p n (call_at n p) depth f

  abbrev here : List ℕ → Bool → Bool → Region
  here scope l b = region_at p number f scope l b

  after_here : (x : PlainStatement) (scope : List ℕ) (l b : Bool) → after (here scope l b) x ≡ here (scope_after x scope) l b
  after_here x scope l b = after_is p (laid_out p whole) whole (call_at n p depth) (calls_keep p whole n depth) n number f (few_variables p whole number f (whole.functions number f there)) x scope l b

  after_all_here : (xs : PlainStatements) (scope : List ℕ) (l b : Bool) → after_all (here scope l b) xs ≡ here (scope_after_all xs scope) l b
  after_all_here xs scope l b = after_all_is p (laid_out p whole) whole (call_at n p depth) (calls_keep p whole n depth) n number f (few_variables p whole number f (whole.functions number f there)) xs scope l b

  abbrev Leaves : Bool → Bool → Bool → Bool → Progress Done → Type 0
  Leaves past breaks l b o = Flows (MayGo past breaks l (l || b)) o

  weaker : (past more breaks others l b : Bool) (o : Progress Done) → (past ≡ true → more ≡ true) → (breaks ≡ true → others ≡ true) → Leaves past breaks l b o → Leaves more others l b o
  weaker past more breaks others l b o f g h = holds_map (λ (done : Done) w. MayGo past breaks l (l || b) done.flow) (λ (done : Done) w. MayGo more others l (l || b) done.flow) o (λ done w k. may_more past more breaks others l (l || b) done.flow f g k) h

  -- statements that come after others
  then_leaves : (past rest breaks others l b : Bool) (o : Progress Done) (go : Frame → State → Progress Done) → Leaves past breaks l b o → ((frame : Frame) (w : State) → Leaves rest others l b (go frame w)) →
      Leaves (past && rest) (breaks || others) l b (and_then o (λ done w. go_on done.flow done.frame w go))
  then_leaves past rest breaks others l b o go h k =
      holds_last (λ (done : Done) w. MayGo past breaks l (l || b) done.flow) (λ (done : Done) w. MayGo (past && rest) (breaks || others) l (l || b) done.flow) o _ h (λ done w m. by_flow done.flow done.frame w m)
    where
      both : (a b : Bool) → a ≡ true → b ≡ true → (a && b) ≡ true
      both true b e g = g
      both false b e g = absurd cc

      by_flow : (flow : Flow) (frame : Frame) (w : State) → MayGo past breaks l (l || b) flow → Leaves (past && rest) (breaks || others) l b (go_on flow frame w go)
      by_flow normal frame w m = weaker rest (past && rest) others (breaks || others) l b (go frame w) (λ e. both past rest m e) (λ e. or_second breaks others e) (k frame w)
      by_flow broken frame w m = (or_first breaks others m.0, m.1)
      by_flow continued frame w m = m
      by_flow (returned x) frame w m = m

  test_leaves : (scope : List ℕ) (l b : Bool) (tested : Option PlainValue) → IsMaybeTest (around (here scope l b)) tested → (frame : Frame) (w : State) → HoldsOf (λ more w. is_endless tested ≡ true → more ≡ true) (test s tested frame w)
  test_leaves scope l b None i frame w = holds_step (λ more w. true ≡ true → more ≡ true) w.left w _ (least w.left) (λ left less e. refl)
  test_leaves scope l b (Some v) i frame w = by_test (is_endless (Some v)) refl
    where
      by_test : (q : Bool) → is_endless (Some v) ≡ q → HoldsOf (λ more w. q ≡ true → more ≡ true) (test s (Some v) frame w)
      by_test true e = holds_last (λ x w. is_true x ≡ true) (λ more w. true ≡ true → more ≡ true) (evaluate s frame.held v w) _ (true_test (around (here scope l b)) s frame.held v i.whole e w) (λ x w h g. h)
      by_test false e = holds_last (λ x w. Unit {0}) (λ more w. false ≡ true → more ≡ true) (evaluate s frame.held v w) _ (holds_any (evaluate s frame.held v w)) (λ x w h g. absurd cc)

  -- a round of a loop, whose third clause has no `break`
  round_leaves : (ends_body ends_third breaks breaks_third l b : Bool) (third : PlainStatements) (body : PlainStatement) → breaks_third ≡ false →
      ((frame : Frame) (w : State) → Leaves ends_body breaks true b (execute s body frame w)) → ((frame : Frame) (w : State) → Leaves ends_third breaks_third l b (execute_from s 0 third frame w)) →
      (frame : Frame) (w : State) → Flows (MayGo true breaks true true) (round s third body frame w)
  round_leaves ends_body ends_third breaks breaks_third l b third body stays h k frame w =
      holds_last (λ (done : Done) w. MayGo ends_body breaks true true done.flow) (λ (done : Done) w. MayGo true breaks true true done.flow) (execute s body frame w) _ (h frame w) (λ done w m. by_flow done.flow done.frame w m)
    where
      third_flow : (flow : Flow) → MayGo ends_third breaks_third l (l || b) flow → MayGo true breaks true true flow
      third_flow normal m = refl
      third_flow broken m = let e : true ≡ false = sym m.0 ∙ stays in absurd cc
      third_flow continued m = refl
      third_flow (returned x) m = m

      third_flows : (frame : Frame) (w : State) → Flows (MayGo true breaks true true) (execute_from s 0 third frame w)
      third_flows frame w = holds_map (λ (done : Done) w. MayGo ends_third breaks_third l (l || b) done.flow) (λ (done : Done) w. MayGo true breaks true true done.flow) (execute_from s 0 third frame w) (λ done w m. third_flow done.flow m) (k frame w)

      by_flow : (flow : Flow) (frame : Frame) (w : State) → MayGo ends_body breaks true true flow → Flows (MayGo true breaks true true) (before_third flow frame w (λ frame w. execute_from s 0 third frame w))
      by_flow normal frame w m = third_flows frame w
      by_flow continued frame w m = third_flows frame w
      by_flow broken frame w m = (m.0, refl)
      by_flow (returned x) frame w m = m

  -- `break` ends a `switch`
  switch_leaves : (past breaks l b : Bool) (flow : Flow) (frame : Frame) (w : State) → MayGo past breaks l (l || true) flow → Leaves true false l b (after_switch (record { flow = flow; frame = frame }) w)
  switch_leaves past breaks l b normal frame w m = refl
  switch_leaves past breaks l b broken frame w m = refl
  switch_leaves past breaks l b continued frame w m = m
  switch_leaves past breaks l b (returned x) frame w m = m

  mutual
    leaves : (x : PlainStatement) (scope : List ℕ) (l b : Bool) → IsWholeStatement (here scope l b) x → (frame : Frame) (w : State) → Leaves (reaches_end x) (has_break x) l b (execute s x frame w)
    leaves (statement at form) scope l b i frame w = form_leaves at form scope l b i frame w

    form_leaves : (at : At) (form : PlainStatementForm) (scope : List ℕ) (l b : Bool) → IsWholeStatementForm (here scope l b) form → (frame : Frame) (w : State) →
        Leaves (reaches_end_form form) (has_break_form form) l b (execute_form s at form frame w)
    form_leaves at (set q v) scope l b i frame w = after_step (MayGo true false l (l || b)) w _ (λ w. after_any (MayGo true false l (l || b)) (locate s frame.held q w) _ (λ target w. after_any (MayGo true false l (l || b)) (evaluate s frame.held v w) _ (λ x w.
        write_flows (MayGo true false l (l || b)) refl (place_at q).span target (holding x) frame w)))
    form_leaves at (update kind op t q v) scope l b i frame w = after_step (MayGo true false l (l || b)) w _ (λ w. after_any (MayGo true false l (l || b)) (locate s frame.held q w) _ (λ target w.
        after_step (MayGo true false l (l || b)) w _ (λ w. after_any (MayGo true false l (l || b)) (read_target (place_at q).span (place_type q) frame.held target w) _ (λ x w.
        after_any (MayGo true false l (l || b)) (evaluate s frame.held v w) _ (λ y w. after_step (MayGo true false l (l || b)) w _ (λ w.
        holds_or (λ (done : Done) w. MayGo true false l (l || b) done.flow) (operated op t w.objects (converted_to t x) y) at.span w _ (λ z e.
        write_flows (MayGo true false l (l || b)) refl (place_at q).span target (holding (converted_to (place_type q) z)) frame w)))))))
    form_leaves at (copy q r) scope l b i frame w = after_step (MayGo true false l (l || b)) w _ (λ w. after_any (MayGo true false l (l || b)) (locate s frame.held q w) _ (λ target w. after_any (MayGo true false l (l || b)) (locate s frame.held r w) _ (λ source w.
        copy_flows (MayGo true false l (l || b)) refl (width s.program (place_type q)) 0 (place_at q).span (pointer_to target) (place_at r).span (pointer_to source) frame w)))
    form_leaves at (expression v) scope l b i frame w = after_step (MayGo true false l (l || b)) w _ (λ w. after_any (MayGo true false l (l || b)) (discard s frame.held v w) _ (λ x w. refl))
    form_leaves at (asserts name v) scope l b i frame w = after_step (MayGo true false l (l || b)) w _ (λ w. after_any (MayGo true false l (l || b)) (evaluate s frame.held v w) _ (λ x w. after_any (MayGo true false l (l || b)) (asserted name.span x w) _ (λ none w. refl)))
    form_leaves at (declare k initializer) scope l b i frame w = after_step (MayGo true false l (l || b)) w _ (λ w. declare_flows (MayGo true false l (l || b)) s refl at.span k (slice_get s.variables k) initializer frame w)
    form_leaves at (declare_static k) scope l b i frame w = refl
    form_leaves at (block xs) scope l b i frame w = block_flows (MayGo (reach_end xs) (have_break xs) l (l || b)) (λ frame w. execute_from s 0 xs frame w) frame w (all_leave xs scope l b i (record frame { opened = [] }) w)
    form_leaves at (if_then v x) scope l b i frame w = after_step (MayGo true (has_break x) l (l || b)) w _ (λ w. after_any (MayGo true (has_break x) l (l || b)) (evaluate s frame.held v w) _ (λ y w.
        holds_if (λ (done : Done) w. MayGo true (has_break x) l (l || b) done.flow) (is_true y) _ _
        (λ e. weaker (reaches_end x) true (has_break x) (has_break x) l b (execute s x frame w) (λ e. refl) (λ e. e) (leaves x scope l b i.1 frame w)) (λ e. refl)))
    form_leaves at (if_else v x y) scope l b i frame w = after_step (MayGo (reaches_end x || reaches_end y) (has_break x || has_break y) l (l || b)) w _ (λ w.
        after_any (MayGo (reaches_end x || reaches_end y) (has_break x || has_break y) l (l || b)) (evaluate s frame.held v w) _ (λ z w.
        holds_if (λ (done : Done) w. MayGo (reaches_end x || reaches_end y) (has_break x || has_break y) l (l || b) done.flow) (is_true z) _ _
        (λ e. weaker (reaches_end x) (reaches_end x || reaches_end y) (has_break x) (has_break x || has_break y) l b (execute s x frame w) (or_first (reaches_end x) (reaches_end y)) (or_first (has_break x) (has_break y)) (leaves x scope l b i.1 frame w))
        (λ e. weaker (reaches_end y) (reaches_end x || reaches_end y) (has_break y) (has_break x || has_break y) l b (execute s y frame w) (or_second (reaches_end x) (reaches_end y)) (or_second (has_break x) (has_break y)) (leaves y scope l b i.2 frame w))))
    form_leaves at (loop head first tested third body) scope l b i frame w =
        after_step (MayGo (past_loop (is_endless tested) (has_break body)) false l (l || b)) w _ (λ w.
        block_flows (MayGo (past_loop (is_endless tested) (has_break body)) false l (l || b)) (λ frame w. looped s head.keyword first tested third body frame w) frame w
        (weaker (reach_end first && past_loop (is_endless tested) (has_break body)) (past_loop (is_endless tested) (has_break body)) (have_break first || false) false l b (looped s head.keyword first tested third body (record frame { opened = [] }) w)
        (past_first (reach_end first)) (no_break (have_break first) (first_stays head.keyword first tested third i.4))
        (then_leaves (reach_end first) (past_loop (is_endless tested) (has_break body)) (have_break first) false l b (execute_from s 0 first (record frame { opened = [] }) w) _
        (all_leave first scope l b i.0 (record frame { opened = [] }) w) (λ frame w.
        loop_flows (is_endless tested) (has_break body) l (l || b) (λ frame w. test s tested frame w) (λ frame w. round s third body frame w)
        (test_leaves (scope_after_all first scope) l b tested (subst (λ r. IsMaybeTest (around r) tested) (after_all_here first scope l b) i.1))
        (round_leaves (reaches_end body) (reach_end third) (has_break body) (have_break third) l b third body (third_stays head.keyword first tested third i.4)
        (leaves body (scope_after_all first scope) true b (subst (λ (r : Region). IsWholeStatement (record r { in_loop = true }) body) (after_all_here first scope l b) i.3))
        (all_leave third (scope_after_all first scope) l b (subst (λ r. AreWholeStatements r third) (after_all_here first scope l b) i.2)))
        head.keyword s.turns frame w))))
      where
        past_first : (a : Bool) → (a && past_loop (is_endless tested) (has_break body)) ≡ true → past_loop (is_endless tested) (has_break body) ≡ true
        past_first true e = e
        past_first false e = absurd cc

        no_break : (a : Bool) → a ≡ false → (a || false) ≡ true → false ≡ true
        no_break true e g = absurd cc
        no_break false e g = g
    form_leaves at (switch keyword v labels body) scope l b i frame w = after_step (MayGo true false l (l || b)) w _ (λ w. after_any (MayGo true false l (l || b)) (evaluate s frame.held v w) _ (λ x w.
        holds_last (λ (done : Done) w. MayGo true true l (l || true) done.flow) (λ (done : Done) w. MayGo true false l (l || b) done.flow) (enter s (labelled (number_of x) labels.cases labels.otherwise) body frame w) after_switch
        (entered_leaves (labelled (number_of x) labels.cases labels.otherwise) body scope l i.1 frame w) (λ done w m. switch_leaves true true l b done.flow done.frame w m)))
    form_leaves at (return keyword None) scope l b i frame w = let e : true ≡ false = sym i ∙ returns in absurd cc
    form_leaves at (return keyword (Some v)) scope l b i frame w = after_step (MayGo false false l (l || b)) w _ (λ w. after_any (MayGo false false l (l || b)) (evaluate s frame.held v w) _ (λ x w. tt))
    form_leaves at break scope l b i frame w = after_step (MayGo false true l (l || b)) w _ (λ w. (refl, i))
    form_leaves at continue scope l b i frame w = after_step (MayGo false false l (l || b)) w _ (λ w. i)
    form_leaves at empty scope l b i frame w = after_step (MayGo true false l (l || b)) w _ (λ w. refl)
    form_leaves at (mark InitDone) scope l b i frame w = refl
    form_leaves at (mark TaskLoop) scope l b i frame w = refl

    all_leave : (xs : PlainStatements) (scope : List ℕ) (l b : Bool) → AreWholeStatements (here scope l b) xs → (frame : Frame) (w : State) → Leaves (reach_end xs) (have_break xs) l b (execute_from s 0 xs frame w)
    all_leave no_statements scope l b i frame w = refl
    all_leave (more_statements x rest) scope l b i frame w =
        then_leaves (reaches_end x) (reach_end rest) (has_break x) (have_break rest) l b (execute s x frame w) _ (leaves x scope l b i.0 frame w)
        (all_leave rest (scope_after x scope) l b (subst (λ r. AreWholeStatements r rest) (after_here x scope l b) i.1))

    -- from an item on
    from_leaves : (k : ℕ) (xs : PlainStatements) (scope : List ℕ) (l b : Bool) → AreWholeStatements (here scope l b) xs → (frame : Frame) (w : State) → Leaves true true l b (execute_from s k xs frame w)
    from_leaves k no_statements scope l b i frame w = refl
    from_leaves zero (more_statements x rest) scope l b i frame w =
        weaker (reaches_end x && reach_end rest) true (has_break x || have_break rest) true l b (execute_from s 0 (more_statements x rest) frame w) (λ e. refl) (λ e. refl)
        (then_leaves (reaches_end x) (reach_end rest) (has_break x) (have_break rest) l b (execute s x frame w) _ (leaves x scope l b i.0 frame w)
        (all_leave rest (scope_after x scope) l b (subst (λ r. AreWholeStatements r rest) (after_here x scope l b) i.1)))
    from_leaves (suc k) (more_statements x rest) scope l b i frame w = from_leaves k rest (scope_after x scope) l b (subst (λ r. AreWholeStatements r rest) (after_here x scope l b) i.1) frame w

    -- the body of a `switch`
    entered_leaves : (k : Option ℕ) (body : PlainStatement) (scope : List ℕ) (l : Bool) → IsWholeStatement (here scope l true) body → (frame : Frame) (w : State) → Leaves true true l true (enter s k body frame w)
    entered_leaves None (statement at (block xs)) scope l i frame w = refl
    entered_leaves (Some k) (statement at (block xs)) scope l i frame w = block_flows (MayGo true true l (l || true)) (λ frame w. execute_from s k xs frame w) frame w (from_leaves k xs scope l true i (record frame { opened = [] }) w)
    entered_leaves k (statement at form) scope l i frame w = refl

  -- a body whose end can't be reached gives a value wherever its execution ends
  pub body_returns : reach_end f.body ≡ false → (frame : Frame) (w : State) → HoldsOf (λ (done : Done) w. HasValue (given done.flow)) (execute_from s 0 f.body frame w)
  body_returns e frame w =
      holds_map (λ (done : Done) w. MayGo (reach_end f.body) (have_break f.body) false false done.flow) (λ (done : Done) w. HasValue (given done.flow)) (execute_from s 0 f.body frame w) (λ done w m. by_flow done.flow m)
      (all_leave f.body (numbers_from 0 f.parameters) false false (whole.functions number f there).body frame w)
    where
      by_flow : (flow : Flow) → MayGo (reach_end f.body) (have_break f.body) false false flow → HasValue (given flow)
      by_flow normal m = let g : true ≡ false = sym m ∙ e in absurd cc
      by_flow broken m = absurd cc
      by_flow continued m = absurd cc
      by_flow (returned x) m = m
