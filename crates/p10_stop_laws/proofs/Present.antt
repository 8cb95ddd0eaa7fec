-- What stands for variables: no statement takes it away, and the declaration of a variable puts it there.
use Rattle.std.proofs.Common.{◌≡◌, ℕ, zero, suc, ◌+◌, ◌<◌, ◌≤◌, ◌||◌, cond, Bool, true, false, List, [], ◌∷◌, refl, sym, subst, Option, Some, None, Result, Ok, Err}
use Rattle.std.specs.Prelude.{slice_set, slice_get, nat_eq, All}
use Rattle.std.proofs.lemmas.List.Elements.{All-head, All-tail}
use Rattle.std.proofs.lemmas.Option.{none-some}
use Rattle.std.proofs.lemmas.Bool.Decides.{nat_tests}
use Rattle.std.proofs.Common.{arith}
use Rattle.p10_base.specs.declared.span.Span.{Span}
use Rattle.p10_base.specs.declared.at.At.{At}
use Rattle.p10_int.specs.declared.operators.Stop.{Stop}
use Rattle.p10_core.specs.declared.statements.LoopKeyword.{LoopKeyword}
use Rattle.p10_core.specs.declared.statements.LoopKeyword.TheVariants.{While, Do, For}
use Rattle.p10_core.specs.declared.statements.MarkKind.TheVariants.{InitDone, TaskLoop}
use Rattle.p10_core.specs.Types.{PlainType}
use Rattle.p10_core.specs.Typed.{place_at, place_type, PlainInitializer, not_initialized, single, copied, listed, PlainStatement, statement, PlainStatementForm, set, update, copy, evaluate as expression, asserts, declare, declare_static, block, if_then, if_else, loop, switch, break, continue, return, empty, mark, PlainStatements, no_statements, more_statements, statements_list, PlainVariable, PlainProgram}
use Rattle.p10_core.specs.WholePrograms.{is_among, is_declaration, numbers_from}
use Rattle.p10_meaning.specs.declared.pointers.Ptr.{Ptr}
use Rattle.p10_meaning.specs.declared.pointers.Scalar.{Scalar}
use Rattle.p10_meaning.specs.declared.pointers.Cell.{Cell}
use Rattle.p10_meaning.specs.Pointers.{unset, holding, first_of}
use Rattle.p10_meaning.specs.Objects.{declared, write_at}
use Rattle.p10_meaning.specs.States.{State, Progress, gives, ends, step_at, step, and_then, or_undefined}
use Rattle.p10_meaning.specs.Scalars.{number_of, is_true, converted_to, operated, unset_cells}
use Rattle.p10_meaning.specs.Values.{Setting, Held, holds, stands, absent, scalars, width, open_object, Target, Variable, Sensor, Element, pointer_to, read_target, asserted, evaluate, discard, locate}
use Rattle.p10_meaning.specs.Statements.{Frame, Flow, normal, broken, continued, returned, Done, go_on, holding_at, in_block, write_target, part_of, write_part, copy_scalars, listed_scalars, listed_scalar, fill, initialize, declare_variable, test, next_turn, turns, loop_by, before_third, labelled, after_switch, execute, execute_form, execute_from, enter, round, looped}
use Rattle.p10_meaning.specs.Variables.{OnGiven}
use Rattle.p10_meaning.specs.Sound.{Kind, FrameFits, Sound, Grows, Keeps}
use Rattle.p10_meaning.proofs.SoundStatements.{scope_after}

-- ## Variables

-- something stands for a variable: a cell or an object
abbrev pub IsThere : Option Held → Type 0
IsThere None = ⊥
IsThere (Some absent) = ⊥
IsThere (Some (holds cell)) = Unit {0}
IsThere (Some (stands object)) = Unit {0}

-- for each variable in scope
pub record AreThere (scope : List ℕ) (held : List Held) : Type 0 where
  pub each : (k : ℕ) → is_among k scope ≡ true → IsThere (slice_get held k)

-- for each variable for which something stood
pub record Stay (from to : List Held) : Type 0 where
  pub each : (k : ℕ) → IsThere (slice_get from k) → IsThere (slice_get to k)

pub stay_same : (held : List Held) → Stay held held
stay_same held = record { each = λ k i. i }

stay_then : (from over to : List Held) → Stay from over → Stay over to → Stay from to
stay_then from over to a b = record { each = λ k i. b.each k (a.each k i) }

pub there_after : (scope : List ℕ) (from to : List Held) → Stay from to → AreThere scope from → AreThere scope to
there_after scope from to s r = record { each = λ k e. s.each k (r.each k e) }

-- something is put for a variable
put_elsewhere : (h : Held) → IsThere (Some h) → (held : List Held) (n k : ℕ) → IsThere (slice_get held k) → IsThere (slice_get (slice_set held n h) k)
put_elsewhere h t [] n k i = absurd i
put_elsewhere h t (x ∷ held) zero zero i = t
put_elsewhere h t (x ∷ held) zero (suc k) i = i
put_elsewhere h t (x ∷ held) (suc n) zero i = i
put_elsewhere h t (x ∷ held) (suc n) (suc k) i = put_elsewhere h t held n k i

put_here : (h : Held) → IsThere (Some h) → (held : List Held) (n : ℕ) (old : Held) → slice_get held n ≡ Some old → IsThere (slice_get (slice_set held n h) n)
put_here h t [] n old e = absurd (none-some old e)
put_here h t (x ∷ held) zero old e = t
put_here h t (x ∷ held) (suc n) old e = put_here h t held n old e

stay_put : (from held : List Held) (n : ℕ) (h : Held) → IsThere (Some h) → Stay from held → Stay from (slice_set held n h)
stay_put from held n h t s = record { each = λ k i. put_elsewhere h t held n k (s.each k i) }

same_number : (k n : ℕ) → nat_eq k n ≡ true → k ≡ n
same_number k n e = grind (arith, nat_tests, e)

-- the variable that is declared comes into scope
pub scope_put : (scope : List ℕ) (held : List Held) (n : ℕ) (old h : Held) → slice_get held n ≡ Some old → IsThere (Some h) → AreThere scope held → AreThere (n ∷ scope) (slice_set held n h)
scope_put scope held n old h room t r = record { each = λ k e. by_number k (nat_eq k n) refl e }
  where
    by_number : (k : ℕ) (b : Bool) → nat_eq k n ≡ b → (b || is_among k scope) ≡ true → IsThere (slice_get (slice_set held n h) k)
    by_number k true e among = subst (λ m. IsThere (slice_get (slice_set held n h) m)) (sym (same_number k n e)) (put_here h t held n old room)
    by_number k false e among = put_elsewhere h t held n k (r.each k among)

-- a frame that fits variables has room for each
pub room : (p : PlainProgram) (ks : List Kind) (variables : List PlainVariable) (held : List Held) (n : ℕ) (v : PlainVariable) → FrameFits p ks variables held → slice_get variables n ≡ Some v → (old : Held) × (slice_get held n ≡ Some old)
room p ks [] held n v f e = absurd (none-some v e)
room p ks (u ∷ variables) [] n v f e = absurd f
room p ks (u ∷ variables) (h ∷ held) zero v f e = (h, refl)
room p ks (u ∷ variables) (h ∷ held) (suc n) v f e = room p ks variables held n v f.1 e

-- ## Rules

module _ (Q : Done → Type 0) where
  on_step_at : (m : ℕ) (w : State) (go : State → Progress Done) → ((w : State) → OnGiven Q (go w)) → OnGiven Q (step_at m w go)
  on_step_at zero w go h = tt
  on_step_at (suc m) w go h = h (record w { left = m })

  pub on_left : (w : State) (go : State → Progress Done) → ((left : ℕ) → OnGiven Q (go (record w { left = left }))) → OnGiven Q (step w go)
  on_left w go h = by_left w.left
    where
      by_left : (m : ℕ) → OnGiven Q (step_at m w go)
      by_left zero = tt
      by_left (suc m) = h m

  pub on_step : (w : State) (go : State → Progress Done) → ((w : State) → OnGiven Q (go w)) → OnGiven Q (step w go)
  on_step w go h = on_step_at w.left w go h

  pub on_any : {A : Type 0} (o : Progress A) (go : A → State → Progress Done) → ((a : A) (w : State) → OnGiven Q (go a w)) → OnGiven Q (and_then o go)
  on_any (gives a w) go h = h a w
  on_any (ends end w) go h = tt

  pub on_then : (R : Done → Type 0) (o : Progress Done) (go : Done → State → Progress Done) → OnGiven R o → ((d : Done) (w : State) → R d → OnGiven Q (go d w)) → OnGiven Q (and_then o go)
  on_then R (gives d w) go r h = h d w r
  on_then R (ends end w) go r h = tt

  on_or : {A : Type 0} (r : Result A Stop) (span : Span) (w : State) (go : A → Progress Done) → ((a : A) → OnGiven Q (go a)) → OnGiven Q (or_undefined r span w go)
  on_or (Ok a) span w go h = h a
  on_or (Err stop) span w go h = tt

  pub on_if : (b : Bool) (x y : Progress Done) → OnGiven Q x → OnGiven Q y → OnGiven Q (cond b x y)
  on_if true x y f g = f
  on_if false x y f g = g

pub given_weaker : (R Q : Done → Type 0) (o : Progress Done) → ((d : Done) → R d → Q d) → OnGiven R o → OnGiven Q o
given_weaker R Q (gives d w) h r = h d r
given_weaker R Q (ends end w) h r = tt

-- one piece after another, where the first keeps sound states, and what it gives has a property
pub given_then : (p : PlainProgram) (ks : List Kind) (K : List Kind → Done → Type 0) (R Q : Done → Type 0) (o : Progress Done) (go : Done → State → Progress Done) → Keeps p ks K o → OnGiven R o →
    ((d : Done) (w : State) (js : List Kind) → Sound p js w → Grows ks js → K js d → R d → OnGiven Q (go d w)) → OnGiven Q (and_then o go)
given_then p ks K R Q (gives d w) go k r h = h d w k.kinds k.sound k.grows k.value r
given_then p ks K R Q (ends end w) go k r h = tt

-- what holds where a piece goes on
abbrev pub IfNormal : Flow → Type 0 → Type 0
IfNormal normal X = X
IfNormal broken X = Unit {0}
IfNormal continued X = Unit {0}
IfNormal (returned x) X = Unit {0}

pub if_normal : (X : Type 0) (flow : Flow) → X → IfNormal flow X
if_normal X normal x = x
if_normal X broken x = tt
if_normal X continued x = tt
if_normal X (returned y) x = tt

-- ## Items

-- a statement that isn't a declaration leaves what is in scope
pub same_scope : (x : PlainStatement) (scope : List ℕ) → is_declaration x ≡ false → scope_after x scope ≡ scope
same_scope (statement at (declare n initializer)) scope e = absurd cc
same_scope x scope e = refl

-- the first items aren't declarations
abbrev pub NoneSkipped : ℕ → PlainStatements → Type 0
NoneSkipped zero xs = Unit {0}
NoneSkipped (suc k) no_statements = Unit {0}
NoneSkipped (suc k) (more_statements x rest) = (is_declaration x ≡ false) × NoneSkipped k rest

pub none_skipped : (k : ℕ) (xs : PlainStatements) → All (λ x. is_declaration x ≡ false) (statements_list xs) → NoneSkipped k xs
none_skipped zero xs h = tt
none_skipped (suc k) no_statements h = tt
none_skipped (suc k) (more_statements x rest) h =
    (All-head (λ x. is_declaration x ≡ false) x (statements_list rest) h, none_skipped k rest (All-tail (λ x. is_declaration x ≡ false) x (statements_list rest) h))

-- ## Numbers in a row

-- the first numbers are in scope where a call begins
pub below : (i m k : ℕ) → is_among k (numbers_from i m) ≡ true → (i ≤ k) × (k < i + m)
below i zero k e = absurd cc
below i (suc m) k e = by_test (λ e. below (i + 1) m k e) (nat_eq k i) refl e
  where
    by_test : (is_among k (numbers_from (i + 1) m) ≡ true → (i + 1 ≤ k) × (k < i + 1 + m)) → (b : Bool) → nat_eq k i ≡ b → (b || is_among k (numbers_from (i + 1) m)) ≡ true → (i ≤ k) × (k < i + suc m)
    by_test h true t e = let s : k ≡ i = same_number k i t in (omega (arith, s), omega (arith, s))
    by_test h false t e = let b : (i + 1 ≤ k) × (k < i + 1 + m) = h e in let x = b.0 in let y = b.1 in (omega (arith, x), omega (arith, y))

-- ## Statements

module _ (s : Setting) (from : List Held) where
  -- what stood for variables at first still does after a piece
  abbrev Q : Done → Type 0
  Q d = Stay from d.frame.held

  abbrev Runs : (Frame → State → Progress Done) → Type 0
  Runs run = (frame : Frame) (w : State) → Stay from frame.held → OnGiven Q (run frame w)

  write_stays : (span : Span) (target : Target) (cell : Cell) → Runs (write_target span target cell)
  write_stays span (Variable n) cell frame w t = stay_put from frame.held n (holds cell) tt t
  write_stays span Sensor cell frame w t = t
  write_stays span (Element q) cell frame w t = on_or Q (write_at w.objects q cell) span w _ (λ objects. t)

  copy_stays : (m i : ℕ) (to_span : Span) (to : Ptr) (from_span : Span) (source : Ptr) → Runs (copy_scalars m i to_span to from_span source)
  copy_stays zero i to_span to from_span source frame w t = t
  copy_stays (suc m) i to_span to from_span source frame w t =
      on_step Q w _ (λ w. on_or Q (part_of w.objects source i) from_span w _ (λ cell. on_or Q (write_part w.objects to i cell) to_span w _ (λ objects. copy_stays m (suc i) to_span to from_span source frame (record w { objects = objects }) t)))

  fill_stays : (span : Span) (xs : List (ℕ × Scalar)) (types : List PlainType) (i : ℕ) (q : Ptr) → Runs (fill span xs types i q)
  fill_stays span xs [] i q frame w t = t
  fill_stays span xs (u ∷ types) i q frame w t =
      on_step Q w _ (λ w. on_or Q (write_part w.objects q i (holding (listed_scalar i u xs))) span w _ (λ objects. fill_stays span xs types (suc i) q frame (record w { objects = objects }) t))

  pub initialize_stays : (span : Span) (u : PlainType) (target : Target) (initializer : PlainInitializer) → Runs (initialize s span u target initializer)
  initialize_stays span u target not_initialized frame w t = t
  initialize_stays span u target (single v) frame w t = on_any Q (evaluate s frame.held v w) _ (λ x w. write_stays span target (holding x) frame w t)
  initialize_stays span u target (copied q) frame w t = on_step Q w _ (λ w. on_any Q (locate s frame.held q w) _ (λ source w. copy_stays (width s.program u) 0 span (pointer_to target) (place_at q).span (pointer_to source) frame w t))
  initialize_stays span u target (listed at items) frame w t = on_any Q (listed_scalars s frame.held items w) _ (λ xs w. fill_stays span xs (scalars s.program u) 0 (pointer_to target) frame w t)

  declare_stays : (span : Span) (n : ℕ) (v : Option PlainVariable) (initializer : PlainInitializer) → Runs (declare_variable s span n v initializer)
  declare_stays span n None initializer frame w t = t
  declare_stays span n (Some v) initializer frame w t = on_if Q v.frame _ _
      (initialize_stays span v.type (Variable n) initializer (holding_at frame n (holds unset)) w (stay_put from frame.held n (holds unset) tt t))
      (initialize_stays span v.type (Element (first_of w.opened (width s.program v.type) 1)) initializer (record { held = slice_set frame.held n (stands w.opened); opened = w.opened ∷ frame.opened })
      (open_object declared (unset_cells (scalars s.program v.type)) w) (stay_put from frame.held n (stands w.opened) tt t))

  block_stays : (run : Frame → State → Progress Done) → Runs run → Runs (in_block run)
  block_stays run k frame w t = on_then Q Q (run (record frame { opened = [] }) w) _ (k (record frame { opened = [] }) w t) (λ d w t. t)

  go_stays : (rest : Frame → State → Progress Done) → Runs rest → (flow : Flow) → Runs (λ frame w. go_on flow frame w rest)
  go_stays rest k normal frame w t = k frame w t
  go_stays rest k broken frame w t = t
  go_stays rest k continued frame w t = t
  go_stays rest k (returned x) frame w t = t

  next_stays : (go : Frame → State → Progress Done) → Runs go → (flow : Flow) → Runs (λ frame w. next_turn flow frame w go)
  next_stays go k normal frame w t = k frame w t
  next_stays go k continued frame w t = k frame w t
  next_stays go k broken frame w t = t
  next_stays go k (returned x) frame w t = t

  third_stays : (third : Frame → State → Progress Done) → Runs third → (flow : Flow) → Runs (λ frame w. before_third flow frame w third)
  third_stays third k normal frame w t = k frame w t
  third_stays third k continued frame w t = k frame w t
  third_stays third k broken frame w t = t
  third_stays third k (returned x) frame w t = t

  turns_stay : (m : ℕ) (tested : Frame → State → Progress Bool) (body : Frame → State → Progress Done) → Runs body → Runs (turns m tested body)
  turns_stay zero tested body k frame w t = tt
  turns_stay (suc m) tested body k frame w t =
      on_any Q (tested frame w) _ (λ more w. on_if Q more _ _ (on_then Q Q (body frame w) _ (k frame w t) (λ d w t. next_stays (turns m tested body) (turns_stay m tested body k) d.flow d.frame w t)) t)

  loop_stays : (keyword : LoopKeyword) (m : ℕ) (tested : Frame → State → Progress Bool) (body : Frame → State → Progress Done) → Runs body → Runs (loop_by keyword m tested body)
  loop_stays While m tested body k frame w t = turns_stay m tested body k frame w t
  loop_stays For m tested body k frame w t = turns_stay m tested body k frame w t
  loop_stays Do m tested body k frame w t = on_then Q Q (body frame w) _ (k frame w t) (λ d w t. next_stays (turns m tested body) (turns_stay m tested body k) d.flow d.frame w t)

  switch_stays : (flow : Flow) (frame : Frame) (w : State) → Stay from frame.held → OnGiven Q (after_switch (record { flow = flow; frame = frame }) w)
  switch_stays normal frame w t = t
  switch_stays broken frame w t = t
  switch_stays continued frame w t = t
  switch_stays (returned x) frame w t = t

  mutual
    pub statement_stays : (x : PlainStatement) → Runs (execute s x)
    statement_stays (statement at form) frame w t = form_stays at form frame w t

    form_stays : (at : At) (form : PlainStatementForm) → Runs (execute_form s at form)
    form_stays at (declare n initializer) frame w t = on_step Q w _ (λ w. declare_stays at.span n (slice_get s.variables n) initializer frame w t)
    form_stays at (set q v) frame w t = on_step Q w _ (λ w. on_any Q (locate s frame.held q w) _ (λ target w. on_any Q (evaluate s frame.held v w) _ (λ x w. write_stays (place_at q).span target (holding x) frame w t)))
    form_stays at (update kind op u q v) frame w t = on_step Q w _ (λ w. on_any Q (locate s frame.held q w) _ (λ target w. on_step Q w _ (λ w. on_any Q (read_target (place_at q).span (place_type q) frame.held target w) _ (λ x w.
        on_any Q (evaluate s frame.held v w) _ (λ y w. on_step Q w _ (λ w. on_or Q (operated op u w.objects (converted_to u x) y) at.span w _ (λ z. write_stays (place_at q).span target (holding (converted_to (place_type q) z)) frame w t)))))))
    form_stays at (copy q r) frame w t = on_step Q w _ (λ w. on_any Q (locate s frame.held q w) _ (λ target w. on_any Q (locate s frame.held r w) _ (λ source w.
        copy_stays (width s.program (place_type q)) 0 (place_at q).span (pointer_to target) (place_at r).span (pointer_to source) frame w t)))
    form_stays at (asserts name v) frame w t = on_step Q w _ (λ w. on_any Q (evaluate s frame.held v w) _ (λ x w. on_any Q (asserted name.span x w) _ (λ none w. t)))
    form_stays at (expression v) frame w t = on_step Q w _ (λ w. on_any Q (discard s frame.held v w) _ (λ x w. t))
    form_stays at (if_then v x) frame w t = on_step Q w _ (λ w. on_any Q (evaluate s frame.held v w) _ (λ y w. on_if Q (is_true y) _ _ (statement_stays x frame w t) t))
    form_stays at (if_else v x y) frame w t = on_step Q w _ (λ w. on_any Q (evaluate s frame.held v w) _ (λ z w. on_if Q (is_true z) _ _ (statement_stays x frame w t) (statement_stays y frame w t)))
    form_stays at (loop head first tested third body) frame w t = on_step Q w _ (λ w. block_stays (looped s head.keyword first tested third body) (λ frame w t.
        on_then Q Q (execute_from s 0 first frame w) _ (statements_stay 0 first frame w t) (λ d w t.
        go_stays (λ frame w. loop_by head.keyword s.turns (λ frame w. test s tested frame w) (round s third body) frame w)
        (loop_stays head.keyword s.turns (λ frame w. test s tested frame w) (round s third body) (λ frame w t.
        on_then Q Q (execute s body frame w) _ (statement_stays body frame w t) (λ d w t. third_stays (λ frame w. execute_from s 0 third frame w) (statements_stay 0 third) d.flow d.frame w t))) d.flow d.frame w t)) frame w t)
    form_stays at (switch keyword v labels body) frame w t = on_step Q w _ (λ w. on_any Q (evaluate s frame.held v w) _ (λ x w.
        on_then Q Q (enter s (labelled (number_of x) labels.cases labels.otherwise) body frame w) after_switch (entered_stays (labelled (number_of x) labels.cases labels.otherwise) body frame w t) (λ d w t. switch_stays d.flow d.frame w t)))
    form_stays at (return keyword None) frame w t = on_step Q w _ (λ w. t)
    form_stays at (return keyword (Some v)) frame w t = on_step Q w _ (λ w. on_any Q (evaluate s frame.held v w) _ (λ x w. t))
    form_stays at break frame w t = on_step Q w _ (λ w. t)
    form_stays at continue frame w t = on_step Q w _ (λ w. t)
    form_stays at empty frame w t = on_step Q w _ (λ w. t)
    form_stays at (block xs) frame w t = block_stays (λ frame w. execute_from s 0 xs frame w) (statements_stay 0 xs) frame w t
    form_stays at (declare_static n) frame w t = t
    form_stays at (mark InitDone) frame w t = t
    form_stays at (mark TaskLoop) frame w t = t

    statements_stay : (k : ℕ) (xs : PlainStatements) → Runs (execute_from s k xs)
    statements_stay k no_statements frame w t = t
    statements_stay zero (more_statements x rest) frame w t = on_then Q Q (execute s x frame w) _ (statement_stays x frame w t) (λ d w t. go_stays (λ frame w. execute_from s zero rest frame w) (statements_stay zero rest) d.flow d.frame w t)
    statements_stay (suc k) (more_statements x rest) frame w t = statements_stay k rest frame w t

    entered_stays : (k : Option ℕ) (body : PlainStatement) → Runs (enter s k body)
    entered_stays None (statement at (block xs)) frame w t = t
    entered_stays (Some k) (statement at (block xs)) frame w t = block_stays (λ frame w. execute_from s k xs frame w) (statements_stay k xs) frame w t
    entered_stays k (statement at form) frame w t = t

  -- a round of a loop
  pub round_stays : (third : PlainStatements) (body : PlainStatement) → Runs (round s third body)
  round_stays third body frame w t = on_then Q Q (execute s body frame w) _ (statement_stays body frame w t) (λ d w t. third_stays (λ frame w. execute_from s 0 third frame w) (statements_stay 0 third) d.flow d.frame w t)
