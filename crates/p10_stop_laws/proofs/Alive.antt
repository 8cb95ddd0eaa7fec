-- A declared object that was opened before a piece is still there after it, unless it was opened in the block that the piece ends.
use Rattle.std.proofs.Common.{◌≡◌, ℕ, zero, suc, ◌+◌, ◌*◌, ◌<◌, ◌&&◌, ltb, leb, eqb, arith, cond, Bool, true, false, List, [], ◌∷◌, length, min, set, refl, sym, ◌∙◌, ap, subst, ℤ, Option, Some, None, Result, Ok, Err}
use Rattle.std.specs.Prelude.{slice_get, slice_set}
use Rattle.std.proofs.lemmas.Option.{same_Some, none-some}
use Rattle.std.proofs.lemmas.Bool.{eqb-true}
use Rattle.p10_base.specs.declared.span.Span.{Span}
use Rattle.p10_base.specs.declared.at.At.{At}
use Rattle.p10_int.specs.declared.operators.Stop.{Stop}
use Rattle.p10_int.specs.declared.operators.Stop.TheVariants.{U6, U7, U11}
use Rattle.p10_core.specs.declared.statements.LoopKeyword.{LoopKeyword}
use Rattle.p10_core.specs.declared.statements.LoopKeyword.TheVariants.{While, Do, For}
use Rattle.p10_core.specs.declared.statements.MarkKind.TheVariants.{InitDone, TaskLoop}
use Rattle.p10_core.specs.declared.typed.Library.{Library}
use Rattle.p10_core.specs.declared.typed.Library.TheVariants.{Assert, CAssert, Getchar, Putchar, Malloc, Calloc, Free}
use Rattle.p10_core.specs.Types.{PlainType, bare}
use Rattle.p10_core.specs.Sizes.{repeated}
use Rattle.p10_core.specs.Typed.{PlainValue, value, PlainForm, constant, read, sense, address, decay, convert, cast, unary, binary, logic, conditional, call, built_in, PlainPlace, place, place_at, place_type, PlainPlaceForm, variable, global, literal, index, member, dereference, PlainValues, no_values, more_values, PlainWritten, one_scalar, scalars_of_text, PlainItem, PlainInitializer, not_initialized, single, copied, listed, PlainStatement, statement, PlainStatementForm, set as assign, update, copy, evaluate as expression, asserts, declare, declare_static, block, if_then, if_else, loop, switch, break, continue, return, empty, mark, PlainStatements, no_statements, more_statements, PlainVariable, PlainFunction, PlainProgram}
use Rattle.p10_meaning.specs.declared.pointers.Window.{Window}
use Rattle.p10_meaning.specs.declared.pointers.Ptr.{Ptr}
use Rattle.p10_meaning.specs.declared.pointers.Ptr.TheVariants.{Null, To}
use Rattle.p10_meaning.specs.declared.pointers.Scalar.{Scalar}
use Rattle.p10_meaning.specs.declared.pointers.Cell.{Cell}
use Rattle.p10_meaning.specs.Pointers.{unset, holding, read_of, whole_window, first_of, last_number, window_in}
use Rattle.p10_meaning.specs.Objects.{Origin, declared, allocated, literal as text, Object, on_ok, or_stop, find, scalar_at, may_write, target_at, put, put_at, write_at, cell_at, reach, shift, inner, opened_with, closed, all_closed, is_allocated, freed, release}
use Rattle.p10_meaning.specs.States.{State, Progress, gives, ends, step_at, step, and_then, or_undefined, counted}
use Rattle.p10_meaning.specs.Scalars.{number_of, pointer_of, is_true, converted_to, operated, operated_unary, unset_cells, zero_cells}
use Rattle.p10_meaning.specs.Values.{Calls, Setting, Held, holds, stands, scalars, width, size, open_object, Target, Variable, Sensor, Element, variable_target, global_target, literal_target, literal_number, pointer_to, held_cell, sensed_from, read_target, asserted, next_byte, is_denied, granted, requested, elements, pointee, first_argument, library, used, give, is_void, is_structure, element_type, element_count, scalars_before, is_decided, evaluate, discard, perform, evaluate_all, locate, find_place}
use Rattle.p10_meaning.specs.Statements.{Frame, Flow, normal, broken, continued, returned, Done, go_on, in_block, write_target, part_of, write_part, copy_scalars, written_scalars, listed_scalars, listed_scalar, fill, initialize, declare_variable, test, next_turn, turns, loop_by, before_third, labelled, after_switch, execute, execute_form, execute_from, enter, round, looped}
use Rattle.p10_meaning.specs.Calling.{Depth, deeper, raised, Entered, with_variable, entered, leave_call, setting_of, enter_call, call_at}
use Rattle.p10_meaning.specs.Sound.{Kind, Sound}
use Rattle.p10_meaning.specs.Apart.{OpensOne}
use Rattle.p10_meaning.proofs.StayApart.{opens_one}

-- ## Objects

-- a declared object of a number of scalars is there
pub record Alive (o m : ℕ) (objects : List Object) : Type 0 where
  pub object : Object
  pub there : find o objects ≡ Some object
  pub origin_is : object.origin ≡ declared
  pub cells_are : length object.cells ≡ m

-- the object is none of these
abbrev pub NotIn : ℕ → List ℕ → Type 0
NotIn o [] = Unit {0}
NotIn o (n ∷ ns) = (eqb n o ≡ false) × NotIn o ns

length_set : (cells : List Cell) (i : ℕ) (cell : Cell) → length (set cells i cell) ≡ length cells
length_set [] i cell = refl
length_set (x ∷ cells) zero cell = refl
length_set (x ∷ cells) (suc i) cell = ap suc (length_set cells i cell)

alive_more : (o m : ℕ) (x : Object) (objects after : List Object) → eqb x.number o ≡ false → Alive o m after → Alive o m (x ∷ after)
alive_more o m x objects after e a = record { object = a.object; there = ap (λ b. cond b (Some x) (find o after)) e ∙ a.there; origin_is = a.origin_is; cells_are = a.cells_are }

-- the first object with the number is the one
alive_first : (o m : ℕ) (x : Object) (objects : List Object) → eqb x.number o ≡ true → x.origin ≡ declared → length x.cells ≡ m → Alive o m (x ∷ objects)
alive_first o m x objects e origin cells = record { object = x; there = ap (λ b. cond b (Some x) (find o objects)) e; origin_is = origin; cells_are = cells }

record Stands (o m : ℕ) (x : Object) : Type 0 where
  origin_is : x.origin ≡ declared
  cells_are : length x.cells ≡ m

head_stands : (o m : ℕ) (x : Object) (objects : List Object) → eqb x.number o ≡ true → Alive o m (x ∷ objects) → Stands o m x
head_stands o m x objects e a =
    let same : x ≡ a.object = same_Some _ _ (sym (ap (λ b. cond b (Some x) (find o objects)) e) ∙ a.there) in
    record { origin_is = ap (λ (x : Object). x.origin) same ∙ a.origin_is; cells_are = ap (λ (x : Object). length x.cells) same ∙ a.cells_are }

rest_alive : (o m : ℕ) (x : Object) (objects : List Object) → eqb x.number o ≡ false → Alive o m (x ∷ objects) → Alive o m objects
rest_alive o m x objects e a = record { object = a.object; there = sym (ap (λ b. cond b (Some x) (find o objects)) e) ∙ a.there; origin_is = a.origin_is; cells_are = a.cells_are }

-- a write changes no object but its cells
alive_put : (o m n i : ℕ) (cell : Cell) (objects : List Object) → Alive o m objects → Alive o m (put objects n i cell)
alive_put o m n i cell [] a = a
alive_put o m n i cell (x ∷ objects) a = by_number (λ a. alive_put o m n i cell objects a) (eqb x.number n) (eqb x.number o) refl
  where
    by_number : (Alive o m objects → Alive o m (put objects n i cell)) → (b c : Bool) → eqb x.number o ≡ c → Alive o m (cond b (record x { cells = set x.cells i cell } ∷ objects) (x ∷ put objects n i cell))
    by_number k true true e = let s : Stands o m x = head_stands o m x objects e a in alive_first o m (record x { cells = set x.cells i cell }) objects e s.origin_is (length_set x.cells i cell ∙ s.cells_are)
    by_number k true false e = alive_more o m (record x { cells = set x.cells i cell }) objects objects e (rest_alive o m x objects e a)
    by_number k false true e = let s : Stands o m x = head_stands o m x objects e a in alive_first o m x (put objects n i cell) e s.origin_is s.cells_are
    by_number k false false e = alive_more o m x objects (put objects n i cell) e (k (rest_alive o m x objects e a))

alive_put_at : (o m : ℕ) (q : Ptr) (cell : Cell) (objects : List Object) → Alive o m objects → Alive o m (put_at objects q cell)
alive_put_at o m Null cell objects a = a
alive_put_at o m (To n window i) cell objects a = alive_put o m n (window.start + i) cell objects a

ok_of : {A B : Type 0} (r : Result A Stop) (x y : B) → on_ok r (λ _. Ok x) ≡ Ok y → x ≡ y
ok_of (Ok a) x y e = cc
ok_of (Err stop) x y e = absurd cc

alive_written : (o m : ℕ) (q : Ptr) (cell : Cell) (objects after : List Object) → write_at objects q cell ≡ Ok after → Alive o m objects → Alive o m after
alive_written o m q cell objects after e a = subst (Alive o m) (ok_of (target_at objects q) (put_at objects q cell) after e) (alive_put_at o m q cell objects a)

pub alive_part : (o m : ℕ) (q : Ptr) (i : ℕ) (cell : Cell) (objects after : List Object) → write_part objects q i cell ≡ Ok after → Alive o m objects → Alive o m after
alive_part o m q i cell objects after e a = of (inner objects q i 1 1) e
  where
    of : (r : Result Ptr Stop) → on_ok r (λ r. write_at objects r cell) ≡ Ok after → Alive o m after
    of (Ok r) e = alive_written o m r cell objects after e a
    of (Err stop) e = absurd cc

-- another object is opened, or closed
alive_opened : (o m n : ℕ) (origin : Origin) (cells : List Cell) (objects : List Object) → Alive o m objects → Alive o m (opened_with objects n origin cells)
alive_opened o m n origin cells [] a = absurd (none-some _ a.there)
alive_opened o m n origin cells (x ∷ objects) a = by_number (λ a. alive_opened o m n origin cells objects a) (eqb x.number o) refl
  where
    by_number : (Alive o m objects → Alive o m (opened_with objects n origin cells)) → (b : Bool) → eqb x.number o ≡ b → Alive o m (x ∷ opened_with objects n origin cells)
    by_number k true e = let s : Stands o m x = head_stands o m x objects e a in alive_first o m x (opened_with objects n origin cells) e s.origin_is s.cells_are
    by_number k false e = alive_more o m x objects (opened_with objects n origin cells) e (k (rest_alive o m x objects e a))

alive_closed : (o m n : ℕ) (objects : List Object) → eqb n o ≡ false → Alive o m objects → Alive o m (closed n objects)
alive_closed o m n [] d a = a
alive_closed o m n (x ∷ objects) d a = by_number (λ a. alive_closed o m n objects d a) (eqb x.number n) (eqb x.number o) refl refl
  where
    by_number : (Alive o m objects → Alive o m (closed n objects)) → (b c : Bool) → eqb x.number n ≡ b → eqb x.number o ≡ c → Alive o m (cond b objects (x ∷ closed n objects))
    by_number k true true h e = let u : x.number ≡ n = eqb-true x.number n h in let v : eqb n o ≡ true = subst (λ (k : ℕ). eqb k o ≡ true) u e in absurd cc
    by_number k true false h e = rest_alive o m x objects e a
    by_number k false true h e = let s : Stands o m x = head_stands o m x objects e a in alive_first o m x (closed n objects) e s.origin_is s.cells_are
    by_number k false false h e = alive_more o m x objects (closed n objects) e (k (rest_alive o m x objects e a))

alive_all_closed : (o m : ℕ) (ns : List ℕ) (objects : List Object) → NotIn o ns → Alive o m objects → Alive o m (all_closed ns objects)
alive_all_closed o m [] objects d a = a
alive_all_closed o m (n ∷ ns) objects d a = alive_all_closed o m ns (closed n objects) d.1 (alive_closed o m n objects d.0 a)

-- `free` ends allocations alone
alive_freed : (o m n : ℕ) (window : Window) (i : ℕ) (objects after : List Object) (x : Option Object) → find n objects ≡ x → freed objects n window i x ≡ Ok after → Alive o m objects → Alive o m after
alive_freed o m n window i objects after None f e a = absurd cc
alive_freed o m n window i objects after (Some x) f e a = by_origin (is_allocated x.origin) refl (eqb n o) refl
  where
    closes : (b : Bool) → cond b (Ok (closed n objects)) (Err U11) ≡ Ok after → closed n objects ≡ after
    closes true e = cc
    closes false e = absurd cc

    by_origin : (b : Bool) → is_allocated x.origin ≡ b → (c : Bool) → eqb n o ≡ c → Alive o m after
    by_origin b h false d = subst (Alive o m) (closes (is_allocated x.origin && window.whole && eqb i 0) e) (alive_closed o m n objects d a)
    by_origin false h true d = let k : cond (false && window.whole && eqb i 0) (Ok (closed n objects)) (Err U11) ≡ Ok after = subst (λ b. cond (b && window.whole && eqb i 0) (Ok (closed n objects)) (Err U11) ≡ Ok after) h e in absurd cc
    by_origin true h true d =
        let u : n ≡ o = eqb-true n o d in
        let same : a.object ≡ x = same_Some _ _ (sym a.there ∙ subst (λ (k : ℕ). find k objects ≡ Some x) u f) in
        let here : x.origin ≡ declared = ap (λ (x : Object). x.origin) (sym same) ∙ a.origin_is in
        let no : is_allocated declared ≡ true = subst (λ origin. is_allocated origin ≡ true) here h in
        absurd cc

alive_released : (o m : ℕ) (q : Ptr) (objects after : List Object) → release objects q ≡ Ok after → Alive o m objects → Alive o m after
alive_released o m Null objects after e a = let u : objects ≡ after = cc in subst (Alive o m) u a
alive_released o m (To n window i) objects after e a = alive_freed o m n window i objects after (find n objects) refl e a

-- ## States

-- the object was opened, and is there
pub record Safe (o m : ℕ) (w : State) : Type 0 where
  pub before : o < w.opened
  pub alive : Alive o m w.objects

not_new : (o n : ℕ) → o < n → eqb n o ≡ false
not_new o n l = by_test (eqb n o) refl
  where
    by_test : (b : Bool) → eqb n o ≡ b → b ≡ false
    by_test false e = refl
    by_test true e = let s : n ≡ o = eqb-true n o e in absurd (omega (arith, l, s))

opened_safe : (o m : ℕ) (w : State) (origin : Origin) (cells : List Cell) → Safe o m w → Safe o m (open_object origin cells w)
opened_safe o m w origin cells a = let l = a.before in record { before = omega (arith, l); alive = alive_opened o m w.opened origin cells w.objects a.alive }

-- the object that is opened is there
pub new_safe : (p : PlainProgram) (ks : List Kind) (w : State) (cells : List Cell) → Sound p ks w → Safe w.opened (length cells) (open_object declared cells w)
new_safe p ks w cells so =
    let new : OpensOne w.objects w.opened declared cells = opens_one p ks w so declared cells in
    record { before = omega (arith); alive = record { object = record { number = w.opened; origin = declared; cells = cells }; there = new.new; origin_is = refl; cells_are = refl } }

-- what holds of the state in which a piece goes on
abbrev pub OnState : {A : Type 0} → (State → Type 0) → Progress A → Type 0
OnState P (gives a w) = P w
OnState P (ends end w) = Unit {0}

module _ (P : State → Type 0) where
  state_then : {A B : Type 0} (x : Progress A) (go : A → State → Progress B) → OnState P x → ((a : A) (w : State) → P w → OnState P (go a w)) → OnState P (and_then x go)
  state_then (gives a w) go h k = k a w h
  state_then (ends end w) go h k = tt

  state_or : {A B : Type 0} (r : Result A Stop) (span : Span) (w : State) (go : A → Progress B) → ((a : A) → r ≡ Ok a → OnState P (go a)) → OnState P (or_undefined r span w go)
  state_or (Ok a) span w go h = h a refl
  state_or (Err stop) span w go h = tt

  state_if : {A : Type 0} (b : Bool) (x y : Progress A) → OnState P x → OnState P y → OnState P (cond b x y)
  state_if true x y f g = f
  state_if false x y f g = g

-- calls leave it
pub record CallsLeave (o m : ℕ) (calls : Calls) : Type 0 where
  pub leaves : (f : ℕ) (xs : List Scalar) (w : State) → Safe o m w → OnState (Safe o m) (calls f xs w)

-- ## Values

module _ (s : Setting) (o m : ℕ) (called : CallsLeave o m s.call) where
  abbrev P : State → Type 0
  P = Safe o m

  step_safe : {A : Type 0} (w : State) (go : State → Progress A) → Safe o m w → ((left : ℕ) → Safe o m (record w { left = left }) → OnState P (go (record w { left = left }))) → OnState P (step w go)
  step_safe w go a h = by_left w.left
    where
      by_left : (k : ℕ) → OnState P (step_at k w go)
      by_left zero = tt
      by_left (suc k) = h k (record { before = a.before; alive = a.alive })

  sensed_safe : (sensors : List ℤ) (t : PlainType) (w : State) → Safe o m w → OnState P (sensed_from sensors t w)
  sensed_safe [] t w a = a
  sensed_safe (z ∷ sensors) t w a = record { before = a.before; alive = a.alive }

  read_safe : (span : Span) (t : PlainType) (held : List Held) (target : Target) (w : State) → Safe o m w → OnState P (read_target span t held target w)
  read_safe span t held (Variable n) w a = state_or P (read_of (held_cell (slice_get held n))) span w _ (λ x e. a)
  read_safe span t held Sensor w a = sensed_safe w.sensors t w a
  read_safe span t held (Element q) w a = state_or P (on_ok (cell_at w.objects q) read_of) span w _ (λ x e. a)

  requested_safe : (t : PlainType) (n : ℕ) (fill : List PlainType → List Cell) (w : State) → Safe o m w → OnState P (requested s.program t n fill w)
  requested_safe t n fill w a =
      state_if P (ltb 0 (n * size s.program t) && leb (n * size s.program t) 1048576) _ _ (granted_safe (width s.program t) (fill (repeated n (scalars s.program t))) (record w { requests = suc w.requests }) (record { before = a.before; alive = a.alive })) a
    where
      granted_safe : (stride : ℕ) (cells : List Cell) (w : State) → Safe o m w → OnState P (granted stride n cells w)
      granted_safe stride cells w a =
          let l = a.before in
          state_if P (is_denied w.denied w.requests) _ _ a (record { before = omega (arith, l); alive = alive_opened o m w.opened allocated cells w.objects a.alive })

  library_safe : (f : Library) (span : Span) (t : PlainType) (xs : List Scalar) (w : State) → Safe o m w → OnState P (library s.program f span t xs w)
  library_safe Assert span t xs w a = state_if P (is_true (first_argument xs)) _ _ a tt
  library_safe CAssert span t xs w a = a
  library_safe Getchar span t xs w a = byte_safe w.input
    where
      byte_safe : (input : List ℕ) → OnState P (next_byte input w)
      byte_safe [] = a
      byte_safe (byte ∷ input) = record { before = a.before; alive = a.alive }
  library_safe Putchar span t xs w a = record { before = a.before; alive = a.alive }
  library_safe Malloc span t xs w a = requested_safe (pointee t) (elements xs) unset_cells (counted w) (record { before = a.before; alive = a.alive })
  library_safe Calloc span t xs w a = requested_safe (pointee t) (elements xs) zero_cells (counted w) (record { before = a.before; alive = a.alive })
  library_safe Free span t xs w a = state_or P (release (counted w).objects (pointer_of (first_argument xs))) span (counted w) _ (λ objects e.
      record { before = a.before; alive = alive_released o m (pointer_of (first_argument xs)) w.objects objects e a.alive })

  module _ (held : List Held) where
    mutual
      pub value_safe : (v : PlainValue) (w : State) → Safe o m w → OnState P (evaluate s held v w)
      value_safe (value at t form) w a = state_then P (perform s held at t form w) _ (form_safe at t form w a) (λ x w a. state_or P (used x) at.span w _ (λ x e. a))

      pub discard_safe : (v : PlainValue) (w : State) → Safe o m w → OnState P (discard s held v w)
      discard_safe (value at t form) w a = form_safe at t form w a

      form_safe : (at : At) (t : PlainType) (form : PlainForm) (w : State) → Safe o m w → OnState P (perform s held at t form w)
      form_safe at t (constant z) w a = step_safe w _ a (λ left a. a)
      form_safe at t (read q) w a = step_safe w _ a (λ left a. state_then P (locate s held q (record w { left = left })) _ (place_safe q (record w { left = left }) a) (λ target w a.
          state_if P (is_structure t) _ _ a (state_then P (read_target (place_at q).span t held target w) give (read_safe (place_at q).span t held target w a) (λ x w a. a))))
      form_safe at t (sense k) w a = step_safe w _ a (λ left a. state_then P (sensed_from w.sensors t (record w { left = left })) give (sensed_safe w.sensors t (record w { left = left }) a) (λ x w a. a))
      form_safe at t (address q) w a = step_safe w _ a (λ left a. state_then P (locate s held q (record w { left = left })) _ (place_safe q (record w { left = left }) a) (λ target w a. a))
      form_safe at t (decay q) w a = step_safe w _ a (λ left a. state_then P (locate s held q (record w { left = left })) _ (place_safe q (record w { left = left }) a) (λ target w a.
          state_or P (inner w.objects (pointer_to target) 0 (width s.program (element_type (place_type q))) (element_count (place_type q))) at.span w _ (λ r e. a)))
      form_safe at t (convert v) w a = state_then P (evaluate s held v w) _ (value_safe v w a) (λ x w a. a)
      form_safe at t (cast v) w a = step_safe w _ a (λ left a.
          state_if P (is_void t) _ _ (state_then P (discard s held v (record w { left = left })) _ (discard_safe v (record w { left = left }) a) (λ x w a. a))
          (state_then P (evaluate s held v (record w { left = left })) _ (value_safe v (record w { left = left }) a) (λ x w a. a)))
      form_safe at t (unary op v) w a = step_safe w _ a (λ left a. state_then P (evaluate s held v (record w { left = left })) _ (value_safe v (record w { left = left }) a) (λ x w a.
          state_or P (operated_unary op t x) at.span w _ (λ z e. a)))
      form_safe at t (binary op x y) w a = step_safe w _ a (λ left a. state_then P (evaluate s held x (record w { left = left })) _ (value_safe x (record w { left = left }) a) (λ l w a.
          state_then P (evaluate s held y w) _ (value_safe y w a) (λ r w a. state_or P (operated op t w.objects l r) at.span w _ (λ z e. a))))
      form_safe at t (logic op x y) w a = step_safe w _ a (λ left a. state_then P (evaluate s held x (record w { left = left })) _ (value_safe x (record w { left = left }) a) (λ l w a.
          state_if P (is_decided op (is_true l)) _ _ a (state_then P (evaluate s held y w) _ (value_safe y w a) (λ r w a. a))))
      form_safe at t (conditional v x y) w a = step_safe w _ a (λ left a. state_then P (evaluate s held v (record w { left = left })) _ (value_safe v (record w { left = left }) a) (λ z w a.
          state_then P (cond (is_true z) (evaluate s held x w) (evaluate s held y w)) give (state_if P (is_true z) (evaluate s held x w) (evaluate s held y w) (value_safe x w a) (value_safe y w a)) (λ r w a. a)))
      form_safe at t (call name k arguments) w a = step_safe w _ a (λ left a. state_then P (evaluate_all s held arguments (record w { left = left })) _ (all_safe arguments (record w { left = left }) a) (λ xs w a. called.leaves k xs w a))
      form_safe at t (built_in name k arguments) w a = step_safe w _ a (λ left a.
          state_then P (evaluate_all s held arguments (record w { left = left })) _ (all_safe arguments (record w { left = left }) a) (λ xs w a. library_safe k at.span t xs w a))

      pub all_safe : (vs : PlainValues) (w : State) → Safe o m w → OnState P (evaluate_all s held vs w)
      all_safe no_values w a = a
      all_safe (more_values v vs) w a = state_then P (evaluate s held v w) _ (value_safe v w a) (λ x w a. state_then P (evaluate_all s held vs w) _ (all_safe vs w a) (λ xs w a. a))

      pub place_safe : (q : PlainPlace) (w : State) → Safe o m w → OnState P (locate s held q w)
      place_safe (place at t form) w a = find_safe at t form w a

      find_safe : (at : At) (t : PlainType) (form : PlainPlaceForm) (w : State) → Safe o m w → OnState P (find_place s held at t form w)
      find_safe at t (variable k) w a = state_or P (variable_target k (width s.program t) (slice_get held k)) at.span w _ (λ target e. a)
      find_safe at t (global k) w a = state_or P (global_target k (width s.program t) (slice_get s.program.objects k)) at.span w _ (λ target e. a)
      find_safe at t (literal k bytes) w a = state_or P (literal_target (width s.program t) (literal_number k (length s.program.objects) s.program.literals)) at.span w _ (λ target e. a)
      find_safe at t (index x y) w a = step_safe w _ a (λ left a. state_then P (evaluate s held x (record w { left = left })) _ (value_safe x (record w { left = left }) a) (λ l w a.
          state_then P (evaluate s held y w) _ (value_safe y w a) (λ r w a. state_or P (shift w.objects (pointer_of l) (number_of r)) at.span w _ (λ q e. a))))
      find_safe at t (member q k) w a = step_safe w _ a (λ left a. state_then P (locate s held q (record w { left = left })) _ (place_safe q (record w { left = left }) a) (λ target w a.
          state_or P (inner w.objects (pointer_to target) (scalars_before s.program (bare s.program.structures (place_type q)) k) (width s.program t) 1) at.span w _ (λ r e. a)))
      find_safe at t (dereference v) w a = step_safe w _ a (λ left a. state_then P (evaluate s held v (record w { left = left })) _ (value_safe v (record w { left = left }) a) (λ x w a.
          state_or P (reach w.objects (pointer_of x)) at.span w _ (λ object e. a)))

    pub items_safe : (items : List PlainItem) (w : State) → Safe o m w → OnState P (listed_scalars s held items w)
    items_safe [] w a = a
    items_safe (item ∷ items) w a = state_then P (written_scalars s held item.scalar item.written w) _ (written_safe item.written) (λ xs w a. state_then P (listed_scalars s held items w) _ (items_safe items w a) (λ ys w a. a))
      where
        written_safe : (written : PlainWritten) → OnState P (written_scalars s held item.scalar written w)
        written_safe (one_scalar v) = state_then P (evaluate s held v w) _ (value_safe v w a) (λ x w a. a)
        written_safe (scalars_of_text bytes) = a

-- ## Statements

-- after a piece the object is there, and the block didn't open it
abbrev pub OnDone : ℕ → ℕ → Progress Done → Type 0
OnDone o m (gives d w) = Safe o m w × NotIn o d.frame.opened
OnDone o m (ends end w) = Unit {0}

module _ (s : Setting) (o m : ℕ) (called : CallsLeave o m s.call) where
  abbrev In : State → Type 0
  In = Safe o m

  abbrev Runs : (Frame → State → Progress Done) → Type 0
  Runs run = (frame : Frame) (w : State) → Safe o m w → NotIn o frame.opened → OnDone o m (run frame w)

  done_step : (w : State) (go : State → Progress Done) → Safe o m w → ((left : ℕ) → Safe o m (record w { left = left }) → OnDone o m (go (record w { left = left }))) → OnDone o m (step w go)
  done_step w go a h = by_left w.left
    where
      by_left : (k : ℕ) → OnDone o m (step_at k w go)
      by_left zero = tt
      by_left (suc k) = h k (record { before = a.before; alive = a.alive })

  -- after a value
  done_any : {A : Type 0} (x : Progress A) (go : A → State → Progress Done) → OnState In x → ((a : A) (w : State) → Safe o m w → OnDone o m (go a w)) → OnDone o m (and_then x go)
  done_any (gives a w) go h k = k a w h
  done_any (ends end w) go h k = tt

  done_then : (x : Progress Done) (go : Done → State → Progress Done) → OnDone o m x → ((d : Done) (w : State) → Safe o m w → NotIn o d.frame.opened → OnDone o m (go d w)) → OnDone o m (and_then x go)
  done_then (gives d w) go h k = k d w h.0 h.1
  done_then (ends end w) go h k = tt

  done_or : {A : Type 0} (r : Result A Stop) (span : Span) (w : State) (go : A → Progress Done) → ((a : A) → r ≡ Ok a → OnDone o m (go a)) → OnDone o m (or_undefined r span w go)
  done_or (Ok a) span w go h = h a refl
  done_or (Err stop) span w go h = tt

  done_if : (b : Bool) (x y : Progress Done) → OnDone o m x → OnDone o m y → OnDone o m (cond b x y)
  done_if true x y f g = f
  done_if false x y f g = g

  changed : (w : State) (objects : List Object) → Safe o m w → Alive o m objects → Safe o m (record w { objects = objects })
  changed w objects a b = record { before = a.before; alive = b }

  write_leaves : (span : Span) (target : Target) (cell : Cell) → Runs (write_target span target cell)
  write_leaves span (Variable k) cell frame w a d = (a, d)
  write_leaves span Sensor cell frame w a d = (a, d)
  write_leaves span (Element q) cell frame w a d = done_or (write_at w.objects q cell) span w _ (λ objects e. (changed w objects a (alive_written o m q cell w.objects objects e a.alive), d))

  copy_leaves : (n i : ℕ) (to_span : Span) (to : Ptr) (from_span : Span) (from : Ptr) → Runs (copy_scalars n i to_span to from_span from)
  copy_leaves zero i to_span to from_span from frame w a d = (a, d)
  copy_leaves (suc n) i to_span to from_span from frame w a d =
      done_step w _ a (λ left a. done_or (part_of w.objects from i) from_span (record w { left = left }) _ (λ cell e. done_or (write_part w.objects to i cell) to_span (record w { left = left }) _ (λ objects e.
      copy_leaves n (suc i) to_span to from_span from frame (record w { left = left; objects = objects }) (record { before = a.before; alive = alive_part o m to i cell w.objects objects e a.alive }) d)))

  fill_leaves : (span : Span) (xs : List (ℕ × Scalar)) (types : List PlainType) (i : ℕ) (q : Ptr) → Runs (fill span xs types i q)
  fill_leaves span xs [] i q frame w a d = (a, d)
  fill_leaves span xs (t ∷ types) i q frame w a d =
      done_step w _ a (λ left a. done_or (write_part w.objects q i (holding (listed_scalar i t xs))) span (record w { left = left }) _ (λ objects e.
      fill_leaves span xs types (suc i) q frame (record w { left = left; objects = objects }) (record { before = a.before; alive = alive_part o m q i (holding (listed_scalar i t xs)) w.objects objects e a.alive }) d))

  initialize_leaves : (span : Span) (t : PlainType) (target : Target) (initializer : PlainInitializer) → Runs (initialize s span t target initializer)
  initialize_leaves span t target not_initialized frame w a d = (a, d)
  initialize_leaves span t target (single v) frame w a d = done_any (evaluate s frame.held v w) _ (value_safe s o m called frame.held v w a) (λ x w a. write_leaves span target (holding x) frame w a d)
  initialize_leaves span t target (copied q) frame w a d = done_step w _ a (λ left a. done_any (locate s frame.held q (record w { left = left })) _ (place_safe s o m called frame.held q (record w { left = left }) a) (λ source w a.
      copy_leaves (width s.program t) 0 span (pointer_to target) (place_at q).span (pointer_to source) frame w a d))
  initialize_leaves span t target (listed at items) frame w a d =
      done_any (listed_scalars s frame.held items w) _ (items_safe s o m called frame.held items w a) (λ xs w a. fill_leaves span xs (scalars s.program t) 0 (pointer_to target) frame w a d)

  declare_leaves : (span : Span) (n : ℕ) (v : Option PlainVariable) (initializer : PlainInitializer) → Runs (declare_variable s span n v initializer)
  declare_leaves span n None initializer frame w a d = (a, d)
  declare_leaves span n (Some v) initializer frame w a d = done_if v.frame _ _
      (initialize_leaves span v.type (Variable n) initializer (record frame { held = slice_set frame.held n (holds unset) }) w a d)
      (initialize_leaves span v.type (Element (first_of w.opened (width s.program v.type) 1)) initializer (record { held = slice_set frame.held n (stands w.opened); opened = w.opened ∷ frame.opened })
      (open_object declared (unset_cells (scalars s.program v.type)) w) (opened_safe o m w declared (unset_cells (scalars s.program v.type)) a) (not_new o w.opened a.before, d))

  block_leaves : (run : Frame → State → Progress Done) → Runs run → Runs (in_block run)
  block_leaves run k frame w a d = done_then (run (record frame { opened = [] }) w) _ (k (record frame { opened = [] }) w a tt) (λ e w b c.
      (changed w (all_closed e.frame.opened w.objects) b (alive_all_closed o m e.frame.opened w.objects c b.alive), d))

  go_leaves : (rest : Frame → State → Progress Done) → Runs rest → (flow : Flow) → Runs (λ frame w. go_on flow frame w rest)
  go_leaves rest k normal frame w a d = k frame w a d
  go_leaves rest k broken frame w a d = (a, d)
  go_leaves rest k continued frame w a d = (a, d)
  go_leaves rest k (returned x) frame w a d = (a, d)

  next_leaves : (go : Frame → State → Progress Done) → Runs go → (flow : Flow) → Runs (λ frame w. next_turn flow frame w go)
  next_leaves go k normal frame w a d = k frame w a d
  next_leaves go k continued frame w a d = k frame w a d
  next_leaves go k broken frame w a d = (a, d)
  next_leaves go k (returned x) frame w a d = (a, d)

  third_leaves : (third : Frame → State → Progress Done) → Runs third → (flow : Flow) → Runs (λ frame w. before_third flow frame w third)
  third_leaves third k normal frame w a d = k frame w a d
  third_leaves third k continued frame w a d = k frame w a d
  third_leaves third k broken frame w a d = (a, d)
  third_leaves third k (returned x) frame w a d = (a, d)

  abbrev TestsSafe : (Frame → State → Progress Bool) → Type 0
  TestsSafe tested = (frame : Frame) (w : State) → Safe o m w → OnState In (tested frame w)

  turns_leave : (n : ℕ) (tested : Frame → State → Progress Bool) (body : Frame → State → Progress Done) → TestsSafe tested → Runs body → Runs (turns n tested body)
  turns_leave zero tested body t k frame w a d = tt
  turns_leave (suc n) tested body t k frame w a d =
      done_any (tested frame w) _ (t frame w a) (λ more w a. done_if more _ _ (done_then (body frame w) _ (k frame w a d) (λ e w a d. next_leaves (turns n tested body) (turns_leave n tested body t k) e.flow e.frame w a d)) (a, d))

  loop_leaves : (keyword : LoopKeyword) (n : ℕ) (tested : Frame → State → Progress Bool) (body : Frame → State → Progress Done) → TestsSafe tested → Runs body → Runs (loop_by keyword n tested body)
  loop_leaves While n tested body t k frame w a d = turns_leave n tested body t k frame w a d
  loop_leaves For n tested body t k frame w a d = turns_leave n tested body t k frame w a d
  loop_leaves Do n tested body t k frame w a d = done_then (body frame w) _ (k frame w a d) (λ e w a d. next_leaves (turns n tested body) (turns_leave n tested body t k) e.flow e.frame w a d)

  switch_leaves : (flow : Flow) (frame : Frame) (w : State) → Safe o m w → NotIn o frame.opened → OnDone o m (after_switch (record { flow = flow; frame = frame }) w)
  switch_leaves normal frame w a d = (a, d)
  switch_leaves broken frame w a d = (a, d)
  switch_leaves continued frame w a d = (a, d)
  switch_leaves (returned x) frame w a d = (a, d)

  tests_safe : (tested : Option PlainValue) → TestsSafe (test s tested)
  tests_safe None frame w a = step_safe s o m called w _ a (λ left a. a)
  tests_safe (Some v) frame w a = state_then In (evaluate s frame.held v w) _ (value_safe s o m called frame.held v w a) (λ x w a. a)

  mutual
    pub statement_leaves : (x : PlainStatement) → Runs (execute s x)
    statement_leaves (statement at form) frame w a d = form_leaves at form frame w a d

    form_leaves : (at : At) (form : PlainStatementForm) → Runs (execute_form s at form)
    form_leaves at (declare n initializer) frame w a d = done_step w _ a (λ left a. declare_leaves at.span n (slice_get s.variables n) initializer frame (record w { left = left }) a d)
    form_leaves at (assign q v) frame w a d = done_step w _ a (λ left a. done_any (locate s frame.held q (record w { left = left })) _ (place_safe s o m called frame.held q (record w { left = left }) a) (λ target w a.
        done_any (evaluate s frame.held v w) _ (value_safe s o m called frame.held v w a) (λ x w a. write_leaves (place_at q).span target (holding x) frame w a d)))
    form_leaves at (update kind op t q v) frame w a d = done_step w _ a (λ left a. done_any (locate s frame.held q (record w { left = left })) _ (place_safe s o m called frame.held q (record w { left = left }) a) (λ target w a.
        done_step w _ a (λ left a. done_any (read_target (place_at q).span (place_type q) frame.held target (record w { left = left })) _ (read_safe s o m called (place_at q).span (place_type q) frame.held target (record w { left = left }) a) (λ x w a.
        done_any (evaluate s frame.held v w) _ (value_safe s o m called frame.held v w a) (λ y w a.
        done_step w _ a (λ left a. done_or (operated op t w.objects (converted_to t x) y) at.span (record w { left = left }) _ (λ z e. write_leaves (place_at q).span target (holding (converted_to (place_type q) z)) frame (record w { left = left }) a d)))))))
    form_leaves at (copy q r) frame w a d = done_step w _ a (λ left a. done_any (locate s frame.held q (record w { left = left })) _ (place_safe s o m called frame.held q (record w { left = left }) a) (λ target w a.
        done_any (locate s frame.held r w) _ (place_safe s o m called frame.held r w a) (λ source w a. copy_leaves (width s.program (place_type q)) 0 (place_at q).span (pointer_to target) (place_at r).span (pointer_to source) frame w a d)))
    form_leaves at (asserts name v) frame w a d = done_step w _ a (λ left a. done_any (evaluate s frame.held v (record w { left = left })) _ (value_safe s o m called frame.held v (record w { left = left }) a) (λ x w a.
        done_any (asserted name.span x w) _ (state_if In (is_true x) _ _ a tt) (λ none w a. (a, d))))
    form_leaves at (expression v) frame w a d = done_step w _ a (λ left a. done_any (discard s frame.held v (record w { left = left })) _ (discard_safe s o m called frame.held v (record w { left = left }) a) (λ x w a. (a, d)))
    form_leaves at (if_then v x) frame w a d = done_step w _ a (λ left a. done_any (evaluate s frame.held v (record w { left = left })) _ (value_safe s o m called frame.held v (record w { left = left }) a) (λ y w a.
        done_if (is_true y) _ _ (statement_leaves x frame w a d) (a, d)))
    form_leaves at (if_else v x y) frame w a d = done_step w _ a (λ left a. done_any (evaluate s frame.held v (record w { left = left })) _ (value_safe s o m called frame.held v (record w { left = left }) a) (λ z w a.
        done_if (is_true z) _ _ (statement_leaves x frame w a d) (statement_leaves y frame w a d)))
    form_leaves at (loop head first tested third body) frame w a d = done_step w _ a (λ left a. block_leaves (looped s head.keyword first tested third body) (λ frame w a d.
        done_then (execute_from s 0 first frame w) _ (statements_leave 0 first frame w a d) (λ e w a d.
        go_leaves (λ frame w. loop_by head.keyword s.turns (λ frame w. test s tested frame w) (round s third body) frame w)
        (loop_leaves head.keyword s.turns (λ frame w. test s tested frame w) (round s third body) (tests_safe tested) (λ frame w a d.
        done_then (execute s body frame w) _ (statement_leaves body frame w a d) (λ e w a d. third_leaves (λ frame w. execute_from s 0 third frame w) (statements_leave 0 third) e.flow e.frame w a d))) e.flow e.frame w a d)) frame (record w { left = left }) a d)
    form_leaves at (switch keyword v labels body) frame w a d = done_step w _ a (λ left a. done_any (evaluate s frame.held v (record w { left = left })) _ (value_safe s o m called frame.held v (record w { left = left }) a) (λ x w a.
        done_then (enter s (labelled (number_of x) labels.cases labels.otherwise) body frame w) after_switch (entered_leaves (labelled (number_of x) labels.cases labels.otherwise) body frame w a d) (λ e w a d. switch_leaves e.flow e.frame w a d)))
    form_leaves at (return keyword None) frame w a d = done_step w _ a (λ left a. (a, d))
    form_leaves at (return keyword (Some v)) frame w a d = done_step w _ a (λ left a. done_any (evaluate s frame.held v (record w { left = left })) _ (value_safe s o m called frame.held v (record w { left = left }) a) (λ x w a. (a, d)))
    form_leaves at break frame w a d = done_step w _ a (λ left a. (a, d))
    form_leaves at continue frame w a d = done_step w _ a (λ left a. (a, d))
    form_leaves at empty frame w a d = done_step w _ a (λ left a. (a, d))
    form_leaves at (block xs) frame w a d = block_leaves (λ frame w. execute_from s 0 xs frame w) (statements_leave 0 xs) frame w a d
    form_leaves at (declare_static n) frame w a d = (a, d)
    form_leaves at (mark InitDone) frame w a d = (record { before = a.before; alive = a.alive }, d)
    form_leaves at (mark TaskLoop) frame w a d = (record { before = a.before; alive = a.alive }, d)

    pub statements_leave : (k : ℕ) (xs : PlainStatements) → Runs (execute_from s k xs)
    statements_leave k no_statements frame w a d = (a, d)
    statements_leave zero (more_statements x rest) frame w a d =
        done_then (execute s x frame w) _ (statement_leaves x frame w a d) (λ e w a d. go_leaves (λ frame w. execute_from s zero rest frame w) (statements_leave zero rest) e.flow e.frame w a d)
    statements_leave (suc k) (more_statements x rest) frame w a d = statements_leave k rest frame w a d

    entered_leaves : (k : Option ℕ) (body : PlainStatement) → Runs (enter s k body)
    entered_leaves None (statement at (block xs)) frame w a d = (a, d)
    entered_leaves (Some k) (statement at (block xs)) frame w a d = block_leaves (λ frame w. execute_from s k xs frame w) (statements_leave k xs) frame w a d
    entered_leaves k (statement at form) frame w a d = (a, d)

-- ## Calls

-- the object is there where a call begins, and none of its parameters
abbrev IsEntered : ℕ → ℕ → Entered → Type 0
IsEntered o m e = Safe o m e.state × NotIn o e.frame.opened

-- the parameters of a call are new objects
entered_safe : (o m : ℕ) (vs : List PlainVariable) (xs : List Scalar) (w : State) → Safe o m w → IsEntered o m (entered vs xs w)
entered_safe o m [] xs w a = (a, tt)
entered_safe o m (v ∷ vs) [] w a = entered_safe o m vs [] w a
entered_safe o m (v ∷ vs) (x ∷ xs) w a = by_frame (entered_safe o m vs xs w a) (entered_safe o m vs xs (open_object declared (holding x ∷ []) w) (opened_safe o m w declared (holding x ∷ []) a)) v.frame
  where
    by_frame : IsEntered o m (entered vs xs w) → IsEntered o m (entered vs xs (open_object declared (holding x ∷ []) w)) → (b : Bool) → IsEntered o m (cond b (with_variable (holds (holding x)) (entered vs xs w).frame.opened (entered vs xs w))
        (with_variable (stands w.opened) (w.opened ∷ (entered vs xs (open_object declared (holding x ∷ []) w)).frame.opened) (entered vs xs (open_object declared (holding x ∷ []) w))))
    by_frame h k true = h
    by_frame h k false = (k.0, (not_new o w.opened a.before, k.1))

left_of : (o m : ℕ) (x : Progress Done) → OnDone o m x → OnState (Safe o m) (and_then x leave_call)
left_of o m (gives d w) h = record { before = h.0.before; alive = alive_all_closed o m d.frame.opened w.objects h.1 h.0.alive }
left_of o m (ends end w) h = tt

-- a call of a function, where the calls in it leave the object
call_leaves : (p : PlainProgram) (o m n : ℕ) (depth : Depth) → ((depth : Depth) → CallsLeave o m (call_at n p depth)) → (f : Option PlainFunction) (xs : List Scalar) (w : State) → Safe o m w → OnState (Safe o m) (enter_call p n (call_at n p) depth f xs w)
call_leaves p o m n depth k None xs w a = a
call_leaves p o m n depth k (Some f) xs w a =
    let start : Entered = entered f.variables xs (raised (deeper f depth) w) in
    let e : IsEntered o m start = entered_safe o m f.variables xs (raised (deeper f depth) w) (record { before = a.before; alive = a.alive }) in
    left_of o m (execute_from (setting_of p n (call_at n p) (deeper f depth) f) 0 f.body start.frame start.state)
    (statements_leave (setting_of p n (call_at n p) (deeper f depth) f) o m (k (deeper f depth)) 0 f.body start.frame start.state e.0 e.1)

stepped_leaves : (o m : ℕ) (left : ℕ) (w : State) (go : State → Progress (Option Scalar)) → ((left : ℕ) → OnState (Safe o m) (go (record w { left = left }))) → OnState (Safe o m) (step_at left w go)
stepped_leaves o m zero w go h = tt
stepped_leaves o m (suc left) w go h = h left

pub calls_leave : (p : PlainProgram) (o m n : ℕ) (depth : Depth) → CallsLeave o m (call_at n p depth)
calls_leave p o m zero depth = record { leaves = λ k xs w a. tt }
calls_leave p o m (suc n) depth = record {
  leaves = λ k xs w a. stepped_leaves o m w.left w (λ w. enter_call p n (call_at n p) depth (slice_get p.functions k) xs w) (λ left.
      call_leaves p o m n depth (λ depth. calls_leave p o m n depth) (slice_get p.functions k) xs (record w { left = left }) (record { before = a.before; alive = a.alive }));
}

-- ## Writing the object that was declared

some_there : (cells : List Cell) (i : ℕ) → i < length cells → (c : Cell) × (slice_get cells i ≡ Some c)
some_there [] i l = absurd (omega (arith, l))
some_there (c ∷ cells) zero l = (c, refl)
some_there (c ∷ cells) (suc i) l = some_there cells i (omega (arith, l))

-- a write of one of its scalars never stops
scalar_written : (o m k i : ℕ) (window : Window) (cell : Cell) (objects : List Object) → Alive o m objects → scalar_at window i ≡ Ok k → k < m → (stop : Stop) → write_at objects (To o window i) cell ≡ Err stop → ⊥
scalar_written o m k i window cell objects a at l stop e =
    let inside : k < length a.object.cells = subst (λ n. k < n) (sym a.cells_are) l in
    let there : (c : Cell) × (slice_get a.object.cells k ≡ Some c) = some_there a.object.cells k inside in
    of (find o objects) a.there (scalar_at window i) at there.0 there.1 e
  where
    of : (x : Option Object) → x ≡ Some a.object → (r : Result ℕ Stop) → r ≡ Ok k → (c : Cell) → slice_get a.object.cells k ≡ Some c →
        on_ok (on_ok (or_stop x U7) (λ object. on_ok r (λ i. on_ok (or_stop (slice_get object.cells i) U6) (λ cell. on_ok (may_write object.origin) (λ _. Ok cell))))) (λ _. Ok (put objects o (window.start + i) cell)) ≡ Err stop → ⊥
    of None h r at c there e = absurd (none-some _ h)
    of (Some x) h (Err s) at c there e = absurd cc
    of (Some x) h (Ok n) at c there e =
        let same : x ≡ a.object = same_Some _ _ h in
        let number : n ≡ k = cc in
        let f : slice_get x.cells n ≡ Some c = subst (λ n. slice_get x.cells n ≡ Some c) (sym number) (subst (λ (x : Object). slice_get x.cells k ≡ Some c) (sym same) there) in
        let origin : x.origin ≡ declared = ap (λ (x : Object). x.origin) same ∙ a.origin_is in
        at_last (slice_get x.cells n) f x.origin origin e
      where
        at_last : (o2 : Option Cell) → o2 ≡ Some c → (origin : Origin) → origin ≡ declared → on_ok (on_ok (or_stop o2 U6) (λ cell. on_ok (may_write origin) (λ _. Ok cell))) (λ _. Ok (put objects o (window.start + i) cell)) ≡ Err stop → ⊥
        at_last None f origin g e = absurd (none-some _ f)
        at_last (Some d) f declared g e = cc
        at_last (Some d) f allocated g e = cc
        at_last (Some d) f text g e = cc

-- its first scalar
pub first_written : (o m : ℕ) (cell : Cell) (objects : List Object) → 0 < m → Alive o m objects → (stop : Stop) → write_at objects (first_of o m 1) cell ≡ Err stop → ⊥
first_written o m cell objects l a stop e = scalar_written o m 0 0 (whole_window m 1) cell objects a refl l stop e

-- and each other
pub part_written : (o m i : ℕ) (cell : Cell) (objects : List Object) → i < m → Alive o m objects → (stop : Stop) → write_part objects (first_of o m 1) i cell ≡ Err stop → ⊥
part_written o m i cell objects l a stop e = of (find o objects) refl e
  where
    smaller : (j b : ℕ) → j ≡ i → min j b + 0 < m
    smaller j b e = omega (arith, l, e)

    of : (x : Option Object) → find o objects ≡ x → on_ok (on_ok (or_stop x U7) (λ _. Ok (To o (window_in (whole_window m 1) 0 i 1 1) 0))) (λ r. write_at objects r cell) ≡ Err stop → ⊥
    of None h e = absurd (none-some _ (sym h ∙ a.there))
    of (Some x) h e = scalar_written o m (min (0 + 0 * m + i) last_number + 0) 0 (window_in (whole_window m 1) 0 i 1 1) cell objects a refl (smaller (0 + 0 * m + i) last_number (omega (arith))) stop e
