-- What assignments and declarations set: variables of the frame, and nothing else of it changes.
use Rattle.std.proofs.Common.{◌≡◌, ℕ, zero, suc, Bool, true, false, List, [], ◌∷◌, refl, ap, sym, subst, Option, Some, None}
use Rattle.std.specs.Prelude.{slice_get, slice_set, if◌then◌else◌}
use Rattle.p10_base.specs.declared.span.Span.{Span}
use Rattle.p10_core.specs.Types.{PlainType, void, integer, pointer, array, structure, unqualified, bare}
use Rattle.p10_core.specs.Rows.{is_scalar}
use Rattle.p10_core.specs.Whole.{Surroundings}
use Rattle.p10_core.specs.Typed.{PlainPlace, place, place_at, place_type, variable, global, literal, index, member, dereference, PlainInitializer, not_initialized, single, copied, listed, PlainVariable, PlainObject}
use Rattle.p10_core.specs.WholePrograms.{IsWholeInitializer}
use Rattle.p10_meaning.specs.declared.pointers.Ptr.{Ptr}
use Rattle.p10_meaning.specs.declared.pointers.Scalar.{Scalar}
use Rattle.p10_meaning.specs.declared.pointers.Cell.{Cell}
use Rattle.p10_meaning.specs.Pointers.{unset, holding, first_of}
use Rattle.p10_meaning.specs.Objects.{declared, reach, shift, inner, write_at}
use Rattle.p10_meaning.specs.States.{State, Progress, gives, or_undefined}
use Rattle.p10_meaning.specs.Scalars.{number_of, pointer_of, unset_cells}
use Rattle.p10_meaning.specs.Values.{Setting, Held, holds, stands, absent, scalars, open_object, Target, Variable, Sensor, Element, variable_target, global_target, literal_target, pointer_to, width, scalars_before, evaluate, locate}
use Rattle.p10_meaning.specs.Statements.{Frame, normal, Done, holding_at, write_target, part_of, write_part, copy_scalars, listed_scalars, listed_scalar, fill, initialize, declare_variable}
use Rattle.p10_sums.specs.Keeping.{HoldsOf}
use Rattle.p10_execution.proofs.Giving.{holds_step, holds_after, holds_or, holds_weaker, holds_if}
use Rattle.p10_execution.proofs.Storing.{Points}
use Rattle.p10_clean.specs.Settings.{Settings, marked_as, goes_on, target_set, sets}
use Rattle.p10_clean_soundness.specs.private.Setting.{SetUp}
use Rattle.p10_clean_soundness.proofs.SettingUp.{holding_filled, written, written_again, marked_object, HasRoom, room_set, declared_unset, declared_set, declared_object}
use Rattle.p10_clean_soundness.proofs.SettingFlows.{Sets}

-- ## Places of the frame

-- a place that is a variable of the frame has a cell there
abbrev pub HasCell : List Held → Target → Type 0
HasCell held (Variable k) = (cell : Cell) × (slice_get held k ≡ Some (holds cell))
HasCell held target = Unit {0}

variable_cell : (held : List Held) (n scalars : ℕ) (h : Option Held) (span : Span) (w : State) → slice_get held n ≡ h → HoldsOf (λ target w. HasCell held target) (or_undefined (variable_target n scalars h) span w (λ target. gives target w))
variable_cell held n scalars None span w e = tt
variable_cell held n scalars (Some absent) span w e = tt
variable_cell held n scalars (Some (holds cell)) span w e = (cell, e)
variable_cell held n scalars (Some (stands object)) span w e = tt

global_cell : (held : List Held) (m scalars : ℕ) (object : Option PlainObject) (span : Span) (w : State) → HoldsOf (λ target w. HasCell held target) (or_undefined (global_target m scalars object) span w (λ target. gives target w))
global_cell held m scalars None span w = tt
global_cell held m scalars (Some object) span w = sensor object.sensor (first_of m scalars 1)
  where
    sensor : (b : Bool) (q : Ptr) → HasCell held (if b then Sensor else Element q)
    sensor true q = tt
    sensor false q = tt

literal_cell : (held : List Held) (scalars : ℕ) (object : Option ℕ) (span : Span) (w : State) → HoldsOf (λ target w. HasCell held target) (or_undefined (literal_target scalars object) span w (λ target. gives target w))
literal_cell held scalars None span w = tt
literal_cell held scalars (Some object) span w = tt

pub locate_cell : (s : Setting) (held : List Held) (q : PlainPlace) (w : State) → HoldsOf (λ target w. HasCell held target) (locate s held q w)
locate_cell s held (place at t (variable n)) w = variable_cell held n _ (slice_get held n) at.span w refl
locate_cell s held (place at t (global m)) w = global_cell held m _ (slice_get s.program.objects m) at.span w
locate_cell s held (place at t (literal m bytes)) w = literal_cell held _ _ at.span w
locate_cell s held (place at t (index a i)) w =
    let P : Target → State → Type 0 = λ target w. HasCell held target in
    holds_step P w _ (λ left _. holds_after P (evaluate s held a (record w { left = left })) _ (λ x w. holds_after P (evaluate s held i w) _ (λ y w. holds_or P (shift w.objects (pointer_of x) (number_of y)) at.span w _ (λ q _. tt))))
locate_cell s held (place at t (member p m)) w =
    let P : Target → State → Type 0 = λ target w. HasCell held target in
    holds_step P w _ (λ left _. holds_after P (locate s held p (record w { left = left })) _ (λ target w. holds_or P
    (inner w.objects (pointer_to target) (scalars_before s.program (bare s.program.structures (place_type p)) m) (width s.program t) 1) at.span w _ (λ q _. tt)))
locate_cell s held (place at t (dereference v)) w =
    let P : Target → State → Type 0 = λ target w. HasCell held target in
    holds_step P w _ (λ left _. holds_after P (evaluate s held v (record w { left = left })) _ (λ x w. holds_or P (reach w.objects (pointer_of x)) at.span w _ (λ object _. tt)))

-- ## Pieces that leave the frame as it is

abbrev pub KeepsFrame : Frame → Done → State → Type 0
KeepsFrame frame d w = d ≡ record { flow = normal; frame = frame }

pub copy_stays : (n i : ℕ) (to_span : Span) (to : Ptr) (from_span : Span) (from : Ptr) (frame : Frame) (w : State) → HoldsOf (KeepsFrame frame) (copy_scalars n i to_span to from_span from frame w)
copy_stays zero i to_span to from_span from frame w = refl
copy_stays (suc n) i to_span to from_span from frame w =
    holds_step (KeepsFrame frame) w _ (λ left _. holds_or (KeepsFrame frame) (part_of w.objects from i) from_span (record w { left = left }) _ (λ cell _. holds_or (KeepsFrame frame) (write_part w.objects to i cell) to_span (record w { left = left }) _ (λ objects _.
    copy_stays n (suc i) to_span to from_span from frame (record w { left = left; objects = objects }))))

fill_stays : (span : Span) (xs : List (ℕ × Scalar)) (types : List PlainType) (i : ℕ) (q : Ptr) (frame : Frame) (w : State) → HoldsOf (KeepsFrame frame) (fill span xs types i q frame w)
fill_stays span xs [] i q frame w = refl
fill_stays span xs (t ∷ types) i q frame w =
    holds_step (KeepsFrame frame) w _ (λ left _. holds_or (KeepsFrame frame) (write_part w.objects q i (holding (listed_scalar i t xs))) span (record w { left = left }) _ (λ objects _.
    fill_stays span xs types (suc i) q frame (record w { left = left; objects = objects })))

element_stays : (span : Span) (q : Ptr) (cell : Cell) (frame : Frame) (w : State) → HoldsOf (KeepsFrame frame) (write_target span (Element q) cell frame w)
element_stays span q cell frame w = holds_or (KeepsFrame frame) (write_at w.objects q cell) span w _ (λ objects _. refl)

pub initialize_stays : (s : Setting) (span : Span) (t : PlainType) (q : Ptr) (initializer : PlainInitializer) (frame : Frame) (w : State) → HoldsOf (KeepsFrame frame) (initialize s span t (Element q) initializer frame w)
initialize_stays s span t q not_initialized frame w = refl
initialize_stays s span t q (single v) frame w = holds_after (KeepsFrame frame) (evaluate s frame.held v w) _ (λ x w. element_stays span q (holding x) frame w)
initialize_stays s span t q (copied p) frame w =
    holds_step (KeepsFrame frame) w _ (λ left _. holds_after (KeepsFrame frame) (locate s frame.held p (record w { left = left })) _ (λ source w. copy_stays (width s.program t) 0 span q (place_at p).span (pointer_to source) frame w))
initialize_stays s span t q (listed at items) frame w = holds_after (KeepsFrame frame) (listed_scalars s frame.held items w) _ (λ xs w. fill_stays span xs (scalars s.program t) 0 q frame w)

-- ## Writes

set_twice : {A : Type 0} (xs : List A) (n : ℕ) (a b : A) → slice_set (slice_set xs n a) n b ≡ slice_set xs n b
set_twice [] n a b = refl
set_twice (x ∷ xs) zero a b = refl
set_twice (x ∷ xs) (suc n) a b = ap (λ rest. x ∷ rest) (set_twice xs n a b)

module _ (s : Setting) (scope : List ℕ) (before : Settings) where
  -- a piece leaves the frame, in which something is set
  pub stays_set : (after : List ℕ) (settings : Settings) (o : Progress Done) (frame : Frame) → SetUp s.variables after settings frame.held → HasRoom s.variables frame.held → HoldsOf (KeepsFrame frame) o → HoldsOf (Sets s.variables after scope (goes_on settings)) o
  stays_set after settings o frame u r h = holds_weaker (KeepsFrame frame) (Sets s.variables after scope (goes_on settings)) o h (λ d w e. subst (λ (d : Done). Sets s.variables after scope (goes_on settings) d w) (sym e) (u, r))

  -- a scalar is assigned
  pub assigned : (p : PlainPlace) (target : Target) (x : Scalar) (span : Span) (frame : Frame) (w : State) → SetUp s.variables scope before frame.held → HasRoom s.variables frame.held → Points frame.held p target → HasCell frame.held target →
      HoldsOf (Sets s.variables scope scope (goes_on (target_set p before))) (write_target span target (holding x) frame w)
  assigned (place at t (variable n)) (Variable k) x span frame w u r e c =
      (subst (λ (i : ℕ). SetUp s.variables scope (marked_as true i before) (slice_set frame.held k (holds (holding x)))) e (written s.variables scope before frame.held k c.0 (holding x) c.1 (holding_filled x) u), room_set s.variables frame.held k (holds (holding x)) r)
  assigned (place at t (variable n)) Sensor x span frame w u r e c = absurd e
  assigned (place at t (variable n)) (Element q) x span frame w u r e c = stays_set scope (marked_as true n before) _ frame (marked_object s.variables scope before frame.held n e.0 e.1 u) r (element_stays span q (holding x) frame w)
  assigned (place at t form) (Variable k) x span frame w u r e c = absurd e
  assigned (place at t form) Sensor x span frame w u r e c = (u, r)
  assigned (place at t form) (Element q) x span frame w u r e c = stays_set scope before _ frame u r (element_stays span q (holding x) frame w)

  -- an assignment by which no more is set
  pub updated : (target : Target) (x : Scalar) (span : Span) (frame : Frame) (w : State) → SetUp s.variables scope before frame.held → HasRoom s.variables frame.held → HasCell frame.held target → HoldsOf (Sets s.variables scope scope (goes_on before)) (write_target span target (holding x) frame w)
  updated (Variable k) x span frame w u r c = (written_again s.variables scope before frame.held k c.0 (holding x) c.1 (holding_filled x) u, room_set s.variables frame.held k (holds (holding x)) r)
  updated Sensor x span frame w u r c = (u, r)
  updated (Element q) x span frame w u r c = stays_set scope before _ frame u r (element_stays span q (holding x) frame w)

  -- ## Declarations

  pub not_structure : (t : PlainType) (n : ℕ) → is_scalar t ≡ true → unqualified t ≡ structure false n → ⊥
  not_structure (structure c m) n e q = absurd cc
  not_structure (void c) n e q = absurd cc
  not_structure (integer c k) n e q = absurd cc
  not_structure (pointer c t) n e q = absurd cc
  not_structure (array c t m) n e q = absurd cc

  -- a variable of the frame, which is a scalar
  frame_declared : (c : Surroundings) (n : ℕ) (v : PlainVariable) (span : Span) (initializer : PlainInitializer) (frame : Frame) (w : State) → slice_get s.variables n ≡ Some v → v.frame ≡ true → is_scalar v.type ≡ true → IsWholeInitializer c v.type initializer →
      SetUp s.variables scope before frame.held → HasRoom s.variables frame.held →
      HoldsOf (Sets s.variables (n ∷ scope) scope (goes_on (marked_as (sets initializer) n before))) (initialize s span v.type (Variable n) initializer (holding_at frame n (holds unset)) w)
  frame_declared c n v span not_initialized frame w there is scalar whole u r = (declared_unset s.variables scope before frame.held n v there is r u, room_set s.variables frame.held n (holds unset) r)
  frame_declared c n v span (single x) frame w there is scalar whole u r =
      holds_after (Sets s.variables (n ∷ scope) scope (goes_on (marked_as true n before))) (evaluate s (slice_set frame.held n (holds unset)) x w) _ (λ x w.
      subst (λ held. SetUp s.variables (n ∷ scope) (marked_as true n before) held × HasRoom s.variables held) (sym (set_twice frame.held n (holds unset) (holds (holding x))))
      (declared_set s.variables scope before frame.held n v (holding x) there is (holding_filled x) r u, room_set s.variables frame.held n (holds (holding x)) r))
  frame_declared c n v span (copied p) frame w there is scalar whole u r = absurd (not_structure v.type whole.number scalar whole.target_is)
  frame_declared c n v span (listed at items) frame w there is scalar whole u r = let no : is_scalar v.type ≡ false = whole.aggregate in absurd cc

  pub variable_declared : (c : Surroundings) (n : ℕ) (v : PlainVariable) (span : Span) (initializer : PlainInitializer) (frame : Frame) (w : State) → slice_get s.variables n ≡ Some v → (v.frame ≡ true → is_scalar v.type ≡ true) → IsWholeInitializer c v.type initializer →
      SetUp s.variables scope before frame.held → HasRoom s.variables frame.held →
      HoldsOf (Sets s.variables (n ∷ scope) scope (goes_on (marked_as (sets initializer) n before))) (declare_variable s span n (Some v) initializer frame w)
  variable_declared c n v span initializer frame w there scalar whole u r =
      let P : Done → State → Type 0 = Sets s.variables (n ∷ scope) scope (goes_on (marked_as (sets initializer) n before)) in
      holds_if P v.frame _ _ (λ is. frame_declared c n v span initializer frame w there is (scalar is) whole u r)
      (λ isnt. stays_set (n ∷ scope) (marked_as (sets initializer) n before) _ (record { held = slice_set frame.held n (stands w.opened); opened = w.opened ∷ frame.opened })
      (declared_object s.variables (sets initializer) scope before frame.held n w.opened v there isnt r u) (room_set s.variables frame.held n (stands w.opened) r)
      (initialize_stays s span v.type (first_of w.opened (width s.program v.type) 1) initializer (record { held = slice_set frame.held n (stands w.opened); opened = w.opened ∷ frame.opened })
      (open_object declared (unset_cells (scalars s.program v.type)) w)))
