-- Straight-line values and places take exactly what they cost.
use Rattle.std.proofs.Common.{◌≡◌, ℕ, suc, ◌+◌, ◌*◌, ltb, leb, ◌&&◌, cond, Bool, true, false, List, [], ◌∷◌, length, refl, ◌∙◌, Option, Some, None, Result, slice_get, ℤ}
use Rattle.p10_base.specs.declared.span.Span.{Span}
use Rattle.p10_base.specs.declared.at.At.{At}
use Rattle.p10_core.specs.declared.typed.Library.{Library}
use Rattle.p10_core.specs.declared.typed.Library.TheVariants.{Assert, CAssert, Getchar, Putchar, Malloc, Calloc, Free}
use Rattle.p10_core.specs.Types.{PlainType, bare}
use Rattle.p10_core.specs.Sizes.{repeated}
use Rattle.p10_core.specs.Typed.{PlainValue, value, PlainForm, constant, read, sense, address, decay, convert, cast, unary, binary, logic, conditional, call, built_in, PlainPlace, place, place_at, place_type, PlainPlaceForm, variable, global, literal, index, member, dereference, PlainValues, no_values, more_values, PlainProgram}
use Rattle.p10_cert.specs.Claims.{Func, Loop}
use Rattle.p10_meaning.specs.declared.pointers.Scalar.{Scalar}
use Rattle.p10_meaning.specs.declared.pointers.Cell.{Cell}
use Rattle.p10_meaning.specs.Pointers.{read_of}
use Rattle.p10_meaning.specs.Objects.{on_ok, cell_at, reach, shift, inner, release}
use Rattle.p10_meaning.specs.States.{State, Progress, counted}
use Rattle.p10_meaning.specs.Scalars.{number_of, pointer_of, is_true, operated, operated_unary, unset_cells, zero_cells}
use Rattle.p10_meaning.specs.Values.{Setting, Held, Target, Variable, Sensor, Element, scalars, width, size, held_cell, variable_target, global_target, literal_target, literal_number, pointer_to, sensed_from, sensed, read_target, asserted, next_byte, is_denied, granted, requested, elements, pointee, first_argument, library, used, give, is_void, is_structure, element_type, element_count, scalars_before, evaluate, discard, perform, evaluate_all, locate, find_place}
use Rattle.p10_sums.specs.Counting.{Counting}
use Rattle.p10_sums.specs.Costs.{value_cost, form_cost, place_cost, place_form_cost, values_cost}
use Rattle.p10_sums.specs.Laws.{counting_in}
use Rattle.p10_cost_laws.specs.Exactly.{IsStraightValue, IsStraightForm, IsStraightPlace, IsStraightPlaceForm, AreStraightValues, Exactly, Anything, ValuesTakeTheirCost}
use Rattle.p10_cost_laws.proofs.Taking.{stays, exact_step, exact_then, exact_or, exact_if, exact_on}

-- ## Pieces that take no step

pub target_exact : (span : Span) (t : PlainType) (held : List Held) (target : Target) (w : State) → Exactly Anything 0 w (read_target span t held target w)
target_exact span t held (Variable n) w = exact_or Anything 0 w (read_of (held_cell (slice_get held n))) span w _ (λ x. (stays _, tt))
target_exact span t held Sensor w = sensed_exact w.sensors
  where
    sensed_exact : (sensors : List ℤ) → Exactly Anything 0 w (sensed_from sensors t w)
    sensed_exact [] = (stays _, tt)
    sensed_exact (z ∷ sensors) = (stays _, tt)
target_exact span t held (Element q) w = exact_or Anything 0 w (on_ok (cell_at w.objects q) read_of) span w _ (λ x. (stays _, tt))

byte_exact : (input : List ℕ) (w : State) → Exactly Anything 0 w (next_byte input w)
byte_exact [] w = (stays _, tt)
byte_exact (byte ∷ input) w = (stays _, tt)

granted_exact : (from : State) (stride n : ℕ) (cells : List Cell) (w : State) → w.left ≡ from.left → Exactly Anything 0 from (granted stride n cells w)
granted_exact from stride n cells w e = exact_if Anything 0 from (is_denied w.denied w.requests) _ _ ((stays _ ∙ e, tt)) ((stays _ ∙ e, tt))

requested_exact : (from : State) (p : PlainProgram) (t : PlainType) (n : ℕ) (fill : List PlainType → List Cell) (w : State) → w.left ≡ from.left → Exactly Anything 0 from (requested p t n fill w)
requested_exact from p t n fill w e =
    exact_if Anything 0 from (ltb 0 (n * size p t) && leb (n * size p t) 1048576) _ _ (granted_exact from (width p t) n (fill (repeated n (scalars p t))) (record w { requests = suc w.requests }) e) ((stays _ ∙ e, tt))

pub asserted_exact : (span : Span) (x : Scalar) (w : State) → Exactly Anything 0 w (asserted span x w)
asserted_exact span x w = exact_if Anything 0 w (is_true x) _ _ ((stays _, tt)) tt

library_exact : (p : PlainProgram) (f : Library) (span : Span) (t : PlainType) (xs : List Scalar) (w : State) → Exactly Anything 0 w (library p f span t xs w)
library_exact p Assert span t xs w = asserted_exact span (first_argument xs) w
library_exact p CAssert span t xs w = (stays _, tt)
library_exact p Getchar span t xs w = byte_exact w.input w
library_exact p Putchar span t xs w = (stays _, tt)
library_exact p Malloc span t xs w = requested_exact w p (pointee t) (elements xs) unset_cells (counted w) refl
library_exact p Calloc span t xs w = requested_exact w p (pointee t) (elements xs) zero_cells (counted w) refl
library_exact p Free span t xs w = exact_or Anything 0 w (release (counted w).objects (pointer_of (first_argument xs))) span (counted w) _ (λ objects. (stays _, tt))

-- ## Values and places

module _ (s : Setting) (functions : List Func) (loops : List Loop) (held : List Held) where
  abbrev c : Counting
  c = counting_in s functions loops

  mutual
    pub value_exact : (v : PlainValue) → IsStraightValue v → (w : State) → Exactly Anything (value_cost c v) w (evaluate s held v w)
    value_exact (value at t form) i w =
        exact_on Anything Anything (form_cost c form) w (perform s held at t form w) _ (form_exact at t form i w) (λ x u _. exact_or Anything 0 u (used x) at.span u _ (λ x. (stays _, tt)))

    pub discard_exact : (v : PlainValue) → IsStraightValue v → (w : State) → Exactly Anything (value_cost c v) w (discard s held v w)
    discard_exact (value at t form) i w = form_exact at t form i w

    form_exact : (at : At) (t : PlainType) (form : PlainForm) → IsStraightForm form → (w : State) → Exactly Anything (form_cost c form) w (perform s held at t form w)
    form_exact at t (constant z) i w = exact_step Anything 0 w _ (λ left. (stays _, tt))
    form_exact at t (read q) i w = exact_step Anything (place_cost c q) w _ (λ left.
        exact_on Anything Anything (place_cost c q) (record w { left = left }) (locate s held q (record w { left = left })) _ (place_exact q i (record w { left = left })) (λ target u _.
        exact_if Anything 0 u (is_structure t) _ _ ((stays _, tt))
        (exact_on Anything Anything 0 u (read_target (place_at q).span t held target u) give (target_exact (place_at q).span t held target u) (λ x v _. (stays _, tt)))))
    form_exact at t (sense k) i w = exact_step Anything 0 w _ (λ left.
        exact_on Anything Anything 0 (record w { left = left }) (read_target at.span t held Sensor (record w { left = left })) give (target_exact at.span t held Sensor (record w { left = left })) (λ x v _. (stays _, tt)))
    form_exact at t (address q) i w = exact_step Anything (place_cost c q) w _ (λ left.
        exact_on Anything Anything (place_cost c q) (record w { left = left }) (locate s held q (record w { left = left })) _ (place_exact q i (record w { left = left })) (λ target u _. (stays _, tt)))
    form_exact at t (decay q) i w = exact_step Anything (place_cost c q) w _ (λ left.
        exact_on Anything Anything (place_cost c q) (record w { left = left }) (locate s held q (record w { left = left })) _ (place_exact q i (record w { left = left })) (λ target u _.
        exact_or Anything 0 u (inner u.objects (pointer_to target) 0 (width s.program (element_type (place_type q))) (element_count (place_type q))) at.span u _ (λ r. (stays _, tt))))
    form_exact at t (convert v) i w = exact_on Anything Anything (value_cost c v) w (evaluate s held v w) _ (value_exact v i w) (λ x u _. (stays _, tt))
    form_exact at t (cast v) i w = exact_step Anything (value_cost c v) w _ (λ left.
        exact_if Anything (value_cost c v) (record w { left = left }) (is_void t) _ _
        (exact_on Anything Anything (value_cost c v) (record w { left = left }) (discard s held v (record w { left = left })) _ (discard_exact v i (record w { left = left })) (λ x u _. (stays _, tt)))
        (exact_on Anything Anything (value_cost c v) (record w { left = left }) (evaluate s held v (record w { left = left })) _ (value_exact v i (record w { left = left })) (λ x u _. (stays _, tt))))
    form_exact at t (unary op v) i w = exact_step Anything (value_cost c v) w _ (λ left.
        exact_on Anything Anything (value_cost c v) (record w { left = left }) (evaluate s held v (record w { left = left })) _ (value_exact v i (record w { left = left })) (λ x u _.
        exact_or Anything 0 u (operated_unary op t x) at.span u _ (λ z. (stays _, tt))))
    form_exact at t (binary op a b) i w = exact_step Anything (value_cost c a + value_cost c b) w _ (λ left.
        exact_then Anything Anything (value_cost c a) (value_cost c b) (record w { left = left }) (evaluate s held a (record w { left = left })) _ (value_exact a i.0 (record w { left = left })) (λ x u _.
        exact_on Anything Anything (value_cost c b) u (evaluate s held b u) _ (value_exact b i.1 u) (λ y v _.
        exact_or Anything 0 v (operated op t v.objects x y) at.span v _ (λ z. (stays _, tt)))))
    form_exact at t (built_in name k arguments) i w = exact_step Anything (values_cost c arguments) w _ (λ left.
        exact_on Anything Anything (values_cost c arguments) (record w { left = left }) (evaluate_all s held arguments (record w { left = left })) _ (all_exact arguments i (record w { left = left })) (λ xs u _. library_exact s.program k at.span t xs u))
    form_exact at t (logic op a b) i w = absurd i
    form_exact at t (conditional v a b) i w = absurd i
    form_exact at t (call name k arguments) i w = absurd i

    all_exact : (vs : PlainValues) → AreStraightValues vs → (w : State) → Exactly Anything (values_cost c vs) w (evaluate_all s held vs w)
    all_exact no_values i w = (stays _, tt)
    all_exact (more_values v vs) i w =
        exact_then Anything Anything (value_cost c v) (values_cost c vs) w (evaluate s held v w) _ (value_exact v i.0 w) (λ x u _.
        exact_on Anything Anything (values_cost c vs) u (evaluate_all s held vs u) _ (all_exact vs i.1 u) (λ xs v _. (stays _, tt)))

    pub place_exact : (q : PlainPlace) → IsStraightPlace q → (w : State) → Exactly Anything (place_cost c q) w (locate s held q w)
    place_exact (place at t form) i w = find_exact at t form i w

    find_exact : (at : At) (t : PlainType) (form : PlainPlaceForm) → IsStraightPlaceForm form → (w : State) → Exactly Anything (place_form_cost c form) w (find_place s held at t form w)
    find_exact at t (variable k) i w = exact_or Anything 0 w (variable_target k (width s.program t) (slice_get held k)) at.span w _ (λ target. (stays _, tt))
    find_exact at t (global k) i w = exact_or Anything 0 w (global_target k (width s.program t) (slice_get s.program.objects k)) at.span w _ (λ target. (stays _, tt))
    find_exact at t (literal k bytes) i w =
        exact_or Anything 0 w (literal_target (width s.program t) (literal_number k (length s.program.objects) s.program.literals)) at.span w _ (λ target. (stays _, tt))
    find_exact at t (index a b) i w = exact_step Anything (value_cost c a + value_cost c b) w _ (λ left.
        exact_then Anything Anything (value_cost c a) (value_cost c b) (record w { left = left }) (evaluate s held a (record w { left = left })) _ (value_exact a i.0 (record w { left = left })) (λ x u _.
        exact_on Anything Anything (value_cost c b) u (evaluate s held b u) _ (value_exact b i.1 u) (λ y v _.
        exact_or Anything 0 v (shift v.objects (pointer_of x) (number_of y)) at.span v _ (λ q. (stays _, tt)))))
    find_exact at t (member q k) i w = exact_step Anything (place_cost c q) w _ (λ left.
        exact_on Anything Anything (place_cost c q) (record w { left = left }) (locate s held q (record w { left = left })) _ (place_exact q i (record w { left = left })) (λ target u _.
        exact_or Anything 0 u (inner u.objects (pointer_to target) (scalars_before s.program (bare s.program.structures (place_type q)) k) (width s.program t) 1) at.span u _ (λ r. (stays _, tt))))
    find_exact at t (dereference v) i w = exact_step Anything (value_cost c v) w _ (λ left.
        exact_on Anything Anything (value_cost c v) (record w { left = left }) (evaluate s held v (record w { left = left })) _ (value_exact v i (record w { left = left })) (λ x u _.
        exact_or Anything 0 u (reach u.objects (pointer_of x)) at.span u _ (λ object. (stays _, tt))))

pub values_take_their_cost : ValuesTakeTheirCost
values_take_their_cost s functions loops held v w i = value_exact s functions loops held v i w
