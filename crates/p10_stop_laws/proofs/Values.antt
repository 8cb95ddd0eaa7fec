-- The stops of values and places have their causes in them, or in functions that they call.
use Rattle.std.proofs.Common.{◌≡◌, ℕ, zero, suc, ◌*◌, ◌<◌, ltb, leb, eqb, ◌&&◌, arith, cond, Bool, true, false, List, [], ◌∷◌, ◌++◌, length, refl, sym, ap, subst, Option, Some, None, Err, slice_get, ℤ}
use Rattle.std.specs.Bool.{nat_eq}
use Rattle.std.specs.Option.{option_map}
use Rattle.std.proofs.lemmas.Option.{same_Some, none-some}
use Rattle.std.specs.Prelude.{if◌then◌else◌, slice_index_or}
use Rattle.std.proofs.lemmas.Bool.{eq-eqb}
use Rattle.p10_base.specs.declared.span.Span.{Span}
use Rattle.p10_base.specs.declared.at.At.{At}
use Rattle.p10_int.specs.declared.operators.Stop.{Stop}
use Rattle.p10_int.specs.declared.operators.Stop.TheVariants.{U10, U11}
use Rattle.p10_core.specs.declared.typed.Library.{Library}
use Rattle.p10_core.specs.declared.typed.Library.TheVariants.{Assert, CAssert, Getchar, Putchar, Malloc, Calloc, Free}
use Rattle.p10_core.specs.Types.{PlainType, integer, pointer, bare}
use Rattle.p10_core.specs.Sizes.{repeated}
use Rattle.p10_core.specs.Rows.{is_scalar}
use Rattle.p10_core.specs.Typed.{PlainValue, value, type_of, PlainForm, constant, read, sense, address, decay, convert, cast, unary, binary, logic, conditional, call, built_in, PlainPlace, place, place_at, place_type, PlainPlaceForm, variable, global, literal, index, member, dereference, PlainValues, no_values, more_values, PlainVariable, PlainFunction, PlainObject, PlainLiteral, PlainProgram}
use Rattle.p10_core.specs.Nodes.{PlainNode, a_value, a_place, nodes_of_value, nodes_in_form, nodes_of_place, nodes_in_place_form, nodes_of_values}
use Rattle.p10_core.specs.Whole.{SeenVariable, SeenObject, SeenFunction, Surroundings, ArgumentsFit, CallsLibrary, IsWholeValue, IsWholeForm, IsWholePlace, IsWholePlaceForm, AreWholeValues}
use Rattle.p10_core.specs.WholePrograms.{seen_object, seen_function, parameter_types, surroundings_of, IsWholeProgram}
use Rattle.p10_meaning.specs.declared.pointers.Scalar.{Scalar}
use Rattle.p10_meaning.specs.declared.pointers.Cell.{Cell}
use Rattle.p10_meaning.specs.Objects.{on_ok, cell_at, reach, shift, inner, release}
use Rattle.p10_meaning.specs.Pointers.{read_of}
use Rattle.p10_meaning.specs.States.{State, Progress, gives, and_then, or_undefined, counted}
use Rattle.p10_meaning.specs.Scalars.{number_of, pointer_of, is_true, operated, operated_unary, unset_cells, zero_cells}
use Rattle.p10_meaning.specs.Values.{Calls, Setting, Held, holds, stands, absent, Target, Variable, Sensor, Element, width, size, scalars, held_cell, variable_target, global_target, literal_target, literal_number, pointer_to, sensed_from, sensed, read_target, next_byte, is_denied, granted, requested, elements, pointee, first_argument, library, give, is_void, is_structure, element_type, element_count, scalars_before, is_decided, evaluate, discard, perform, evaluate_all, locate, find_place}
use Rattle.p10_meaning.specs.Sound.{Kind, Fits, Sound, FrameFits, Grows, Keeps, ScalarsFit, KeepSound, AreSeen}
use Rattle.p10_meaning.proofs.Geometry.{IsLaidOut}
use Rattle.p10_meaning.proofs.Fitting.{fits_grown, frame_grown, fits_same}
use Rattle.p10_meaning.proofs.Keeping.{kept, keeps_then}
use Rattle.p10_meaning.proofs.SoundValues.{ValuesFit, IsCallee, evaluate_keeps}
use Rattle.p10_stop_laws.specs.Causes.{Reading, StopsWhere, OperatorStops, NodeStops, indexes, selects, dereferences, reads, decays, operates, frees}
use Rattle.p10_stop_laws.proofs.Present.{IsThere}
use Rattle.p10_stop_laws.proofs.Alive.{CallsLeave}
use Rattle.p10_stop_laws.proofs.Among.{AllIn, all_front, all_back}
use Rattle.p10_stop_laws.proofs.Ending.{stops_step, stops_on, stops_then, stops_or, stops_if}
use Rattle.p10_stop_laws.proofs.Pointing.{reach_stops, inner_stops, shift_stops, read_of_stops, read_stops, release_stops}
use Rattle.p10_stop_laws.proofs.Shapes.{binary_shape, left_scalar, right_scalar, conditional_scalars, unary_shape, operand_scalar}
use Rattle.p10_stop_laws.proofs.Operated.{binary_stops, unary_stops}
use Rattle.p10_stop_laws.proofs.Giving.{of_scalar, converted_scalar, cast_scalar, AreScalarValues, arguments_scalar, library_scalars, is_call, call_cause, form_some, used_given, used_maybe}

-- a node that has a property is the cause of a stop
pub record Found (In : PlainNode → Type 0) (stop : Stop) (span : Span) : Type 0 where
  pub node : PlainNode
  pub among : In node
  pub ends_there : NodeStops node stop span

pub found : (In : PlainNode → Type 0) (node : PlainNode) (stop : Stop) (span : Span) → In node → NodeStops node stop span → Found In stop span
found In node stop span h k = record { node = node; among = h; ends_there = k }

-- calls in sound states, on arguments that fit, stop with such a cause; they end no object that was declared before
pub record CallsStop (p : PlainProgram) (calls : Calls) (In : PlainNode → Type 0) : Type 0 where
  pub stops : (f : ℕ) (g : PlainFunction) (xs : List Scalar) (w : State) (ks : List Kind) → slice_get p.functions f ≡ Some g → ScalarsFit p ks (parameter_types g) xs → Sound p ks w → StopsWhere (Found In) (calls f xs w)
  pub keep : (o m : ℕ) → CallsLeave o m calls

-- ## Names

variable_stops : (P : Stop → Span → Type 0) (n k : ℕ) (span : Span) (h : Option Held) (w : State) → IsThere h → StopsWhere P (or_undefined (variable_target n k h) span w (λ target. gives target w))
variable_stops P n k span None w c = absurd c
variable_stops P n k span (Some absent) w c = absurd c
variable_stops P n k span (Some (holds cell)) w c = tt
variable_stops P n k span (Some (stands o)) w c = tt

global_stops : (P : Stop → Span → Type 0) (n k : ℕ) (span : Span) (o : Option PlainObject) (w : State) → (o ≡ None → ⊥) → StopsWhere P (or_undefined (global_target n k o) span w (λ target. gives target w))
global_stops P n k span None w h = absurd (h refl)
global_stops P n k span (Some object) w h = tt

-- ## Reads and library functions

sensed_stops : (P : Stop → Span → Type 0) (sensors : List ℤ) (t : PlainType) (w : State) → StopsWhere P (sensed_from sensors t w)
sensed_stops P [] t w = tt
sensed_stops P (z ∷ sensors) t w = tt

pub target_stops : (P : Stop → Span → Type 0) (span : Span) (t : PlainType) (held : List Held) (target : Target) (w : State) → ((stop : Stop) → Reading stop → P stop span) → StopsWhere P (read_target span t held target w)
target_stops P span t held (Variable n) w h = stops_or P (read_of (held_cell (slice_get held n))) span w _ (λ stop e. h stop (read_of_stops (held_cell (slice_get held n)) stop e)) (λ x e. tt)
target_stops P span t held Sensor w h = sensed_stops P w.sensors t w
target_stops P span t held (Element q) w h = stops_or P (on_ok (cell_at w.objects q) read_of) span w _ (λ stop e. h stop (read_stops w.objects q stop e)) (λ x e. tt)

-- a program's string literals have places
literal_there : (n : ℕ) (bytes : List ℕ) (from : ℕ) (literals : List PlainLiteral) (k : ℕ) → k < length literals → slice_index_or literals k (record { number = n; bytes = bytes }) ≡ record { number = n; bytes = bytes } →
    literal_number n from literals ≡ None → ⊥
literal_there n bytes from [] k l h e = absurd (omega (arith, l))
literal_there n bytes from (x ∷ literals) zero l h e = by_test (eqb x.number n) refl e
  where
    same : x.number ≡ n
    same = ap (λ (x : PlainLiteral). x.number) h

    by_test : (b : Bool) → eqb x.number n ≡ b → cond b (Some from) (literal_number n (suc from) literals) ≡ None → ⊥
    by_test true t f = none-some _ (sym f)
    by_test false t f = let u : eqb n n ≡ false = subst (λ (m : ℕ). eqb m n ≡ false) same t in let v = eq-eqb n n refl in cc
literal_there n bytes from (x ∷ literals) (suc k) l h e = by_test (eqb x.number n) (λ f. literal_there n bytes (suc from) literals k (omega (arith, l)) h f) e
  where
    by_test : (b : Bool) → (literal_number n (suc from) literals ≡ None → ⊥) → cond b (Some from) (literal_number n (suc from) literals) ≡ None → ⊥
    by_test true g f = none-some _ (sym f)
    by_test false g f = g f

literal_stops : (P : Stop → Span → Type 0) (k : ℕ) (span : Span) (o : Option ℕ) (w : State) → (o ≡ None → ⊥) → StopsWhere P (or_undefined (literal_target k o) span w (λ target. gives target w))
literal_stops P k span None w h = absurd (h refl)
literal_stops P k span (Some o) w h = tt

object_there : (o : Option PlainObject) (seen : SeenObject) → option_map seen_object o ≡ Some seen → o ≡ None → ⊥
object_there None seen e f = none-some _ e
object_there (Some object) seen e f = none-some _ (sym f)

-- ## Calls

requested_stops : (P : Stop → Span → Type 0) (p : PlainProgram) (t : PlainType) (n : ℕ) (fill : List PlainType → List Cell) (w : State) → StopsWhere P (requested p t n fill w)
requested_stops P p t n fill w =
    stops_if P (ltb 0 (n * size p t) && leb (n * size p t) 1048576) _ _ (λ e. granted_stops (width p t) n (fill (repeated n (scalars p t))) (record w { requests = suc w.requests })) (λ e. tt)
  where
    granted_stops : (stride n : ℕ) (cells : List Cell) (w : State) → StopsWhere P (granted stride n cells w)
    granted_stops stride n cells w = stops_if P (is_denied w.denied w.requests) _ _ (λ e. tt) (λ e. tt)

pub callee_of : (p : PlainProgram) (n : ℕ) (seen : SeenFunction) → (if nat_eq n p.main then None else option_map seen_function (slice_get p.functions n)) ≡ Some seen → IsCallee p n seen
callee_of p n seen e = by_test (nat_eq n p.main) (slice_get p.functions n) refl e
  where
    by_test : (b : Bool) (o : Option PlainFunction) → slice_get p.functions n ≡ o → cond b None (option_map seen_function o) ≡ Some seen → IsCallee p n seen
    by_test true o h e = absurd (none-some _ e)
    by_test false None h e = absurd (none-some _ e)
    by_test false (Some g) h e = record { callee = g; there = h; is = same_Some _ _ e }

arguments_fit : (p : PlainProgram) (c : Surroundings) (ks : List Kind) (ts : List PlainType) (vs : PlainValues) (xs : List Scalar) → c.structures ≡ p.structures → ArgumentsFit c ts vs → ValuesFit p ks vs xs → ScalarsFit p ks ts xs
arguments_fit p c ks [] no_values [] e a f = tt
arguments_fit p c ks (t ∷ ts) (more_values v vs) (x ∷ xs) e a f =
    (fits_same p ks (type_of v) t x (subst (λ ss. bare ss (type_of v) ≡ bare ss t) e a.0) f.0, arguments_fit p c ks ts vs xs e a.1 f.1)
arguments_fit p c ks [] no_values (x ∷ xs) e a f = absurd f
arguments_fit p c ks (t ∷ ts) (more_values v vs) [] e a f = absurd f
arguments_fit p c ks [] (more_values v vs) xs e a f = absurd a
arguments_fit p c ks (t ∷ ts) no_values xs e a f = absurd a

-- ## Values and places

module _ (p : PlainProgram) (out : IsLaidOut p) (whole : IsWholeProgram p) (calls : Calls) (meaning : KeepSound p calls) (n : ℕ) (variables : List PlainVariable) (seen_at : ℕ → Option SeenVariable) (seen : AreSeen variables seen_at) (held : List Held) (there : (k : ℕ) (v : SeenVariable) → seen_at k ≡ Some v → IsThere (slice_get held k)) (In : PlainNode → Type 0) (called : CallsStop p calls In) where
  abbrev s : Setting
  s = record { program = p; variables = variables; call = calls; turns = n }

  abbrev c : Surroundings
  c = record (surroundings_of p) { variable_at = seen_at }

  abbrev FrameAt : List Kind → Type 0
  FrameAt ks = FrameFits p ks variables held

  abbrev P : Stop → Span → Type 0
  P = Found In

  later : (ks js : List Kind) → Grows ks js → FrameAt ks → FrameAt js
  later ks js g f = frame_grown p ks js variables held g f

  value_keeps : (v : PlainValue) → IsWholeValue c v → (w : State) (ks : List Kind) → Sound p ks w → FrameAt ks → Keeps p ks (λ ks. Fits p ks (type_of v)) (evaluate s held v w)
  value_keeps v i w ks so f = evaluate_keeps p out whole calls meaning n variables seen_at seen held v i w ks so f

  all_keep : (vs : PlainValues) → AreWholeValues c vs → (w : State) (ks : List Kind) → Sound p ks w → FrameAt ks → Keeps p ks (λ ks. ValuesFit p ks vs) (evaluate_all s held vs w)
  all_keep no_values i w ks so f = kept p ks (λ ks. ValuesFit p ks no_values) [] w so tt
  all_keep (more_values v vs) i w ks so f =
      keeps_then p ks (λ ks. Fits p ks (type_of v)) (λ ks. ValuesFit p ks (more_values v vs)) (evaluate s held v w) _ (value_keeps v i.0 w ks so f) (λ x w js so g fx.
      keeps_then p js (λ ks. ValuesFit p ks vs) (λ ks. ValuesFit p ks (more_values v vs)) (evaluate_all s held vs w) _ (all_keep vs i.1 w js so (later ks js g f)) (λ xs w ls so h fxs.
      let both : ValuesFit p ls (more_values v vs) (x ∷ xs) = (fits_grown p js ls (type_of v) x h fx, fxs) in kept p ls (λ ks. ValuesFit p ks (more_values v vs)) (x ∷ xs) w so both))

  -- what is known of an evaluation
  abbrev Stops : PlainValue → Type 0
  Stops v = (w : State) (ks : List Kind) → Sound p ks w → FrameAt ks → StopsWhere P (evaluate s held v w)

  two_stop : {A : Type 0} (a b : PlainValue) → IsWholeValue c a → IsWholeValue c b → Stops a → Stops b → (w : State) (ks : List Kind) → Sound p ks w → FrameAt ks → (go : Scalar → Scalar → State → Progress A) →
      ((x y : Scalar) (v : State) (js : List Kind) → Sound p js v → Fits p js (type_of a) x → Fits p js (type_of b) y → StopsWhere P (go x y v)) →
      StopsWhere P (and_then (evaluate s held a w) (λ x w. and_then (evaluate s held b w) (λ y w. go x y w)))
  two_stop a b i j ka kb w ks so f go h =
      stops_then p ks (λ ks. Fits p ks (type_of a)) P (evaluate s held a w) _ (value_keeps a i w ks so f) (ka w ks so f) (λ x w js so g fx.
      stops_then p js (λ ks. Fits p ks (type_of b)) P (evaluate s held b w) _ (value_keeps b j w js so (later ks js g f)) (kb w js so (later ks js g f)) (λ y w ls so k fy.
      h x y w ls so (fits_grown p js ls (type_of a) x k fx) fy))

  library_stops : (at : At) (t : PlainType) (name : Span) (f : Library) (vs : PlainValues) (xs : List Scalar) (w : State) → CallsLibrary c t f vs → In (a_value (value at t (built_in name f vs))) → StopsWhere P (library p f at.span t xs w)
  library_stops at t name Getchar vs xs w i m = byte_stops w.input
    where
      byte_stops : (input : List ℕ) → StopsWhere P (next_byte input w)
      byte_stops [] = tt
      byte_stops (byte ∷ input) = tt
  library_stops at t name Putchar vs xs w i m = tt
  library_stops at t name CAssert vs xs w i m = tt
  library_stops at t name Malloc vs xs w i m = requested_stops P p (pointee t) (elements xs) unset_cells (counted w)
  library_stops at t name Calloc vs xs w i m = requested_stops P p (pointee t) (elements xs) zero_cells (counted w)
  library_stops at t name Free vs xs w i m =
      stops_or P (release (counted w).objects (pointer_of (first_argument xs))) at.span (counted w) _
      (λ stop e. subst (λ stop. P stop at.span) (release_stops (counted w).objects (pointer_of (first_argument xs)) stop e) (found In _ U11 at.span m (frees at t name vs))) (λ objects e. tt)
  library_stops at t name Assert vs xs w i m = stops_if P (is_true (first_argument xs)) _ _ (λ e. tt) (λ e. tt)

  -- a value that is used
  used_stops : (at : At) (t : PlainType) (form : PlainForm) → IsWholeForm c t form → is_scalar t ≡ true → In (a_value (value at t form)) → (w : State) → StopsWhere P (perform s held at t form w) → StopsWhere P (evaluate s held (value at t form) w)
  used_stops at t form i h m w k = by_call (is_call form) refl
    where
      by_call : (b : Bool) → is_call form ≡ b → StopsWhere P (evaluate s held (value at t form) w)
      by_call true e = used_maybe P at.span (perform s held at t form w) (found In (a_value (value at t form)) U10 at.span m (call_cause at t form e)) k
      by_call false e = used_given P at.span (perform s held at t form w) (form_some s held c at t form i h e w) k

  mutual
    pub value_stops : (v : PlainValue) → IsWholeValue c v → is_scalar (type_of v) ≡ true → AllIn In (nodes_of_value v) → Stops v
    value_stops (value at t form) i h m w ks so f = used_stops at t form i h m.0 w (form_stops at t form i m w ks so f)

    pub discard_stops : (v : PlainValue) → IsWholeValue c v → AllIn In (nodes_of_value v) → (w : State) (ks : List Kind) → Sound p ks w → FrameAt ks → StopsWhere P (discard s held v w)
    discard_stops (value at t form) i m w ks so f = form_stops at t form i m w ks so f

    form_stops : (at : At) (t : PlainType) (form : PlainForm) → IsWholeForm c t form → AllIn In (a_value (value at t form) ∷ nodes_in_form form) → (w : State) (ks : List Kind) → Sound p ks w → FrameAt ks →
        StopsWhere P (perform s held at t form w)
    form_stops at t (constant z) i m w ks so f = stops_step P w _ (λ left. tt)
    form_stops at t (read q) i m w ks so f = stops_step P w _ (λ left.
        stops_on P (locate s held q (record w { left = left })) _ (place_stops q i.0 m.1 (record w { left = left }) ks so f) (λ target w.
        stops_if P (is_structure t) _ _ (λ e. tt) (λ e.
        stops_on P (read_target (place_at q).span t held target w) give
        (target_stops P (place_at q).span t held target w (λ stop r. found In (a_value (value at t (read q))) stop (place_at q).span m.0 (reads at t q stop r))) (λ x w. tt))))
    form_stops at t (sense k) i m w ks so f = stops_step P w _ (λ left.
        stops_on P (sensed t (record w { left = left })) give (sensed_stops P w.sensors t (record w { left = left })) (λ x w. tt))
    form_stops at t (address q) i m w ks so f = stops_step P w _ (λ left.
        stops_on P (locate s held q (record w { left = left })) _ (place_stops q i.0 m.1 (record w { left = left }) ks so f) (λ target w. tt))
    form_stops at t (decay q) i m w ks so f = stops_step P w _ (λ left.
        stops_on P (locate s held q (record w { left = left })) _ (place_stops q i.0 m.1 (record w { left = left }) ks so f) (λ target w.
        stops_or P (inner w.objects (pointer_to target) 0 (width p (element_type (place_type q))) (element_count (place_type q))) at.span w _
        (λ stop e. found In (a_value (value at t (decay q))) stop at.span m.0 (decays at t q stop (inner_stops w.objects (pointer_to target) 0 (width p (element_type (place_type q))) (element_count (place_type q)) stop e))) (λ r e. tt)))
    form_stops at t (convert v) i m w ks so f = stops_on P (evaluate s held v w) _ (value_stops v i.0 (converted_scalar t v i.1) m.1 w ks so f) (λ x w. tt)
    form_stops at t (cast v) i m w ks so f = stops_step P w _ (λ left.
        stops_if P (is_void t) _ _
        (λ e. stops_on P (discard s held v (record w { left = left })) _ (discard_stops v i.0 m.1 (record w { left = left }) ks so f) (λ x w. tt))
        (λ e. stops_on P (evaluate s held v (record w { left = left })) _ (value_stops v i.0 (cast_scalar t v i.1 e) m.1 (record w { left = left }) ks so f) (λ x w. tt)))
    form_stops at t (unary op v) i m w ks so f = stops_step P w _ (λ left.
        stops_then p ks (λ ks. Fits p ks (type_of v)) P (evaluate s held v (record w { left = left })) _ (value_keeps v i.0 (record w { left = left }) ks so f)
        (value_stops v i.0 (of_scalar (type_of v) i.1.entry.operand i.1.operand_is (operand_scalar op i.1.entry (unary_shape op i.1.of_type i.1.entry i.1.is))) m.1 (record w { left = left }) ks so f) (λ x w js so g fx.
        stops_or P (operated_unary op t x) at.span w _ (λ stop e. found In (a_value (value at t (unary op v))) stop at.span m.0 (unary_stops p js at t op v i.1 x stop fx e)) (λ z e. tt)))
    form_stops at t (binary op a b) i m w ks so f = stops_step P w _ (λ left.
        let shape = binary_shape p.structures op i.2.left_null i.2.right_null i.2.left_type i.2.right_type i.2.entry i.2.is in
        two_stop a b i.0 i.1
        (value_stops a i.0 (of_scalar (type_of a) i.2.entry.left i.2.left_is (left_scalar op i.2.entry shape)) (all_front In (nodes_of_value a) (nodes_of_value b) m.1))
        (value_stops b i.1 (of_scalar (type_of b) i.2.entry.right i.2.right_is (right_scalar op i.2.entry shape)) (all_back In (nodes_of_value a) (nodes_of_value b) m.1))
        (record w { left = left }) ks so f _ (λ x y w js so fx fy.
        stops_or P (operated op t w.objects x y) at.span w _ (λ stop e. found In (a_value (value at t (binary op a b))) stop at.span m.0 (operates at t op a b stop (operator_stops w js so x y fx fy stop e))) (λ z e. tt)))
      where
        operator_stops : (w : State) (ks : List Kind) → Sound p ks w → (x y : Scalar) → Fits p ks (type_of a) x → Fits p ks (type_of b) y → (stop : Stop) → operated op t w.objects x y ≡ Err stop → OperatorStops op t (type_of a) (type_of b) stop
        operator_stops w ks so x y fx fy stop e =
            let shape = binary_shape p.structures op i.2.left_null i.2.right_null i.2.left_type i.2.right_type i.2.entry i.2.is in
            subst (λ (t : PlainType). OperatorStops op t (type_of a) (type_of b) stop) (sym i.2.result_is)
            (subst (λ (l : PlainType). OperatorStops op i.2.entry.result l (type_of b) stop) (sym i.2.left_is)
            (subst (λ (r : PlainType). OperatorStops op i.2.entry.result i.2.entry.left r stop) (sym i.2.right_is)
            (binary_stops p ks w so op i.2.entry shape x y stop (subst (λ (t : PlainType). Fits p ks t x) i.2.left_is fx) (subst (λ (t : PlainType). Fits p ks t y) i.2.right_is fy)
            (subst (λ (t : PlainType). operated op t w.objects x y ≡ Err stop) i.2.result_is e))))
    form_stops at t (logic op a b) i m w ks so f = stops_step P w _ (λ left.
        stops_then p ks (λ ks. Fits p ks (type_of a)) P (evaluate s held a (record w { left = left })) _ (value_keeps a i.0 (record w { left = left }) ks so f)
        (value_stops a i.0 i.3 (all_front In (nodes_of_value a) (nodes_of_value b) m.1) (record w { left = left }) ks so f) (λ x w js so g fx.
        stops_if P (is_decided op (is_true x)) _ _ (λ e. tt)
        (λ e. stops_on P (evaluate s held b w) _ (value_stops b i.1 i.4 (all_back In (nodes_of_value a) (nodes_of_value b) m.1) w js so (later ks js g f)) (λ y w. tt))))
    form_stops at t (conditional v a b) i m w ks so f = stops_step P w _ (λ left.
        let are = conditional_scalars i.4.left_null i.4.right_null i.4.left_type i.4.right_type i.4.entry i.4.is in
        let rest = all_back In (nodes_of_value v) (nodes_of_value a ++ nodes_of_value b) m.1 in
        stops_then p ks (λ ks. Fits p ks (type_of v)) P (evaluate s held v (record w { left = left })) _ (value_keeps v i.0 (record w { left = left }) ks so f)
        (value_stops v i.0 i.3 (all_front In (nodes_of_value v) (nodes_of_value a ++ nodes_of_value b) m.1) (record w { left = left }) ks so f) (λ x w js so g fx.
        stops_on P (cond (is_true x) (evaluate s held a w) (evaluate s held b w)) give
        (stops_if P (is_true x) (evaluate s held a w) (evaluate s held b w)
        (λ e. value_stops a i.1 (of_scalar (type_of a) i.4.entry.left i.4.left_is are.0) (all_front In (nodes_of_value a) (nodes_of_value b) rest) w js so (later ks js g f))
        (λ e. value_stops b i.2 (of_scalar (type_of b) i.4.entry.right i.4.right_is are.1) (all_back In (nodes_of_value a) (nodes_of_value b) rest) w js so (later ks js g f)))
        (λ y w. tt)))
    form_stops at t (call name k arguments) i m w ks so f = stops_step P w _ (λ left.
        let callee : IsCallee p k i.1.seen = callee_of p k i.1.seen i.1.there in
        let fit : ArgumentsFit c (parameter_types callee.callee) arguments = subst (λ (g : SeenFunction). ArgumentsFit c g.parameters arguments) (sym callee.is) i.1.fit in
        stops_then p ks (λ ks. ValuesFit p ks arguments) P (evaluate_all s held arguments (record w { left = left })) _ (all_keep arguments i.0 (record w { left = left }) ks so f)
        (all_stop arguments i.0 (arguments_scalar c (parameter_types callee.callee) arguments (whole.functions k callee.callee callee.there).parameters_scalar fit) m.1 (record w { left = left }) ks so f) (λ xs w js so g fxs.
        called.stops k callee.callee xs w js callee.there (arguments_fit p c js (parameter_types callee.callee) arguments xs refl fit fxs) so))
    form_stops at t (built_in name k arguments) i m w ks so f = stops_step P w _ (λ left.
        stops_on P (evaluate_all s held arguments (record w { left = left })) _ (all_stop arguments i.0 (library_scalars c t k arguments i.1) m.1 (record w { left = left }) ks so f) (λ xs w.
        library_stops at t name k arguments xs w i.1 m.0))

    all_stop : (vs : PlainValues) → AreWholeValues c vs → AreScalarValues vs → AllIn In (nodes_of_values vs) → (w : State) (ks : List Kind) → Sound p ks w → FrameAt ks → StopsWhere P (evaluate_all s held vs w)
    all_stop no_values i h m w ks so f = tt
    all_stop (more_values v vs) i h m w ks so f =
        stops_then p ks (λ ks. Fits p ks (type_of v)) P (evaluate s held v w) _ (value_keeps v i.0 w ks so f) (value_stops v i.0 h.0 (all_front In (nodes_of_value v) (nodes_of_values vs) m) w ks so f) (λ x w js so g fx.
        stops_on P (evaluate_all s held vs w) _ (all_stop vs i.1 h.1 (all_back In (nodes_of_value v) (nodes_of_values vs) m) w js so (later ks js g f)) (λ xs w. tt))

    pub place_stops : (q : PlainPlace) → IsWholePlace c q → AllIn In (nodes_of_place q) → (w : State) (ks : List Kind) → Sound p ks w → FrameAt ks → StopsWhere P (locate s held q w)
    place_stops (place at t form) i m w ks so f = find_stops at t form i m w ks so f

    find_stops : (at : At) (t : PlainType) (form : PlainPlaceForm) → IsWholePlaceForm c t form → AllIn In (a_place (place at t form) ∷ nodes_in_place_form form) → (w : State) (ks : List Kind) → Sound p ks w → FrameAt ks →
        StopsWhere P (find_place s held at t form w)
    find_stops at t (variable k) i m w ks so f = variable_stops P k (width p t) at.span (slice_get held k) w (there k i.seen i.there)
    find_stops at t (global k) i m w ks so f = global_stops P k (width p t) at.span (slice_get p.objects k) w (object_there (slice_get p.objects k) i.seen i.there)
    find_stops at t (literal k bytes) i m w ks so f =
        literal_stops P (width p t) at.span (literal_number k (length p.objects) p.literals) w (literal_there k bytes (length p.objects) p.literals i.is_listed.0 i.is_listed.1 i.is_listed.2)
    find_stops at t (index a b) i m w ks so f = stops_step P w _ (λ left.
        two_stop a b i.0 i.1
        (value_stops a i.0 (of_scalar (type_of a) (pointer false t) i.2.pointer_is refl) (all_front In (nodes_of_value a) (nodes_of_value b) m.1))
        (value_stops b i.1 (of_scalar (type_of b) (integer false i.2.kind) i.2.integer_is refl) (all_back In (nodes_of_value a) (nodes_of_value b) m.1))
        (record w { left = left }) ks so f _ (λ x y w js so fx fy.
        stops_or P (shift w.objects (pointer_of x) (number_of y)) at.span w _
        (λ stop e. found In (a_place (place at t (index a b))) stop at.span m.0 (indexes at t a b stop (shift_stops w.objects (pointer_of x) (number_of y) stop e))) (λ q e. tt)))
    find_stops at t (member q k) i m w ks so f = stops_step P w _ (λ left.
        stops_on P (locate s held q (record w { left = left })) _ (place_stops q i.0 m.1 (record w { left = left }) ks so f) (λ target w.
        stops_or P (inner w.objects (pointer_to target) (scalars_before p (bare p.structures (place_type q)) k) (width p t) 1) at.span w _
        (λ stop e. found In (a_place (place at t (member q k))) stop at.span m.0
        (selects at t q k stop (inner_stops w.objects (pointer_to target) (scalars_before p (bare p.structures (place_type q)) k) (width p t) 1 stop e))) (λ r e. tt)))
    find_stops at t (dereference v) i m w ks so f = stops_step P w _ (λ left.
        stops_on P (evaluate s held v (record w { left = left })) _ (value_stops v i.0 (of_scalar (type_of v) (pointer false t) i.1 refl) m.1 (record w { left = left }) ks so f) (λ x w.
        stops_or P (reach w.objects (pointer_of x)) at.span w _
        (λ stop e. found In (a_place (place at t (dereference v))) stop at.span m.0 (dereferences at t v stop (reach_stops w.objects (pointer_of x) stop e))) (λ object e. tt)))
