-- Values and places of which each node keeps what holds of the mark and of the count, by induction on them.
use Rattle.std.proofs.Common.{◌≡◌, ℕ, suc, Bool, true, List, [], ◌∷◌, ◌++◌, refl, ℤ}
use Rattle.std.specs.Prelude.{if◌then◌else◌, ltb, leb, ◌&&◌, ◌*◌}
use Rattle.p10_base.specs.declared.span.Span.{Span}
use Rattle.p10_base.specs.declared.at.At.{At}
use Rattle.p10_core.specs.declared.typed.Library.{Library}
use Rattle.p10_core.specs.declared.typed.Library.TheVariants.{Assert, CAssert, Getchar, Putchar, Malloc, Calloc, Free}
use Rattle.p10_core.specs.Types.{PlainType}
use Rattle.p10_core.specs.Typed.{PlainValue, value, PlainForm, constant, read, sense, address, decay, convert, cast, unary, binary, logic, conditional, call, built_in, PlainPlace, place, PlainPlaceForm, variable, global, literal, index, member, dereference, PlainValues, no_values, more_values, PlainProgram}
use Rattle.p10_core.specs.Nodes.{PlainNode, nodes_of_value, nodes_of_place, nodes_in_place_form, nodes_of_values}
use Rattle.p10_core.specs.Uses.{manages_memory}
use Rattle.p10_meaning.specs.declared.pointers.Scalar.{Scalar}
use Rattle.p10_meaning.specs.declared.pointers.Cell.{Cell}
use Rattle.p10_meaning.specs.Objects.{release}
use Rattle.p10_meaning.specs.States.{State, counted}
use Rattle.p10_meaning.specs.Scalars.{is_true, pointer_of, unset_cells, zero_cells}
use Rattle.p10_meaning.specs.Values.{Setting, Held, size, Target, Variable, Sensor, Element, sensed_from, sensed, read_target, first_argument, asserted, next_byte, is_denied, granted, requested, library, give, is_void, is_structure, is_decided, evaluate, discard, perform, evaluate_all, locate, find_place}
use Rattle.p10_allocation.proofs.Outcomes.{Each, each_left, each_right, Leaves, Keeps, leaves_here, leaves_step, leaves_then, leaves_or, leaves_if}

-- ## Reads and library functions

module _ (P : Bool → ℕ → Type 0) where
  abbrev In : State → Type 0
  In w = P w.marked w.after_mark

  sensed_leaves : (sensors : List ℤ) (t : PlainType) (w : State) → In w → Leaves P (sensed_from sensors t w)
  sensed_leaves [] t w e = record { state = e }
  sensed_leaves (z ∷ sensors) t w e = record { state = e }

  pub read_leaves : (span : Span) (t : PlainType) (held : List Held) (target : Target) (w : State) → In w → Leaves P (read_target span t held target w)
  read_leaves span t held (Variable k) w e = leaves_or P _ span w _ e (λ x. leaves_here P x w e)
  read_leaves span t held Sensor w e = sensed_leaves w.sensors t w e
  read_leaves span t held (Element q) w e = leaves_or P _ span w _ e (λ x. leaves_here P x w e)

  pub asserted_leaves : (span : Span) (x : Scalar) (w : State) → In w → Leaves P (asserted span x w)
  asserted_leaves span x w e = leaves_if P (is_true x) _ _ (record { state = e }) (record { state = e })

  next_leaves : (input : List ℕ) (w : State) → In w → Leaves P (next_byte input w)
  next_leaves [] w e = record { state = e }
  next_leaves (byte ∷ input) w e = record { state = e }

  granted_leaves : (stride n : ℕ) (cells : List Cell) (w : State) → In w → Leaves P (granted stride n cells w)
  granted_leaves stride n cells w e = leaves_if P (is_denied w.denied w.requests) _ _ (record { state = e }) (record { state = e })

  requested_leaves : (p : PlainProgram) (t : PlainType) (n : ℕ) (fill : List PlainType → List Cell) (w : State) → In w → Leaves P (requested p t n fill w)
  requested_leaves p t n fill w e =
      leaves_if P (ltb 0 (n * size p t) && leb (n * size p t) 1048576) _ _ (granted_leaves _ n _ (record w { requests = suc w.requests }) e) (record { state = e })

  library_leaves : (p : PlainProgram) (f : Library) (span : Span) (t : PlainType) (xs : List Scalar) (w : State) → In w → (manages_memory f ≡ true → In (counted w)) → Leaves P (library p f span t xs w)
  library_leaves p Assert span t xs w e m = asserted_leaves span (first_argument xs) w e
  library_leaves p CAssert span t xs w e m = record { state = e }
  library_leaves p Getchar span t xs w e m = next_leaves w.input w e
  library_leaves p Putchar span t xs w e m = record { state = e }
  library_leaves p Malloc span t xs w e m = requested_leaves p _ _ unset_cells (counted w) (m refl)
  library_leaves p Calloc span t xs w e m = requested_leaves p _ _ zero_cells (counted w) (m refl)
  library_leaves p Free span t xs w e m = leaves_or P (release w.objects (pointer_of (first_argument xs))) span (counted w) _ (m refl) (λ objects. record { state = m refl })

-- ## Values and places

module _ (P : Bool → ℕ → Type 0) (N : PlainNode → Type 0) (s : Setting) (keeps : Keeps P N s.call) (held : List Held) where
  abbrev Stands : State → Type 0
  Stands w = P w.marked w.after_mark

  mutual
    pub evaluate_leaves : (v : PlainValue) → Each N (nodes_of_value v) → (w : State) → Stands w → Leaves P (evaluate s held v w)
    evaluate_leaves (value at t form) q w e = leaves_then P (perform s held at t form w) _ (perform_leaves at t form q w e) (λ x w e. leaves_or P _ at.span w _ e (λ x. leaves_here P x w e))

    pub discard_leaves : (v : PlainValue) → Each N (nodes_of_value v) → (w : State) → Stands w → Leaves P (discard s held v w)
    discard_leaves (value at t form) q w e = perform_leaves at t form q w e

    perform_leaves : (at : At) (t : PlainType) (form : PlainForm) → Each N (nodes_of_value (value at t form)) → (w : State) → Stands w → Leaves P (perform s held at t form w)
    perform_leaves at t (constant z) q w e = leaves_step P w _ e (λ m. leaves_here P _ (record w { left = m }) e)
    perform_leaves at t (read p) q w e = leaves_step P w _ e (λ m. leaves_then P (locate s held p (record w { left = m })) _ (locate_leaves p q.1 (record w { left = m }) e) (λ target w e.
        leaves_if P (is_structure t) _ _ (leaves_here P _ w e) (leaves_then P (read_target _ t held target w) give (read_leaves P _ t held target w e) (λ x w e. leaves_here P _ w e))))
    perform_leaves at t (sense k) q w e = leaves_step P w _ e (λ m. leaves_then P (sensed t (record w { left = m })) give (sensed_leaves P w.sensors t (record w { left = m }) e) (λ x w e. leaves_here P _ w e))
    perform_leaves at t (address p) q w e = leaves_step P w _ e (λ m. leaves_then P (locate s held p (record w { left = m })) _ (locate_leaves p q.1 (record w { left = m }) e) (λ target w e. leaves_here P _ w e))
    perform_leaves at t (decay p) q w e = leaves_step P w _ e (λ m. leaves_then P (locate s held p (record w { left = m })) _ (locate_leaves p q.1 (record w { left = m }) e) (λ target w e.
        leaves_or P _ at.span w _ e (λ r. leaves_here P _ w e)))
    perform_leaves at t (convert v) q w e = leaves_then P (evaluate s held v w) _ (evaluate_leaves v q.1 w e) (λ x w e. leaves_here P _ w e)
    perform_leaves at t (cast v) q w e = leaves_step P w _ e (λ m. leaves_if P (is_void t) _ _
        (leaves_then P (discard s held v (record w { left = m })) _ (discard_leaves v q.1 (record w { left = m }) e) (λ x w e. leaves_here P _ w e))
        (leaves_then P (evaluate s held v (record w { left = m })) _ (evaluate_leaves v q.1 (record w { left = m }) e) (λ x w e. leaves_here P _ w e)))
    perform_leaves at t (unary op v) q w e = leaves_step P w _ e (λ m. leaves_then P (evaluate s held v (record w { left = m })) _ (evaluate_leaves v q.1 (record w { left = m }) e) (λ x w e.
        leaves_or P _ at.span w _ e (λ z. leaves_here P _ w e)))
    perform_leaves at t (binary op a b) q w e =
        leaves_step P w _ e (λ m. leaves_then P (evaluate s held a (record w { left = m })) _ (evaluate_leaves a (each_left N (nodes_of_value a) (nodes_of_value b) q.1) (record w { left = m }) e) (λ x w e.
        leaves_then P (evaluate s held b w) _ (evaluate_leaves b (each_right N (nodes_of_value a) (nodes_of_value b) q.1) w e) (λ y w e. leaves_or P _ at.span w _ e (λ z. leaves_here P _ w e))))
    perform_leaves at t (logic op a b) q w e =
        leaves_step P w _ e (λ m. leaves_then P (evaluate s held a (record w { left = m })) _ (evaluate_leaves a (each_left N (nodes_of_value a) (nodes_of_value b) q.1) (record w { left = m }) e) (λ x w e.
        leaves_if P (is_decided op (is_true x)) _ _ (leaves_here P _ w e)
        (leaves_then P (evaluate s held b w) _ (evaluate_leaves b (each_right N (nodes_of_value a) (nodes_of_value b) q.1) w e) (λ y w e. leaves_here P _ w e))))
    perform_leaves at t (conditional c a b) q w e =
        let both : Each N (nodes_of_value a ++ nodes_of_value b) = each_right N (nodes_of_value c) (nodes_of_value a ++ nodes_of_value b) q.1 in
        leaves_step P w _ e (λ m. leaves_then P (evaluate s held c (record w { left = m })) _ (evaluate_leaves c (each_left N (nodes_of_value c) (nodes_of_value a ++ nodes_of_value b) q.1) (record w { left = m }) e) (λ x w e.
        leaves_then P (if is_true x then evaluate s held a w else evaluate s held b w) give
        (leaves_if P (is_true x) _ _ (evaluate_leaves a (each_left N (nodes_of_value a) (nodes_of_value b) both) w e) (evaluate_leaves b (each_right N (nodes_of_value a) (nodes_of_value b) both) w e)) (λ y w e. leaves_here P _ w e)))
    perform_leaves at t (call name f arguments) q w e =
        leaves_step P w _ e (λ m. leaves_then P (evaluate_all s held arguments (record w { left = m })) _ (all_leave arguments q.1 (record w { left = m }) e) (λ xs w e. keeps.calls at t name f arguments q.0 xs w e))
    perform_leaves at t (built_in name f arguments) q w e =
        leaves_step P w _ e (λ m. leaves_then P (evaluate_all s held arguments (record w { left = m })) _ (all_leave arguments q.1 (record w { left = m }) e) (λ xs w e.
        library_leaves P s.program f at.span t xs w e (λ i. keeps.memory at t name f arguments q.0 i w.marked w.after_mark e)))

    all_leave : (vs : PlainValues) → Each N (nodes_of_values vs) → (w : State) → Stands w → Leaves P (evaluate_all s held vs w)
    all_leave no_values q w e = leaves_here P _ w e
    all_leave (more_values v vs) q w e = leaves_then P (evaluate s held v w) _ (evaluate_leaves v (each_left N (nodes_of_value v) (nodes_of_values vs) q) w e) (λ x w e.
        leaves_then P (evaluate_all s held vs w) _ (all_leave vs (each_right N (nodes_of_value v) (nodes_of_values vs) q) w e) (λ xs w e. leaves_here P _ w e))

    pub locate_leaves : (p : PlainPlace) → Each N (nodes_of_place p) → (w : State) → Stands w → Leaves P (locate s held p w)
    locate_leaves (place at t form) q w e = find_leaves at t form q.1 w e

    find_leaves : (at : At) (t : PlainType) (form : PlainPlaceForm) → Each N (nodes_in_place_form form) → (w : State) → Stands w → Leaves P (find_place s held at t form w)
    find_leaves at t (variable k) q w e = leaves_or P _ at.span w _ e (λ target. leaves_here P _ w e)
    find_leaves at t (global k) q w e = leaves_or P _ at.span w _ e (λ target. leaves_here P _ w e)
    find_leaves at t (literal k bytes) q w e = leaves_or P _ at.span w _ e (λ target. leaves_here P _ w e)
    find_leaves at t (index a i) q w e =
        leaves_step P w _ e (λ m. leaves_then P (evaluate s held a (record w { left = m })) _ (evaluate_leaves a (each_left N (nodes_of_value a) (nodes_of_value i) q) (record w { left = m }) e) (λ x w e.
        leaves_then P (evaluate s held i w) _ (evaluate_leaves i (each_right N (nodes_of_value a) (nodes_of_value i) q) w e) (λ y w e. leaves_or P _ at.span w _ e (λ r. leaves_here P _ w e))))
    find_leaves at t (member p k) q w e = leaves_step P w _ e (λ m. leaves_then P (locate s held p (record w { left = m })) _ (locate_leaves p q (record w { left = m }) e) (λ target w e.
        leaves_or P _ at.span w _ e (λ r. leaves_here P _ w e)))
    find_leaves at t (dereference v) q w e = leaves_step P w _ e (λ m. leaves_then P (evaluate s held v (record w { left = m })) _ (evaluate_leaves v q (record w { left = m }) e) (λ x w e.
        leaves_or P _ at.span w _ e (λ object. leaves_here P _ w e)))
