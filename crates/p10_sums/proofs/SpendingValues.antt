-- Values and places take at most what they cost, by induction on trees.
use Rattle.std.proofs.Common.{◌≡◌, ℕ, suc, ◌+◌, ◌*◌, ◌≤◌, max, cond, Bool, true, false, List, [], ◌∷◌, ◌++◌, refl, arith, length, ℤ}
use Rattle.std.specs.Prelude.{◌||◌, slice_get, ltb, leb, ◌&&◌}
use Rattle.p10_base.specs.declared.span.Span.{Span}
use Rattle.p10_base.specs.declared.at.At.{At}
use Rattle.p10_core.specs.declared.typed.Library.{Library}
use Rattle.p10_core.specs.declared.typed.Library.TheVariants.{Assert, CAssert, Getchar, Putchar, Malloc, Calloc, Free}
use Rattle.p10_core.specs.Types.{PlainType, bare}
use Rattle.p10_core.specs.Typed.{PlainValue, value, PlainForm, constant, read, sense, address, decay, convert, cast, unary, binary, logic, conditional, call, built_in, PlainPlace, place, place_at, place_type, variable, global, literal, index, member, dereference, PlainValues, no_values, more_values, PlainProgram}
use Rattle.p10_core.specs.Nodes.{nodes_of_value, nodes_of_place, nodes_of_values}
use Rattle.p10_cert.specs.Claims.{Func, Loop}
use Rattle.p10_meaning.specs.declared.pointers.Scalar.{Scalar}
use Rattle.p10_meaning.specs.declared.pointers.Cell.{Cell}
use Rattle.p10_meaning.specs.Pointers.{read_of}
use Rattle.p10_meaning.specs.Objects.{on_ok, cell_at, shift, inner, reach, release}
use Rattle.p10_meaning.specs.States.{State, counted}
use Rattle.p10_meaning.specs.Scalars.{number_of, pointer_of, is_true, operated, operated_unary, unset_cells, zero_cells}
use Rattle.p10_meaning.specs.Values.{Setting, Held, Target, Variable, Sensor, Element, width, size, variable_target, global_target, literal_number, literal_target, pointer_to, held_cell, sensed_from, sensed, read_target, first_argument, asserted, next_byte, elements, pointee, is_denied, granted, requested, library, is_void, is_structure, element_type, element_count, scalars_before, is_decided, evaluate, discard, perform, evaluate_all, locate}
use Rattle.p10_meaning.specs.Calling.{Depth}
use Rattle.p10_core.specs.Uses.{manages_memory}
use Rattle.p10_sums.specs.Counting.{Counting, steps_claimed, calls_claimed, bytes_claimed, alloc_claimed}
use Rattle.p10_sums.specs.Costs.{value_cost, form_cost, place_cost, values_cost}
use Rattle.p10_sums.specs.Depths.{have_effect}
use Rattle.p10_sums.specs.Keeping.{ValueKeeps, FormKeeps, PlaceKeeps, ValuesKeep}
use Rattle.p10_sums.specs.Laws.{Spends, Takes, counting_in, CallKeeps}
use Rattle.p10_sums.proofs.Telling.{calls_of, bytes_of}
use Rattle.p10_sums.proofs.Covering.{Covers, neither, bounds_left, bounds_right, covers_left, covers_right, takes_wider}
use Rattle.p10_sums.proofs.Spending.{Same, spends_same, takes_from, takes_more, takes_here, takes_changed, takes_step, takes_plain, takes_then, takes_last, takes_or, takes_if, takes_used}

pub same : (w : State) → Same w w
same w = record { left = refl; calls = refl; bytes = refl; counted = refl }

pub le_max_left : (a b : ℕ) → a ≤ max a b
le_max_left a b = omega arith

pub le_max_right : (a b : ℕ) → b ≤ max a b
le_max_right a b = omega arith

-- ## Reading, and functions of the library

module _ (C B : ℕ) (A : Bool) where
  sensed_takes : (zs : List ℤ) (t : PlainType) (w : State) → Takes 0 C B A w (sensed_from zs t w)
  sensed_takes [] t w = takes_here C B A 0 _ w w (same w)
  sensed_takes (z ∷ zs) t w = takes_here C B A 0 _ w (record w { sensors = zs }) (record { left = refl; calls = refl; bytes = refl; counted = refl })

  pub read_takes : (span : Span) (t : PlainType) (held : List Held) (target : Target) (w : State) → Takes 0 C B A w (read_target span t held target w)
  read_takes span t held (Variable n) w = takes_or C B A 0 (read_of (held_cell (slice_get held n))) span w _ (λ x. takes_here C B A 0 x w w (same w))
  read_takes span t held Sensor w = sensed_takes w.sensors t w
  read_takes span t held (Element q) w = takes_or C B A 0 (on_ok (cell_at w.objects q) read_of) span w _ (λ x. takes_here C B A 0 x w w (same w))

  byte_takes : (input : List ℕ) (w : State) → Takes 0 C B A w (next_byte input w)
  byte_takes [] w = takes_here C B A 0 _ w w (same w)
  byte_takes (byte ∷ input) w = takes_here C B A 0 _ w (record w { input = input }) (record { left = refl; calls = refl; bytes = refl; counted = refl })

  -- an allocation or `free` may be counted, where it may happen
  counts : (w : State) → (A ≡ false → true ≡ false) → Spends 0 C B A w (counted w)
  counts w may = record {
    no_more = at_most w.left;
    steps = nothing w.left;
    calls_at_most = least w.calls C;
    bytes_at_most = least w.bytes B;
    quiet = λ e. absurd (let d : true ≡ false = may e in cc);
  }
    where
      at_most : (a : ℕ) → a ≤ a
      at_most a = omega arith

      nothing : (a : ℕ) → a ≤ a + 0
      nothing a = omega arith

      least : (a c : ℕ) → a ≤ max a c
      least a c = omega arith

  granted_takes : (stride n : ℕ) (cells : List Cell) (w : State) → Takes 0 C B A w (granted stride n cells w)
  granted_takes stride n cells w = takes_if C B A 0 w (is_denied w.denied w.requests) _ _ (λ e. takes_here C B A 0 _ w w (same w)) (λ e. takes_here C B A 0 _ w _ (record { left = refl; calls = refl; bytes = refl; counted = refl }))

  requested_takes : (p : PlainProgram) (t : PlainType) (n : ℕ) (fill : List PlainType → List Cell) (w : State) → Takes 0 C B A w (requested p t n fill w)
  requested_takes p t n fill w = takes_if C B A 0 w (ltb 0 (n * size p t) && leb (n * size p t) 1048576) _ _
      (λ e. takes_changed C B A 0 w (record w { requests = suc w.requests }) _ (record { left = refl; calls = refl; bytes = refl; counted = refl }) (granted_takes _ n _ (record w { requests = suc w.requests })))
      (λ e. takes_here C B A 0 _ w w (same w))

  pub asserted_takes : (span : Span) (x : Scalar) (w : State) → Takes 0 C B A w (asserted span x w)
  asserted_takes span x w = takes_if C B A 0 w (is_true x) _ _ (λ e. takes_here C B A 0 _ w w (same w)) (λ e. record { taken = spends_same C B A 0 w w (same w) })

  pub library_takes : (p : PlainProgram) (l : Library) (span : Span) (t : PlainType) (xs : List Scalar) (w : State) → (A ≡ false → manages_memory l ≡ false) → Takes 0 C B A w (library p l span t xs w)
  library_takes p Assert span t xs w may = asserted_takes span (first_argument xs) w
  library_takes p CAssert span t xs w may = takes_here C B A 0 _ w w (same w)
  library_takes p Getchar span t xs w may = byte_takes w.input w
  library_takes p Putchar span t xs w may = takes_here C B A 0 _ w _ (record { left = refl; calls = refl; bytes = refl; counted = refl })
  library_takes p Malloc span t xs w may = takes_from C B A 0 0 w (counted w) _ (counts w may) (requested_takes p (pointee t) (elements xs) unset_cells (counted w))
  library_takes p Calloc span t xs w may = takes_from C B A 0 0 w (counted w) _ (counts w may) (requested_takes p (pointee t) (elements xs) zero_cells (counted w))
  library_takes p Free span t xs w may = takes_from C B A 0 0 w (counted w) _ (counts w may)
      (takes_or C B A 0 (release w.objects (pointer_of (first_argument xs))) span (counted w) _ (λ objects. takes_here C B A 0 _ (counted w) (record (counted w) { objects = objects }) (record { left = refl; calls = refl; bytes = refl; counted = refl })))

-- ## Values and places

module _ (s : Setting) (functions : List Func) (loops : List Loop) (depth : Depth) (held : List Held) (C B : ℕ) (A : Bool) where
  abbrev c : Counting
  c = counting_in s functions loops

  abbrev K : ℕ → List Scalar → State → Type 0
  K = CallKeeps s functions depth

  mutual
    pub value_takes : (v : PlainValue) (w : State) → Covers functions depth C B A (nodes_of_value v) → ValueKeeps s K held v w → Takes (value_cost c v) C B A w (evaluate s held v w)
    value_takes (value at t form) w b k = takes_used C B A (form_cost c form) w (perform s held at t form w) at.span (form_takes at t form w b k)

    pub discard_takes : (v : PlainValue) (w : State) → Covers functions depth C B A (nodes_of_value v) → ValueKeeps s K held v w → Takes (value_cost c v) C B A w (discard s held v w)
    discard_takes (value at t form) w b k = form_takes at t form w b k

    form_takes : (at : At) (t : PlainType) (form : PlainForm) (w : State) → Covers functions depth C B A (nodes_of_value (value at t form)) → FormKeeps s K held form w → Takes (form_cost c form) C B A w (perform s held at t form w)
    form_takes at t (constant z) w b k = takes_plain C B A 0 w _ (λ v l. takes_here C B A 0 _ v v (same v))
    form_takes at t (read p) w b k = takes_step C B A (place_cost c p) w _ _ k (λ v l h. takes_last C B A (place_cost c p) v (locate s held p v) _ (place_takes p v b h)
        (λ target u. takes_if C B A 0 u (is_structure t) _ _ (λ e. takes_here C B A 0 _ u u (same u))
        (λ e. takes_last C B A 0 u (read_target (place_at p).span t held target u) _ (read_takes C B A (place_at p).span t held target u) (λ x u. takes_here C B A 0 _ u u (same u)))))
    form_takes at t (sense n) w b k = takes_plain C B A 0 w _ (λ v l. takes_last C B A 0 v (sensed t v) _ (sensed_takes C B A v.sensors t v) (λ x u. takes_here C B A 0 _ u u (same u)))
    form_takes at t (address p) w b k = takes_step C B A (place_cost c p) w _ _ k (λ v l h. takes_last C B A (place_cost c p) v (locate s held p v) _ (place_takes p v b h) (λ target u. takes_here C B A 0 _ u u (same u)))
    form_takes at t (decay p) w b k = takes_step C B A (place_cost c p) w _ _ k (λ v l h. takes_last C B A (place_cost c p) v (locate s held p v) _ (place_takes p v b h)
        (λ target u. takes_or C B A 0 (inner u.objects (pointer_to target) 0 (width s.program (element_type (place_type p))) (element_count (place_type p))) at.span u _ (λ q. takes_here C B A 0 _ u u (same u))))
    form_takes at t (convert v) w b k = takes_last C B A (value_cost c v) w (evaluate s held v w) _ (value_takes v w b k) (λ x u. takes_here C B A 0 _ u u (same u))
    form_takes at t (cast x) w b k = takes_step C B A (value_cost c x) w _ _ k (λ v l h. takes_if C B A (value_cost c x) v (is_void t) _ _
        (λ e. takes_last C B A (value_cost c x) v (discard s held x v) _ (discard_takes x v b h) (λ x u. takes_here C B A 0 _ u u (same u)))
        (λ e. takes_last C B A (value_cost c x) v (evaluate s held x v) _ (value_takes x v b h) (λ x u. takes_here C B A 0 _ u u (same u))))
    form_takes at t (unary op x) w b k = takes_step C B A (value_cost c x) w _ _ k (λ v l h. takes_last C B A (value_cost c x) v (evaluate s held x v) _ (value_takes x v b h)
        (λ y u. takes_or C B A 0 (operated_unary op t y) at.span u _ (λ z. takes_here C B A 0 _ u u (same u))))
    form_takes at t (binary op x y) w b k = takes_step C B A (value_cost c x + value_cost c y) w _ _ k (λ v l h.
        takes_then C B A (value_cost c x) (value_cost c y) v (evaluate s held x v) _ _ (value_takes x v (covers_left functions depth C B A (nodes_of_value x) (nodes_of_value y) b) h.0) h.1 (λ i u l h.
        takes_last C B A (value_cost c y) u (evaluate s held y u) _ (value_takes y u (covers_right functions depth C B A (nodes_of_value x) (nodes_of_value y) b) h)
        (λ j u. takes_or C B A 0 (operated op t u.objects i j) at.span u _ (λ z. takes_here C B A 0 _ u u (same u)))))
    form_takes at t (logic op x y) w b k = takes_step C B A (value_cost c x + value_cost c y) w _ _ k (λ v l h.
        takes_then C B A (value_cost c x) (value_cost c y) v (evaluate s held x v) _ _ (value_takes x v (covers_left functions depth C B A (nodes_of_value x) (nodes_of_value y) b) h.0) h.1 (λ i u l h.
        takes_if C B A (value_cost c y) u (is_decided op (is_true i)) _ _ (λ e. takes_here C B A (value_cost c y) _ u u (same u))
        (λ e. takes_last C B A (value_cost c y) u (evaluate s held y u) _ (value_takes y u (covers_right functions depth C B A (nodes_of_value x) (nodes_of_value y) b) (h e)) (λ j u. takes_here C B A 0 _ u u (same u)))))
    form_takes at t (conditional x y z) w b k = takes_step C B A (value_cost c x + max (value_cost c y) (value_cost c z)) w _ _ k (λ v l h.
        takes_then C B A (value_cost c x) (max (value_cost c y) (value_cost c z)) v (evaluate s held x v) _ _ (value_takes x v (covers_left functions depth C B A (nodes_of_value x) (nodes_of_value y ++ nodes_of_value z) b) h.0) h.1 (λ i u l h.
        takes_last C B A (max (value_cost c y) (value_cost c z)) u (cond (is_true i) (evaluate s held y u) (evaluate s held z u)) _
        (takes_if C B A (max (value_cost c y) (value_cost c z)) u (is_true i) _ _
        (λ e. takes_more C B A (value_cost c y) (max (value_cost c y) (value_cost c z)) u _ (le_max_left (value_cost c y) (value_cost c z))
        (value_takes y u (covers_left functions depth C B A (nodes_of_value y) (nodes_of_value z) (covers_right functions depth C B A (nodes_of_value x) (nodes_of_value y ++ nodes_of_value z) b)) (h.0 e)))
        (λ e. takes_more C B A (value_cost c z) (max (value_cost c y) (value_cost c z)) u _ (le_max_right (value_cost c y) (value_cost c z))
        (value_takes z u (covers_right functions depth C B A (nodes_of_value y) (nodes_of_value z) (covers_right functions depth C B A (nodes_of_value x) (nodes_of_value y ++ nodes_of_value z) b)) (h.1 e))))
        (λ j u. takes_here C B A 0 _ u u (same u))))
    form_takes at t (call name g arguments) w b k = takes_step C B A (values_cost c arguments + steps_claimed (slice_get functions g)) w _ _ k (λ v l h.
        takes_then C B A (values_cost c arguments) (steps_claimed (slice_get functions g)) v (evaluate_all s held arguments v) _ _
        (values_take arguments v (bounds_right depth.calls depth.bytes (calls_claimed (slice_get functions g)) (calls_of functions (nodes_of_values arguments)) (bytes_claimed (slice_get functions g)) (bytes_of functions (nodes_of_values arguments))
        (alloc_claimed (slice_get functions g)) (have_effect functions (nodes_of_values arguments)) C B A b) h.0) h.1 (λ xs u l h.
        takes_wider (steps_claimed (slice_get functions g)) (depth.calls + calls_claimed (slice_get functions g)) (depth.bytes + bytes_claimed (slice_get functions g)) (alloc_claimed (slice_get functions g)) C B A u (s.call g xs u)
        (bounds_left depth.calls depth.bytes (calls_claimed (slice_get functions g)) (calls_of functions (nodes_of_values arguments)) (bytes_claimed (slice_get functions g)) (bytes_of functions (nodes_of_values arguments))
        (alloc_claimed (slice_get functions g)) (have_effect functions (nodes_of_values arguments)) C B A b) h))
    form_takes at t (built_in name l arguments) w b k = takes_step C B A (values_cost c arguments) w _ _ k (λ v i h.
        takes_last C B A (values_cost c arguments) v (evaluate_all s held arguments v) _
        (values_take arguments v (record { calls_in = b.calls_in; bytes_in = b.bytes_in; effect_in = λ q. (neither (manages_memory l || false) (have_effect functions (nodes_of_values arguments)) (b.effect_in q)).1 }) h)
        (λ xs u. library_takes C B A s.program l at.span t xs u (λ q. (neither (manages_memory l) false (neither (manages_memory l || false) (have_effect functions (nodes_of_values arguments)) (b.effect_in q)).0).0)))

    pub values_take : (vs : PlainValues) (w : State) → Covers functions depth C B A (nodes_of_values vs) → ValuesKeep s K held vs w → Takes (values_cost c vs) C B A w (evaluate_all s held vs w)
    values_take no_values w b k = takes_here C B A 0 [] w w (same w)
    values_take (more_values x vs) w b k = takes_then C B A (value_cost c x) (values_cost c vs) w (evaluate s held x w) _ _ (value_takes x w (covers_left functions depth C B A (nodes_of_value x) (nodes_of_values vs) b) k.0) k.1 (λ i u l h.
        takes_last C B A (values_cost c vs) u (evaluate_all s held vs u) _ (values_take vs u (covers_right functions depth C B A (nodes_of_value x) (nodes_of_values vs) b) h) (λ xs u. takes_here C B A 0 _ u u (same u)))

    pub place_takes : (p : PlainPlace) (w : State) → Covers functions depth C B A (nodes_of_place p) → PlaceKeeps s K held p w → Takes (place_cost c p) C B A w (locate s held p w)
    place_takes (place at t (variable n)) w b k = takes_or C B A 0 (variable_target n (width s.program t) (slice_get held n)) at.span w _ (λ target. takes_here C B A 0 target w w (same w))
    place_takes (place at t (global n)) w b k = takes_or C B A 0 (global_target n (width s.program t) (slice_get s.program.objects n)) at.span w _ (λ target. takes_here C B A 0 target w w (same w))
    place_takes (place at t (literal n bytes)) w b k =
        takes_or C B A 0 (literal_target (width s.program t) (literal_number n (length s.program.objects) s.program.literals)) at.span w _ (λ target. takes_here C B A 0 target w w (same w))
    place_takes (place at t (index x y)) w b k = takes_step C B A (value_cost c x + value_cost c y) w _ _ k (λ v l h.
        takes_then C B A (value_cost c x) (value_cost c y) v (evaluate s held x v) _ _ (value_takes x v (covers_left functions depth C B A (nodes_of_value x) (nodes_of_value y) b) h.0) h.1 (λ i u l h.
        takes_last C B A (value_cost c y) u (evaluate s held y u) _ (value_takes y u (covers_right functions depth C B A (nodes_of_value x) (nodes_of_value y) b) h)
        (λ j u. takes_or C B A 0 (shift u.objects (pointer_of i) (number_of j)) at.span u _ (λ q. takes_here C B A 0 _ u u (same u)))))
    place_takes (place at t (member p m)) w b k = takes_step C B A (place_cost c p) w _ _ k (λ v l h. takes_last C B A (place_cost c p) v (locate s held p v) _ (place_takes p v b h)
        (λ target u. takes_or C B A 0 (inner u.objects (pointer_to target) (scalars_before s.program (bare s.program.structures (place_type p)) m) (width s.program t) 1) at.span u _ (λ q. takes_here C B A 0 _ u u (same u))))
    place_takes (place at t (dereference x)) w b k = takes_step C B A (value_cost c x) w _ _ k (λ v l h. takes_last C B A (value_cost c x) v (evaluate s held x v) _ (value_takes x v b h)
        (λ i u. takes_or C B A 0 (reach u.objects (pointer_of i)) at.span u _ (λ object. takes_here C B A 0 _ u u (same u))))
