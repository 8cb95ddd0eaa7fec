-- Evaluation keeps sound states, and gives values that fit their types.
use Rattle.std.proofs.Common.{◌≡◌, ℕ, Bool, true, false, List, [], ◌∷◌, length, refl, sym, ◌∙◌, ap, subst, Option, Some, None, slice_get}
use Rattle.std.specs.Prelude.{if◌then◌else◌}
use Rattle.std.specs.Bool.{nat_eq}
use Rattle.std.specs.Option.{option_map}
use Rattle.std.proofs.lemmas.Option.{same_Some, none-some}
use Rattle.p10_base.specs.declared.span.Span.{Span}
use Rattle.p10_base.specs.declared.at.At.{At}
use Rattle.p10_core.specs.declared.typed.Library.{Library}
use Rattle.p10_core.specs.declared.typed.Library.TheVariants.{Assert, CAssert, Getchar, Putchar, Malloc, Calloc, Free}
use Rattle.p10_core.specs.Types.{PlainType, void, integer, pointer, array, structure, bare, PlainMember, representative_of, unqualified}
use Rattle.p10_core.specs.Rows.{is_scalar, is_array, is_complete, int_type, Row, row_where, conditional_row, same}
use Rattle.p10_core.specs.Typed.{PlainValue, value, type_of, PlainForm, constant, read, sense, address, decay, convert, cast, unary, binary, logic, conditional, call, built_in, PlainPlace, place, place_at, place_type, PlainPlaceForm, variable, global, literal, index, member, dereference, PlainValues, no_values, more_values, PlainVariable, PlainFunction, PlainProgram}
use Rattle.p10_core.specs.Whole.{SeenVariable, SeenFunction, Surroundings, Reads, Decays, Converts, integers, pointers, nulls, Casts, to_void, integers as cast_integers, nulls as cast_nulls, allocations, ArgumentsFit, CallsLibrary, IsWholeValue, IsWholeForm, IsWholePlace, IsWholePlaceForm, AreWholeValues}
use Rattle.p10_core.specs.WholePrograms.{seen_function, parameter_types, surroundings_of, bare_member, IsWholeProgram}
use Rattle.p10_meaning.specs.declared.pointers.Scalar.{Scalar}
use Rattle.p10_meaning.specs.declared.pointers.Scalar.TheVariants.{Int, Pointer}
use Rattle.p10_meaning.specs.Objects.{reach, shift, inner}
use Rattle.p10_meaning.specs.States.{State, Progress, gives, ends, and_then, counted}
use Rattle.p10_meaning.specs.Scalars.{number_of, pointer_of, is_true, truth_value, converted_to, operated, operated_unary, unset_cells, zero_cells}
use Rattle.p10_meaning.specs.Values.{Calls, Setting, Held, width, Target, Variable, Sensor, Element, literal_number, literal_target, pointer_to, read_target, sensed, first_argument, elements, library, used, give, is_void, is_structure, element_type, element_count, is_decided, evaluate, discard, perform, evaluate_all, locate, find_place}
use Rattle.p10_meaning.specs.Sound.{Kind, FitsPointer, Fits, MaybeFits, Sound, FrameFits, Grows, Keeps, ScalarsFit, KeepSound, AreSeen}
use Rattle.p10_meaning.proofs.Geometry.{IsLaidOut}
use Rattle.p10_meaning.proofs.LaidOut.{HasMapped, member_like}
use Rattle.p10_meaning.proofs.Fitting.{fits_grown, pointer_grown, frame_grown, pointer_same, fits_same, maybe_same, bare_unqualified, bare_qualified}
use Rattle.p10_meaning.proofs.Moves.{OnOk, any_ok, shift_fits, inner_row_fits, inner_member_fits}
use Rattle.p10_meaning.proofs.SoundScalars.{truth_fits, binary_fits, unary_fits, same_bare, adds_const_bare, converted_fits, null_fits, same_pointer_fits, pointer_of_fits}
use Rattle.p10_meaning.proofs.Keeping.{kept, keeps_step, keeps_then, keeps_or, keeps_if}
use Rattle.p10_meaning.proofs.SoundParts.{TargetFits, integer_alike, variable_fits, global_fits, literal_fits, sensed_keeps, read_keeps, byte_keeps, put_keeps, unset_fill, zero_fill, requested_keeps, free_keeps}

-- ## Types

-- the structure that stands for one
structure_same : (p : PlainProgram) (t : PlainType) (c : Bool) (k : ℕ) → t ≡ structure c k → bare p.structures t ≡ structure false (representative_of p.structures k)
structure_same p t c k e = ap (bare p.structures) e

pub target_grown : (p : PlainProgram) (variables : List PlainVariable) (t : PlainType) (ks js : List Kind) (target : Target) → Grows ks js → TargetFits p variables t ks target → TargetFits p variables t js target
target_grown p variables t ks js (Variable n) g f = f
target_grown p variables t ks js Sensor g f = f
target_grown p variables t ks js (Element q) g f = pointer_grown p ks js t q g f

pub pointer_to_fits : (p : PlainProgram) (variables : List PlainVariable) (t : PlainType) (ks : List Kind) (target : Target) → TargetFits p variables t ks target → FitsPointer p ks t (pointer_to target)
pointer_to_fits p variables t ks (Variable n) f = tt
pointer_to_fits p variables t ks Sensor f = tt
pointer_to_fits p variables t ks (Element q) f = f

used_fits : (p : PlainProgram) (ks : List Kind) (t : PlainType) (x : Option Scalar) → MaybeFits p ks t x → OnOk (Fits p ks t) (used x)
used_fits p ks t None f = tt
used_fits p ks t (Some x) f = f

-- the values of arguments fit the arguments' types
abbrev pub ValuesFit : PlainProgram → List Kind → PlainValues → List Scalar → Type 0
ValuesFit p ks no_values [] = Unit {0}
ValuesFit p ks (more_values v vs) (x ∷ xs) = Fits p ks (type_of v) x × ValuesFit p ks vs xs
ValuesFit p ks no_values (x ∷ xs) = ⊥
ValuesFit p ks (more_values v vs) [] = ⊥

arguments_fit : (p : PlainProgram) (c : Surroundings) (ks : List Kind) (ts : List PlainType) (vs : PlainValues) (xs : List Scalar) → c.structures ≡ p.structures → ArgumentsFit c ts vs → ValuesFit p ks vs xs → ScalarsFit p ks ts xs
arguments_fit p c ks [] no_values [] e a f = tt
arguments_fit p c ks (t ∷ ts) (more_values v vs) (x ∷ xs) e a f =
    (fits_same p ks (type_of v) t x (subst (λ ss. bare ss (type_of v) ≡ bare ss t) e a.0) f.0, arguments_fit p c ks ts vs xs e a.1 f.1)
arguments_fit p c ks [] no_values (x ∷ xs) e a f = absurd f
arguments_fit p c ks (t ∷ ts) (more_values v vs) [] e a f = absurd f
arguments_fit p c ks [] (more_values v vs) xs e a f = absurd a
arguments_fit p c ks (t ∷ ts) no_values xs e a f = absurd a

-- both operands of `?:` have the result's type
conditional_types : (p : PlainProgram) (m n : Bool) (s t : PlainType) (r : Row) → conditional_row m n s t ≡ Some r → (bare p.structures r.left ≡ bare p.structures r.result) × (bare p.structures r.right ≡ bare p.structures r.result)
conditional_types p m n (integer c a) (integer d b) r e = subst (λ (r : Row). (bare p.structures r.left ≡ bare p.structures r.result) × (bare p.structures r.right ≡ bare p.structures r.result)) (same_Some _ _ e) (refl, refl)
conditional_types p m n (pointer c s) (pointer d t) r e = row_types (same s t) (pointer false s) (pointer false s) (pointer false t) r e (λ b. (refl, ap (λ t. pointer false t) (sym (same_bare p.structures s t b))))
  where
    row_types : (b : Bool) (x y z : PlainType) (r : Row) → row_where b x y z ≡ Some r → (b ≡ true → (bare p.structures y ≡ bare p.structures x) × (bare p.structures z ≡ bare p.structures x)) →
        (bare p.structures r.left ≡ bare p.structures r.result) × (bare p.structures r.right ≡ bare p.structures r.result)
    row_types true x y z r e h = subst (λ (r : Row). (bare p.structures r.left ≡ bare p.structures r.result) × (bare p.structures r.right ≡ bare p.structures r.result)) (same_Some _ _ e) (h refl)
    row_types false x y z r e h = absurd (none-some _ e)
conditional_types p m n (pointer c s) (integer d b) r e = row_types n r e
  where
    row_types : (b : Bool) (r : Row) → row_where b (pointer false s) (pointer false s) (pointer false s) ≡ Some r → (bare p.structures r.left ≡ bare p.structures r.result) × (bare p.structures r.right ≡ bare p.structures r.result)
    row_types true r e = subst (λ (r : Row). (bare p.structures r.left ≡ bare p.structures r.result) × (bare p.structures r.right ≡ bare p.structures r.result)) (same_Some _ _ e) (refl, refl)
    row_types false r e = absurd (none-some _ e)
conditional_types p m n (integer c a) (pointer d t) r e = row_types m r e
  where
    row_types : (b : Bool) (r : Row) → row_where b (pointer false t) (pointer false t) (pointer false t) ≡ Some r → (bare p.structures r.left ≡ bare p.structures r.result) × (bare p.structures r.right ≡ bare p.structures r.result)
    row_types true r e = subst (λ (r : Row). (bare p.structures r.left ≡ bare p.structures r.result) × (bare p.structures r.right ≡ bare p.structures r.result)) (same_Some _ _ e) (refl, refl)
    row_types false r e = absurd (none-some _ e)
conditional_types p m n (integer c a) (void d) r e = absurd (none-some _ e)
conditional_types p m n (integer c a) (array d t k) r e = absurd (none-some _ e)
conditional_types p m n (integer c a) (structure d k) r e = absurd (none-some _ e)
conditional_types p m n (pointer c s) (void d) r e = absurd (none-some _ e)
conditional_types p m n (pointer c s) (array d t k) r e = absurd (none-some _ e)
conditional_types p m n (pointer c s) (structure d k) r e = absurd (none-some _ e)
conditional_types p m n (void c) t r e = absurd (none-some _ e)
conditional_types p m n (array c s k) t r e = absurd (none-some _ e)
conditional_types p m n (structure c k) t r e = absurd (none-some _ e)

-- the function that is called
pub record IsCallee (p : PlainProgram) (n : ℕ) (seen : SeenFunction) : Type 0 where
  pub callee : PlainFunction
  pub there : slice_get p.functions n ≡ Some callee
  pub is : seen_function callee ≡ seen

callee_of : (p : PlainProgram) (n : ℕ) (seen : SeenFunction) → (if nat_eq n p.main then None else option_map seen_function (slice_get p.functions n)) ≡ Some seen → IsCallee p n seen
callee_of p n seen e = case (nat_eq n p.main) (slice_get p.functions n) refl e
  where
    case : (b : Bool) (o : Option PlainFunction) → slice_get p.functions n ≡ o → (if b then None else option_map seen_function o) ≡ Some seen → IsCallee p n seen
    case true o h e = absurd (none-some _ e)
    case false None h e = absurd (none-some _ e)
    case false (Some g) h e = record { callee = g; there = h; is = same_Some _ _ e }

-- a scalar that is read from a place: no array, and it has a size
read_scalar : (p : PlainProgram) (u t : PlainType) → t ≡ unqualified u → is_array u ≡ false → is_complete p.structures u ≡ true → is_structure t ≡ false → is_scalar t ≡ true
read_scalar p (integer c i) t e a b h = subst (λ t. is_scalar t ≡ true) (sym e) refl
read_scalar p (pointer c u) t e a b h = subst (λ t. is_scalar t ≡ true) (sym e) refl
read_scalar p (void c) t e a b h = absurd cc
read_scalar p (array c u n) t e a b h = absurd cc
read_scalar p (structure c n) t e a b h = absurd (let g : is_structure (structure false n) ≡ false = subst (λ t. is_structure t ≡ false) e h in cc)

-- a place of a type, as one of a type that is the same, marks aside
target_alike : (p : PlainProgram) (variables : List PlainVariable) (u t : PlainType) (ks : List Kind) (target : Target) → bare p.structures u ≡ bare p.structures t → TargetFits p variables u ks target → TargetFits p variables t ks target
target_alike p variables u t ks (Variable n) e f = record { variable = f.variable; there = f.there; same = f.same ∙ e }
target_alike p variables u t ks Sensor e f = integer_alike p t u (sym e) f
target_alike p variables u t ks (Element q) e f = pointer_same p ks u t q e f

-- ## Values and places

module _ (p : PlainProgram) (out : IsLaidOut p) (whole : IsWholeProgram p) (calls : Calls) (meaning : KeepSound p calls) (n : ℕ) (variables : List PlainVariable) (seen_at : ℕ → Option SeenVariable) (seen : AreSeen variables seen_at) (held : List Held) where
  abbrev s : Setting
  s = record { program = p; variables = variables; call = calls; turns = n }

  abbrev c : Surroundings
  c = record (surroundings_of p) { variable_at = seen_at }

  abbrev FrameAt : List Kind → Type 0
  FrameAt ks = FrameFits p ks variables held

  later : (ks js : List Kind) → Grows ks js → FrameAt ks → FrameAt js
  later ks js g f = frame_grown p ks js variables held g f

  -- what is known of an evaluation
  abbrev Evaluates : PlainValue → Type 0
  Evaluates v = (w : State) (ks : List Kind) → Sound p ks w → FrameAt ks → Keeps p ks (λ ks. Fits p ks (type_of v)) (evaluate s held v w)

  two_keep : {A : Type 0} (a b : PlainValue) → Evaluates a → Evaluates b → (w : State) (ks : List Kind) → Sound p ks w → FrameAt ks → (Q : List Kind → A → Type 0) (go : Scalar → Scalar → State → Progress A) →
      ((x y : Scalar) (v : State) (js : List Kind) → Sound p js v → Fits p js (type_of a) x → Fits p js (type_of b) y → Keeps p js Q (go x y v)) →
      Keeps p ks Q (and_then (evaluate s held a w) (λ x w. and_then (evaluate s held b w) (λ y w. go x y w)))
  two_keep a b ka kb w ks so f Q go h =
      keeps_then p ks (λ ks. Fits p ks (type_of a)) Q (evaluate s held a w) _ (ka w ks so f) (λ x w js so g fx.
      keeps_then p js (λ ks. Fits p ks (type_of b)) Q (evaluate s held b w) _ (kb w js so (later ks js g f)) (λ y w is so k fy.
      h x y w is so (fits_grown p js is (type_of a) x k fx) fy))

  -- a value that is given
  give_keeps : (t : PlainType) (x : Scalar) (w : State) (ks : List Kind) → Sound p ks w → Fits p ks t x → Keeps p ks (λ ks. MaybeFits p ks t) (give x w)
  give_keeps t x w ks so f = kept p ks (λ ks. MaybeFits p ks t) (Some x) w so f

  none_keeps : (t : PlainType) (w : State) (ks : List Kind) → Sound p ks w → Keeps p ks (λ ks. MaybeFits p ks t) (gives None w)
  none_keeps t w ks so = kept p ks (λ ks. MaybeFits p ks t) None w so tt

  converted_keeps : (t : PlainType) (v : PlainValue) (x : Scalar) (ks : List Kind) → Converts t v → Fits p ks (type_of v) x → Fits p ks t (converted_to t x)
  converted_keeps t v x ks (integers i j y e) f = converted_fits p ks i x
  converted_keeps t v x ks (pointers a b y e q) f = same_pointer_fits p ks a b x (adds_const_bare p.structures a b q) (subst (λ u. Fits p ks u x) e f)
  converted_keeps t v x ks (nulls j b y e q) f = null_fits p ks j b x (subst (λ u. Fits p ks u x) e f)

  cast_keeps : (t : PlainType) (v : PlainValue) (x : Scalar) (ks : List Kind) → Casts t v → is_void t ≡ false → Fits p ks (type_of v) x → Fits p ks t (converted_to t x)
  cast_keeps t v x ks (to_void y) b f = absurd cc
  cast_keeps t v x ks (cast_integers i j y e) b f = converted_fits p ks i x
  cast_keeps t v x ks (cast_nulls j u y e q) b f = null_fits p ks j u x (subst (λ u. Fits p ks u x) e f)
  cast_keeps t v x ks (allocations u y e q) b f = same_pointer_fits p ks u u x refl (subst (λ u. Fits p ks u x) e f)

  library_keeps : (t : PlainType) (f : Library) (span : Span) (vs : PlainValues) (xs : List Scalar) (w : State) (ks : List Kind) → CallsLibrary c t f vs → ValuesFit p ks vs xs → Sound p ks w → Keeps p ks (λ ks. MaybeFits p ks t) (library p f span t xs w)
  library_keeps t Getchar span no_values xs w ks i fits so = subst (λ t. Keeps p ks (λ ks. MaybeFits p ks t) (library p Getchar span t xs w)) (sym i) (byte_keeps p ks w so)
  library_keeps t Putchar span (more_values v no_values) xs w ks i fits so = subst (λ t. Keeps p ks (λ ks. MaybeFits p ks t) (library p Putchar span t xs w)) (sym i.0) (put_keeps p ks (number_of (first_argument xs)) w so)
  library_keeps t CAssert span (more_values v no_values) xs w ks i fits so = subst (λ t. Keeps p ks (λ ks. MaybeFits p ks t) (library p CAssert span t xs w)) (sym i.0) (kept p ks (λ ks. MaybeFits p ks int_type) (Some (truth_value (is_true (first_argument xs)))) w so (truth_fits p ks (is_true (first_argument xs))))
  library_keeps t Free span (more_values v no_values) xs w ks i fits so = free_keeps p ks t span (pointer_of (first_argument xs)) (counted w) so
  library_keeps t Malloc span vs xs w ks i fits so = subst (λ t. Keeps p ks (λ ks. MaybeFits p ks t) (library p Malloc span t xs w)) (sym i.type_is) (requested_keeps p whole.structures ks i.element (elements xs) unset_cells (counted w) (unset_fill p) so)
  library_keeps t Calloc span vs xs w ks i fits so = subst (λ t. Keeps p ks (λ ks. MaybeFits p ks t) (library p Calloc span t xs w)) (sym i.type_is) (requested_keeps p whole.structures ks i.element (elements xs) zero_cells (counted w) (zero_fill p) so)
  library_keeps t Assert span no_values xs w ks i fits so = absurd i
  library_keeps t Assert span (more_values v vs) xs w ks i fits so = absurd i
  library_keeps t Getchar span (more_values v vs) xs w ks i fits so = absurd i
  library_keeps t Putchar span no_values xs w ks i fits so = absurd i
  library_keeps t Putchar span (more_values v (more_values u vs)) xs w ks i fits so = absurd i
  library_keeps t CAssert span no_values xs w ks i fits so = absurd i
  library_keeps t CAssert span (more_values v (more_values u vs)) xs w ks i fits so = absurd i
  library_keeps t Free span no_values xs w ks i fits so = absurd i
  library_keeps t Free span (more_values v (more_values u vs)) xs w ks i fits so = absurd i

  -- what a read of a place gives
  read_form_keeps : (t : PlainType) (q : PlainPlace) (target : Target) (w : State) (ks : List Kind) → Reads c t q → TargetFits p variables (place_type q) ks target → Sound p ks w → FrameAt ks →
      Keeps p ks (λ ks. MaybeFits p ks t) (if is_structure t then gives None w else and_then (read_target (place_at q).span t held target w) give)
  read_form_keeps t q target w ks i fits so f = keeps_if p ks (λ ks. MaybeFits p ks t) (is_structure t) (gives None w) _ (λ e. none_keeps t w ks so) (λ e.
      keeps_then p ks (λ ks. Fits p ks t) (λ ks. MaybeFits p ks t) (read_target (place_at q).span t held target w) give
      (read_keeps p out ks variables held (place_at q).span t target w (scalar_of_place e) f (like target fits) so)
      (λ x w js so g fx. give_keeps t x w js so fx))
    where
      same : bare p.structures (place_type q) ≡ bare p.structures t
      same = sym (ap (bare p.structures) i.type_is ∙ bare_unqualified p.structures (place_type q))

      scalar_of_place : is_structure t ≡ false → is_scalar t ≡ true
      scalar_of_place e = read_scalar p (place_type q) t i.type_is i.no_array i.complete e

      like : (target : Target) → TargetFits p variables (place_type q) ks target → TargetFits p variables t ks target
      like target fits = target_alike p variables (place_type q) t ks target same fits

  mutual
    pub evaluate_keeps : (v : PlainValue) → IsWholeValue c v → Evaluates v
    evaluate_keeps (value at t form) i w ks so f =
        keeps_then p ks (λ ks. MaybeFits p ks t) (λ ks. Fits p ks t) (perform s held at t form w) _ (perform_keeps at t form i w ks so f) (λ x w js so g fx.
        keeps_or p js (Fits p js t) (λ ks. Fits p ks t) (used x) at.span w _ so (used_fits p js t x fx) (λ x fx. kept p js (λ ks. Fits p ks t) x w so fx))

    pub discard_keeps : (v : PlainValue) → IsWholeValue c v → (w : State) (ks : List Kind) → Sound p ks w → FrameAt ks → Keeps p ks (λ ks. MaybeFits p ks (type_of v)) (discard s held v w)
    discard_keeps (value at t form) i w ks so f = perform_keeps at t form i w ks so f

    perform_keeps : (at : At) (t : PlainType) (form : PlainForm) → IsWholeForm c t form → (w : State) (ks : List Kind) → Sound p ks w → FrameAt ks → Keeps p ks (λ ks. MaybeFits p ks t) (perform s held at t form w)
    perform_keeps at t (constant z) i w ks so f = keeps_step p ks (λ ks. MaybeFits p ks t) w _ so (λ m.
        give_keeps t (Int z) (record w { left = m }) ks so (subst (λ t. Fits p ks t (Int z)) (sym i.type_is) i.in_range))
    perform_keeps at t (read q) i w ks so f = keeps_step p ks (λ ks. MaybeFits p ks t) w _ so (λ m.
        keeps_then p ks (TargetFits p variables (place_type q)) (λ ks. MaybeFits p ks t) (locate s held q (record w { left = m })) _ (locate_keeps q i.0 (record w { left = m }) ks so f) (λ target w js so g fits.
        read_form_keeps t q target w js i.1 fits so (later ks js g f)))
    perform_keeps at t (sense k) i w ks so f = keeps_step p ks (λ ks. MaybeFits p ks t) w _ so (λ m.
        keeps_then p ks (λ ks. Fits p ks t) (λ ks. MaybeFits p ks t) (sensed t (record w { left = m })) give
        (sensed_keeps p ks t (record w { left = m }) (subst (λ t. Rattle.p10_core.specs.Rows.is_integer t ≡ true) (sym i.type_is) refl) so) (λ x w js so g fx. give_keeps t x w js so fx))
    perform_keeps at t (address q) i w ks so f = keeps_step p ks (λ ks. MaybeFits p ks t) w _ so (λ m.
        keeps_then p ks (TargetFits p variables (place_type q)) (λ ks. MaybeFits p ks t) (locate s held q (record w { left = m })) _ (locate_keeps q i.0 (record w { left = m }) ks so f) (λ target w js so g fits.
        give_keeps t (Pointer (pointer_to target)) w js so (subst (λ t. Fits p js t (Pointer (pointer_to target))) (sym i.1.type_is) (pointer_to_fits p variables (place_type q) js target fits))))
    perform_keeps at t (decay q) i w ks so f = keeps_step p ks (λ ks. MaybeFits p ks t) w _ so (λ m.
        keeps_then p ks (TargetFits p variables (place_type q)) (λ ks. MaybeFits p ks t) (locate s held q (record w { left = m })) _ (locate_keeps q i.0 (record w { left = m }) ks so f) (λ target w js so g fits.
        let d : Decays c t q = i.1 in
        let at_array : FitsPointer p js (array d.mark d.element d.count) (pointer_to target) = subst (λ t. FitsPointer p js t (pointer_to target)) d.place_is (pointer_to_fits p variables (place_type q) js target fits) in
        keeps_or p js (FitsPointer p js d.element) (λ ks. MaybeFits p ks t) _ at.span w _ so
        (subst (λ t. OnOk (FitsPointer p js d.element) (inner w.objects (pointer_to target) 0 (width p (element_type t)) (element_count t))) (sym d.place_is) (inner_row_fits p js w.objects d.mark d.element d.count (pointer_to target) at_array))
        (λ r fr. give_keeps t (Pointer r) w js so (subst (λ t. Fits p js t (Pointer r)) (sym d.type_is) fr))))
    perform_keeps at t (convert v) i w ks so f =
        keeps_then p ks (λ ks. Fits p ks (type_of v)) (λ ks. MaybeFits p ks t) (evaluate s held v w) _ (evaluate_keeps v i.0 w ks so f) (λ x w js so g fx. give_keeps t (converted_to t x) w js so (converted_keeps t v x js i.1 fx))
    perform_keeps at t (cast v) i w ks so f = keeps_step p ks (λ ks. MaybeFits p ks t) w _ so (λ m.
        keeps_if p ks (λ ks. MaybeFits p ks t) (is_void t) _ _
        (λ e. keeps_then p ks (λ ks. MaybeFits p ks (type_of v)) (λ ks. MaybeFits p ks t) (discard s held v (record w { left = m })) _ (discard_keeps v i.0 (record w { left = m }) ks so f) (λ x w js so g fx. none_keeps t w js so))
        (λ e. keeps_then p ks (λ ks. Fits p ks (type_of v)) (λ ks. MaybeFits p ks t) (evaluate s held v (record w { left = m })) _ (evaluate_keeps v i.0 (record w { left = m }) ks so f) (λ x w js so g fx.
        give_keeps t (converted_to t x) w js so (cast_keeps t v x js i.1 e fx))))
    perform_keeps at t (unary op v) i w ks so f = keeps_step p ks (λ ks. MaybeFits p ks t) w _ so (λ m.
        keeps_then p ks (λ ks. Fits p ks (type_of v)) (λ ks. MaybeFits p ks t) (evaluate s held v (record w { left = m })) _ (evaluate_keeps v i.0 (record w { left = m }) ks so f) (λ x w js so g fx.
        keeps_or p js (Fits p js t) (λ ks. MaybeFits p ks t) (operated_unary op t x) at.span w _ so
        (subst (λ t. OnOk (Fits p js t) (operated_unary op t x)) (sym i.1.result_is) (unary_fits p js op i.1.of_type i.1.entry i.1.is x (subst (λ t. Fits p js t x) i.1.operand_is fx)))
        (λ z fz. give_keeps t z w js so fz)))
    perform_keeps at t (binary op a b) i w ks so f = keeps_step p ks (λ ks. MaybeFits p ks t) w _ so (λ m.
        two_keep a b (evaluate_keeps a i.0) (evaluate_keeps b i.1) (record w { left = m }) ks so f (λ ks. MaybeFits p ks t) _ (λ x y w js so fx fy.
        keeps_or p js (Fits p js t) (λ ks. MaybeFits p ks t) (operated op t w.objects x y) at.span w _ so
        (subst (λ t. OnOk (Fits p js t) (operated op t w.objects x y)) (sym i.2.result_is)
        (binary_fits p js op i.2.left_null i.2.right_null i.2.left_type i.2.right_type i.2.entry i.2.is w.objects x y (subst (λ t. Fits p js t x) i.2.left_is fx) (subst (λ t. Fits p js t y) i.2.right_is fy)))
        (λ z fz. give_keeps t z w js so fz)))
    perform_keeps at t (logic op a b) i w ks so f = keeps_step p ks (λ ks. MaybeFits p ks t) w _ so (λ m.
        keeps_then p ks (λ ks. Fits p ks (type_of a)) (λ ks. MaybeFits p ks t) (evaluate s held a (record w { left = m })) _ (evaluate_keeps a i.0 (record w { left = m }) ks so f) (λ x w js so g fx.
        keeps_if p js (λ ks. MaybeFits p ks t) (is_decided op (is_true x)) _ _
        (λ e. give_keeps t (truth_value (is_true x)) w js so (subst (λ t. Fits p js t (truth_value (is_true x))) (sym i.2) (truth_fits p js (is_true x))))
        (λ e. keeps_then p js (λ ks. Fits p ks (type_of b)) (λ ks. MaybeFits p ks t) (evaluate s held b w) _ (evaluate_keeps b i.1 w js so (later ks js g f)) (λ y w ls so h fy.
        give_keeps t (truth_value (is_true y)) w ls so (subst (λ t. Fits p ls t (truth_value (is_true y))) (sym i.2) (truth_fits p ls (is_true y)))))))
    perform_keeps at t (conditional v a b) i w ks so f = keeps_step p ks (λ ks. MaybeFits p ks t) w _ so (λ m.
        keeps_then p ks (λ ks. Fits p ks (type_of v)) (λ ks. MaybeFits p ks t) (evaluate s held v (record w { left = m })) _ (evaluate_keeps v i.0 (record w { left = m }) ks so f) (λ x w js so g fx.
        keeps_then p js (λ ks. Fits p ks t) (λ ks. MaybeFits p ks t) (if is_true x then evaluate s held a w else evaluate s held b w) give
        (keeps_if p js (λ ks. Fits p ks t) (is_true x) (evaluate s held a w) (evaluate s held b w)
        (λ e. arm_keeps a w js so (later ks js g f) (evaluate_keeps a i.1) (ap (bare p.structures) i.4.left_is ∙ ((conditional_types p i.4.left_null i.4.right_null i.4.left_type i.4.right_type i.4.entry i.4.is).0 ∙ sym (ap (bare p.structures) i.4.result_is))))
        (λ e. arm_keeps b w js so (later ks js g f) (evaluate_keeps b i.2) (ap (bare p.structures) i.4.right_is ∙ ((conditional_types p i.4.left_null i.4.right_null i.4.left_type i.4.right_type i.4.entry i.4.is).1 ∙ sym (ap (bare p.structures) i.4.result_is)))))
        (λ y w ls so h fy. give_keeps t y w ls so fy)))
      where
        arm_keeps : (a : PlainValue) (w : State) (ks : List Kind) → Sound p ks w → FrameAt ks → Evaluates a → bare p.structures (type_of a) ≡ bare p.structures t → Keeps p ks (λ ks. Fits p ks t) (evaluate s held a w)
        arm_keeps a w ks so f k e = same_outcome ks (evaluate s held a w) (k w ks so f)
          where
            same_outcome : (ks : List Kind) (o : Progress Scalar) → Keeps p ks (λ ks. Fits p ks (type_of a)) o → Keeps p ks (λ ks. Fits p ks t) o
            same_outcome ks (gives x w) k = record { kinds = k.kinds; grows = k.grows; sound = k.sound; value = fits_same p k.kinds (type_of a) t x e k.value }
            same_outcome ks (ends end w) k = k
    perform_keeps at t (call name k arguments) i w ks so f = keeps_step p ks (λ ks. MaybeFits p ks t) w _ so (λ m.
        keeps_then p ks (λ ks. ValuesFit p ks arguments) (λ ks. MaybeFits p ks t) (evaluate_all s held arguments (record w { left = m })) _ (all_keep arguments i.0 (record w { left = m }) ks so f) (λ xs w js so g fxs.
        let callee : IsCallee p k i.1.seen = callee_of p k i.1.seen i.1.there in
        let fit : ScalarsFit p js (parameter_types callee.callee) xs = arguments_fit p c js (parameter_types callee.callee) arguments xs refl (subst (λ (g : SeenFunction). ArgumentsFit c g.parameters arguments) (sym callee.is) i.1.fit) fxs in
        result_keeps w js callee.callee (calls k xs w) (sym (i.1.result_is ∙ ap (λ (g : SeenFunction). bare p.structures g.result) (sym callee.is))) (meaning.keeps k callee.callee xs w js callee.there fit so)))
      where
        result_keeps : (w : State) (ks : List Kind) (g : PlainFunction) (o : Progress (Option Scalar)) → bare p.structures g.result ≡ bare p.structures t → Keeps p ks (λ ks. MaybeFits p ks g.result) o → Keeps p ks (λ ks. MaybeFits p ks t) o
        result_keeps w ks g (gives x v) e k = record { kinds = k.kinds; grows = k.grows; sound = k.sound; value = maybe_same p k.kinds g.result t x e k.value }
        result_keeps w ks g (ends end v) e k = k
    perform_keeps at t (built_in name k arguments) i w ks so f = keeps_step p ks (λ ks. MaybeFits p ks t) w _ so (λ m.
        keeps_then p ks (λ ks. ValuesFit p ks arguments) (λ ks. MaybeFits p ks t) (evaluate_all s held arguments (record w { left = m })) _ (all_keep arguments i.0 (record w { left = m }) ks so f) (λ xs w js so g fxs.
        library_keeps t k at.span arguments xs w js i.1 fxs so))

    all_keep : (vs : PlainValues) → AreWholeValues c vs → (w : State) (ks : List Kind) → Sound p ks w → FrameAt ks → Keeps p ks (λ ks. ValuesFit p ks vs) (evaluate_all s held vs w)
    all_keep no_values i w ks so f = kept p ks (λ ks. ValuesFit p ks no_values) [] w so tt
    all_keep (more_values v vs) i w ks so f =
        keeps_then p ks (λ ks. Fits p ks (type_of v)) (λ ks. ValuesFit p ks (more_values v vs)) (evaluate s held v w) _ (evaluate_keeps v i.0 w ks so f) (λ x w js so g fx.
        keeps_then p js (λ ks. ValuesFit p ks vs) (λ ks. ValuesFit p ks (more_values v vs)) (evaluate_all s held vs w) _ (all_keep vs i.1 w js so (later ks js g f)) (λ xs w ls so h fxs.
        let both : ValuesFit p ls (more_values v vs) (x ∷ xs) = (fits_grown p js ls (type_of v) x h fx, fxs) in kept p ls (λ ks. ValuesFit p ks (more_values v vs)) (x ∷ xs) w so both))

    pub locate_keeps : (q : PlainPlace) → IsWholePlace c q → (w : State) (ks : List Kind) → Sound p ks w → FrameAt ks → Keeps p ks (TargetFits p variables (place_type q)) (locate s held q w)
    locate_keeps (place at t form) i w ks so f = find_keeps at t form i w ks so f

    find_keeps : (at : At) (t : PlainType) (form : PlainPlaceForm) → IsWholePlaceForm c t form → (w : State) (ks : List Kind) → Sound p ks w → FrameAt ks → Keeps p ks (TargetFits p variables t) (find_place s held at t form w)
    find_keeps at t (variable k) i w ks so f =
        let v = seen.seen k i.seen i.there in
        keeps_or p ks (TargetFits p variables t ks) (TargetFits p variables t) _ at.span w _ so
        (variable_fits p ks variables held k v.0 t (slice_get held k) refl f v.1 (i.type_is ∙ ap (λ (v : SeenVariable). v.type) v.2))
        (λ target fits. kept p ks (TargetFits p variables t) target w so fits)
    find_keeps at t (global k) i w ks so f =
        keeps_or p ks (TargetFits p variables t ks) (TargetFits p variables t) _ at.span w _ so (global_fits p whole variables ks w k t i.seen (slice_get p.objects k) refl i.there i.type_is so) (λ target fits. kept p ks (TargetFits p variables t) target w so fits)
    find_keeps at t (literal k bytes) i w ks so f =
        keeps_or p ks (TargetFits p variables t ks) (TargetFits p variables t) _ at.span w _ so
        (subst (λ t. OnOk (TargetFits p variables t ks) (literal_target (width p t) (literal_number k (length p.objects) p.literals))) (sym i.type_is) (literal_fits p whole variables ks w k bytes i.is_listed so))
        (λ target fits. kept p ks (TargetFits p variables t) target w so fits)
    find_keeps at t (index a b) i w ks so f = keeps_step p ks (TargetFits p variables t) w _ so (λ m.
        two_keep a b (evaluate_keeps a i.0) (evaluate_keeps b i.1) (record w { left = m }) ks so f (TargetFits p variables t) _ (λ x y w js so fx fy.
        keeps_or p js (FitsPointer p js t) (TargetFits p variables t) (shift w.objects (pointer_of x) (number_of y)) at.span w _ so
        (shift_fits p js w.objects t (pointer_of x) (number_of y) (pointer_of_fits p js t x (subst (λ u. Fits p js u x) i.2.pointer_is fx)))
        (λ q fq. kept p js (TargetFits p variables t) (Element q) w so fq)))
    find_keeps at t (member q k) i w ks so f = keeps_step p ks (TargetFits p variables t) w _ so (λ m.
        keeps_then p ks (TargetFits p variables (place_type q)) (TargetFits p variables t) (locate s held q (record w { left = m })) _ (locate_keeps q i.0 (record w { left = m }) ks so f) (λ target w js so g fits.
        let x : HasMapped (bare_member p.structures) _ k _ = member_like p whole.structures i.1.number k i.1.entry i.1.there in
        let type_same : bare p.structures x.one.type ≡ bare p.structures t = ap (λ (m : PlainMember). m.type) x.is ∙ sym (ap (bare p.structures) i.1.type_is ∙ bare_qualified p.structures i.1.mark i.1.entry.type) in
        keeps_or p js (FitsPointer p js t) (TargetFits p variables t) _ at.span w _ so
        (inner_member_fits p js w.objects (place_type q) t false (representative_of p.structures i.1.number) k x.one (pointer_to target) (structure_same p (place_type q) i.1.mark i.1.number i.1.whole_is) x.there type_same
        (pointer_to_fits p variables (place_type q) js target fits))
        (λ r fr. kept p js (TargetFits p variables t) (Element r) w so fr)))
    find_keeps at t (dereference v) i w ks so f = keeps_step p ks (TargetFits p variables t) w _ so (λ m.
        keeps_then p ks (λ ks. Fits p ks (type_of v)) (TargetFits p variables t) (evaluate s held v (record w { left = m })) _ (evaluate_keeps v i.0 (record w { left = m }) ks so f) (λ x w js so g fx.
        keeps_or p js (λ _. Unit {0}) (TargetFits p variables t) (reach w.objects (pointer_of x)) at.span w _ so (any_ok (reach w.objects (pointer_of x))) (λ object _.
        kept p js (TargetFits p variables t) (Element (pointer_of x)) w so (pointer_of_fits p js t x (subst (λ u. Fits p js u x) i.1 fx)))))
