-- What a value gives is as the environment says, by induction on values.
use Rattle.std.proofs.Common.{◌≡◌, ℕ, ◌<◌, ◌≤◌, Bool, true, false, List, [], ◌∷◌, refl, sym, ◌∙◌, ap, subst, arith, Option, Some, None, Ok, slice_get, ℤ, pos}
use Rattle.std.specs.Prelude.{if◌then◌else◌, is_some, neg_ℤ}
use Rattle.std.specs.Bool.{nat_eq}
use Rattle.std.specs.Option.{option_map}
use Rattle.std.specs.List.{All}
use Rattle.std.proofs.lemmas.Int.{ints}
use Rattle.std.proofs.lemmas.List.Elements.{All-head}
use Rattle.p10_base.specs.declared.span.Span.{Span}
use Rattle.p10_base.specs.declared.at.At.{At}
use Rattle.p10_int.specs.declared.types.IntType.{IntType}
use Rattle.p10_int.specs.declared.operators.BinOp.{BinOp}
use Rattle.p10_int.specs.declared.operators.UnOp.{UnOp}
use Rattle.p10_int.specs.Conversion.{residue}
use Rattle.p10_int.proofs.Conversions.{residue_below}
use Rattle.p10_range.specs.Ranges.{from_to, IsMember}
use Rattle.p10_core.specs.declared.typed.Library.{Library}
use Rattle.p10_core.specs.declared.typed.Library.TheVariants.{Assert, CAssert, Getchar, Putchar, Malloc, Calloc, Free}
use Rattle.p10_core.specs.declared.typed.LogicOp.{LogicOp}
use Rattle.p10_core.specs.Types.{PlainType, void, integer, bare}
use Rattle.p10_core.specs.Rows.{is_integer}
use Rattle.p10_core.specs.Constants.{integer_of}
use Rattle.p10_core.specs.Typed.{PlainValue, value, type_of, PlainForm, constant, read, sense, address, decay, convert, cast, unary, binary, logic, conditional, call, built_in, place, variable, global, literal, index, member, dereference, PlainValues, no_values, more_values, PlainVariable, PlainFunction, PlainProgram}
use Rattle.p10_core.specs.Whole.{SeenVariable, SeenFunction, Surroundings, Converts, integers, pointers, nulls, Casts, to_void, integers as cast_integers, nulls as cast_nulls, allocations, ArgumentsFit, CallsLibrary, IsWholeValue, IsWholeForm, AreWholeValues}
use Rattle.p10_core.specs.WholePrograms.{parameter_types, surroundings_of, IsWholeProgram}
use Rattle.p10_cert.specs.Claims.{Claims}
use Rattle.p10_meaning.specs.declared.pointers.Scalar.{Scalar}
use Rattle.p10_meaning.specs.declared.pointers.Scalar.TheVariants.{Int, Pointer}
use Rattle.p10_meaning.specs.Pointers.{scalar_of, read_of}
use Rattle.p10_meaning.specs.Objects.{Object}
use Rattle.p10_meaning.specs.States.{State, gives, and_then, or_undefined}
use Rattle.p10_meaning.specs.Scalars.{number_of, is_true, truth_value, converted_to, operated, operated_unary}
use Rattle.p10_meaning.specs.Values.{Calls, Setting, Held, holds, stands, absent, Variable, variable_target, held_cell, read_target, first_argument, next_byte, used, give, is_structure, is_decided, evaluate, discard, perform, evaluate_all}
use Rattle.p10_meaning.specs.Laws.{EndsAfter}
use Rattle.p10_meaning.specs.Sound.{Kind, Fits, MaybeFits, Sound, Grows, Keeps, KeepSound, AreSeen}
use Rattle.p10_meaning.proofs.Geometry.{IsLaidOut}
use Rattle.p10_meaning.proofs.Fitting.{fits_grown, frame_grown, grows_same, grows_trans}
use Rattle.p10_meaning.proofs.SoundValues.{ValuesFit, IsCallee, evaluate_keeps, discard_keeps}
use Rattle.p10_sums.specs.Keeping.{HoldsOf}
use Rattle.p10_absx.specs.Abstract.{Abstract, only_range}
use Rattle.p10_absx.specs.Environments.{Environment, known}
use Rattle.p10_absx.specs.Comparing.{Side}
use Rattle.p10_absx.specs.Assessing.{Assessed, as_side, known_where, any_of, found_of, variable_read, converted_found, unary_assessed, are_integers, binary_found, logic_found, conditional_found, call_claimed, call_found, truth_found, library_assessed, assess, assess_form, assess_only}
use Rattle.p10_absx.specs.Describing.{set_to, held_number, number_in, Describes, DescribesVariable}
use Rattle.p10_pass.specs.Arguments.{has_value, goes_on_where, failing_in}
use Rattle.p10_evaluation.specs.Claimed.{ResultLies, IsCoveredCall, ResultsLie, parameters_claimed}
use Rattle.p10_evaluation.specs.Laws.{IsDescribed}
use Rattle.p10_evaluation.proofs.Narrowing.{holds_known}
use Rattle.p10_evaluation.proofs.Operating.{side_converted, both_true}
use Rattle.p10_evaluation.proofs.Rules.{holds_step, holds_any, holds_map, holds_last, Given, given_of, typed, holds_or, holds_if}
use Rattle.p10_evaluation.proofs.Finding.{IsInteger, integer_fits, integer_is, FoundHolds, MaybeFound, found_side, maybe_some, side_value, found_known, test_found, straight, IsHeldSo, IsSideSo, side_found, typed_found, any_found}
use Rattle.p10_evaluation.proofs.FoundRows.{unary_row_found, binary_row_found}
use Rattle.p10_evaluation.proofs.Failing.{failing_among, in_convert, in_cast, in_unary, in_binary, in_logic, InConditional, in_conditional, InCall, in_call, in_built_in, in_values}
use Rattle.p10_evaluation.proofs.Arguments.{arguments_fit, callee_of, is_other, same_kind, value_there, AllFound, all_there, all_lie}
use Rattle.p10_evaluation.proofs.Choosing.{IsThere, known_there, decided_found, goes_on, right_found_so, chosen, first_chosen, second_chosen}

-- ## Small rows

cell_number : (h : Option Held) (z : ℤ) → read_of (held_cell h) ≡ Ok (Int z) → held_number h ≡ Some z
cell_number None z e = absurd cc
cell_number (Some absent) z e = absurd cc
cell_number (Some (stands o)) z e = absurd cc
cell_number (Some (holds cell)) z e = of_value cell.value e
  where
    of_value : (o : Option Scalar) → scalar_of o ≡ Ok (Int z) → number_in o ≡ Some z
    of_value None e = absurd cc
    of_value (Some (Int y)) e = cc
    of_value (Some (Pointer q)) e = absurd cc

itself : (z : ℤ) → IsMember (from_to z z) z
itself z = record { above = omega (arith, ints); below = omega (arith, ints) }

some_map : {A B : Type 0} (f : A → B) (o : Option A) → is_some o ≡ true → is_some (option_map f o) ≡ true
some_map f None e = absurd cc
some_map f (Some a) e = refl

-- ## Results of operators

-- a result of a unary operator on what was found
record UnaryResult (variables : List PlainVariable) (head held : List Held) (t : PlainType) (op : UnOp) (a : Assessed) (x : Option Scalar) : Type 0 where
  operand : Scalar
  result : Scalar
  is : x ≡ Some result
  found : FoundHolds variables head held a operand
  ok : operated_unary op t operand ≡ Ok result

-- a result of a binary operator
record BinaryResult (variables : List PlainVariable) (head held : List Held) (t : PlainType) (op : BinOp) (integers : Bool) (a b : Assessed) (x : Option Scalar) : Type 0 where
  objects : List Object
  left : Scalar
  right : Scalar
  result : Scalar
  is : x ≡ Some result
  left_integer : integers ≡ true → IsInteger left
  right_integer : integers ≡ true → IsInteger right
  left_found : FoundHolds variables head held a left
  right_found : FoundHolds variables head held b right
  ok : operated op t objects left right ≡ Ok result

-- ## The induction

module _ (p : PlainProgram) (out : IsLaidOut p) (whole : IsWholeProgram p) (calls : Calls) (meaning : KeepSound p calls) (n : ℕ) (variables : List PlainVariable) (seen_at : ℕ → Option SeenVariable) (seen : AreSeen variables seen_at) (held head : List Held) (c : Option Claims) (results : ResultsLie p c n calls) where
  abbrev pub s : Setting
  s = record { program = p; variables = variables; call = calls; turns = n }

  abbrev pub around_it : Surroundings
  around_it = record (surroundings_of p) { variable_at = seen_at }

  -- what is found of a value holds of the scalar that it gives
  abbrev pub Finds : PlainValue → Type 0
  Finds v = (env : Environment) (ks : List Kind) (w : State) → IsDescribed p n variables env head held ks w → failing_in c v env ≡ [] →
      HoldsOf (λ x w. FoundHolds variables head held (assess c v env) x) (evaluate s held v w)

  -- evaluation never raises the steps that are left
  abbrev pub Falls : Type 0
  Falls = (v : PlainValue) (w : State) → w.left ≤ n → EndsAfter w (evaluate s held v w)

  -- all that is known of a scalar that a value gives
  abbrev pub IsGiven : List Kind → PlainValue → Environment → Scalar → State → Type 0
  IsGiven ks v env = Given p n ks (λ ks. Fits p ks (type_of v)) (λ x w. FoundHolds variables head held (assess c v env) x)

  pub stepped : (env : Environment) (ks : List Kind) (w : State) (l : ℕ) → IsDescribed p n variables env head held ks w → l ≤ n → IsDescribed p n variables env head held ks (record w { left = l })
  stepped env ks w l d b = record { sound = d.sound; fits = d.fits; describes = d.describes; few = b }

  -- the state after a value, under an environment that describes the frame
  pub later : (env e : Environment) (ks js : List Kind) (w v : State) → IsDescribed p n variables env head held ks w → Grows ks js → Sound p js v → v.left ≤ n → Describes variables e head held → IsDescribed p n variables e head held js v
  later env e ks js w v d g so b k = record { sound = so; fits = frame_grown p ks js variables held g d.fits; describes = k; few = b }

  pub given_all : Falls → (v : PlainValue) → IsWholeValue around_it v → Finds v → (env : Environment) (ks : List Kind) (w : State) → IsDescribed p n variables env head held ks w → failing_in c v env ≡ [] → HoldsOf (IsGiven ks v env) (evaluate s held v w)
  given_all falls v i finds env ks w d e = given_of p n ks (λ ks. Fits p ks (type_of v)) (λ x w. FoundHolds variables head held (assess c v env) x) w (evaluate s held v w) d.few
      (evaluate_keeps p out whole calls meaning n variables seen_at seen held v i w ks d.sound d.fits) (falls v w d.few) (finds env ks w d e)

  module _ (falls : Falls) where
    -- what a form gives fits its type
    form_keeps : (at : At) (t : PlainType) (form : PlainForm) → IsWholeForm around_it t form → (env : Environment) (ks : List Kind) (w : State) → IsDescribed p n variables env head held ks w → Keeps p ks (λ ks. MaybeFits p ks t) (perform s held at t form w)
    form_keeps at t form i env ks w d = discard_keeps p out whole calls meaning n variables seen_at seen held (value at t form) i w ks d.sound d.fits

    -- of a form nothing but the type is known
    any_form : (at : At) (t : PlainType) (form : PlainForm) → IsWholeForm around_it t form → (env : Environment) (ks : List Kind) (w : State) → IsDescribed p n variables env head held ks w →
        HoldsOf (λ x w. MaybeFound variables head held (any_of t) x) (perform s held at t form w)
    any_form at t form i env ks w d = typed p ks (λ ks. MaybeFits p ks t) (λ x w. Unit {0}) (λ x w. MaybeFound variables head held (any_of t) x) (perform s held at t form w) (form_keeps at t form i env ks w d)
        (holds_any (perform s held at t form w)) (λ js x w f u. any_found variables head held p js t x f)

    -- a form whose value is an abstract value
    found_form : (a : Option Abstract) (at : At) (t : PlainType) (form : PlainForm) → IsWholeForm around_it t form → (env : Environment) (ks : List Kind) (w : State) → IsDescribed p n variables env head held ks w →
        HoldsOf (λ x w. IsHeldSo variables head held a x) (perform s held at t form w) → HoldsOf (λ x w. MaybeFound variables head held (found_of t a) x) (perform s held at t form w)
    found_form a at t form i env ks w d h = typed p ks (λ ks. MaybeFits p ks t) (λ x w. IsHeldSo variables head held a x) (λ x w. MaybeFound variables head held (found_of t a) x) (perform s held at t form w)
        (form_keeps at t form i env ks w d) h (λ js x w f h. typed_found variables head held p js t a x f h)

    used_found : (a : Assessed) (x : Option Scalar) (span : Span) (w : State) → MaybeFound variables head held a x → HoldsOf (λ x w. FoundHolds variables head held a x) (or_undefined (used x) span w (λ x. gives x w))
    used_found a None span w h = tt
    used_found a (Some x) span w h = h

    -- ## Reads

    module _ (t : PlainType) (k : ℕ) (a : Abstract) (env : Environment) (d : Describes variables env head held) (there : known env k ≡ Some a) where
      abbrev side : Side
      side = record { variable = Some k; value = Some a }

      one : DescribesVariable variables head held k a
      one = d.each k a there

      scalar_read : (x : Scalar) → read_of (held_cell (slice_get held k)) ≡ Ok x → IsSideSo variables head held side (Some x)
      scalar_read (Int z) e = let f : set_to held k ≡ Some z = cell_number (slice_get held k) z e in record { variable = f; value = holds_known head _ k a (set_to held k) z f one.describes }
      scalar_read (Pointer q) e = refl

      variable_gives : (h : Option Held) (m : ℕ) (at span : Span) (w : State) → slice_get held k ≡ h →
          HoldsOf (λ x w. IsSideSo variables head held side x) (and_then (or_undefined (variable_target k m h) at w (λ target. gives target w)) (λ target w. if is_structure t then gives None w else and_then (read_target span t held target w) give))
      variable_gives None m at span w e = tt
      variable_gives (Some absent) m at span w e = tt
      variable_gives (Some (stands o)) m at span w e = absurd (one.no_object o e)
      variable_gives (Some (holds cell)) m at span w e = holds_if (λ x w. IsSideSo variables head held side x) (is_structure t) (gives None w) (and_then (read_target span t held (Variable k) w) give) (λ f. refl)
          (λ f. holds_last (λ x w. IsSideSo variables head held side (Some x)) (λ x w. IsSideSo variables head held side x) (read_target span t held (Variable k) w) give
          (holds_or (λ x w. IsSideSo variables head held side (Some x)) (read_of (held_cell (slice_get held k))) span w (λ x. gives x w) (λ x g. scalar_read x g)) (λ x w h. h))

    variable_form : (at there : At) (t u : PlainType) (k : ℕ) → IsWholeForm around_it t (read (place there u (variable k))) → (env : Environment) (ks : List Kind) (w : State) → IsDescribed p n variables env head held ks w →
        (o : Option Abstract) → known env k ≡ o → HoldsOf (λ x w. MaybeFound variables head held (variable_read t k o) x) (perform s held at t (read (place there u (variable k))) w)
    variable_form at there t u k i env ks w d None e = any_form at t (read (place there u (variable k))) i env ks w d
    variable_form at there t u k i env ks w d (Some a) e =
        typed p ks (λ ks. MaybeFits p ks t) (λ x w. IsSideSo variables head held (record { variable = Some k; value = Some a }) x) (λ x w. MaybeFound variables head held (variable_read t k (Some a)) x) (perform s held at t (read (place there u (variable k))) w)
        (form_keeps at t (read (place there u (variable k))) i env ks w d)
        (holds_step (λ x w. IsSideSo variables head held (record { variable = Some k; value = Some a }) x) n w _ d.few (λ l b. variable_gives t k a env d.describes e (slice_get held k) _ there.span there.span (record w { left = l }) refl))
        (λ js x w f h. side_found variables head held p js t (record { variable = Some k; value = Some a }) x f h)

    -- ## Conversions

    integer_converted : (kind : IntType) (ks : List Kind) (j : IntType) (a : Assessed) (x : Scalar) → Fits p ks (integer false j) x → FoundHolds variables head held a x →
        MaybeFound variables head held (converted_found (integer false kind) (as_side a)) (Some (converted_to (integer false kind) x))
    integer_converted kind ks j a (Int z) f h = (refl, side_converted head held kind (as_side a) z (found_side variables head held a z h))
    integer_converted kind ks j a (Pointer q) f h = absurd f

    converted_gives : (v : PlainValue) → IsWholeValue around_it v → Finds v → (kind j : IntType) → type_of v ≡ integer false j → (env : Environment) (ks : List Kind) (w : State) → IsDescribed p n variables env head held ks w → failing_in c v env ≡ [] →
        HoldsOf (λ x w. MaybeFound variables head held (converted_found (integer false kind) (as_side (assess c v env))) x) (and_then (evaluate s held v w) (λ x w. give (converted_to (integer false kind) x) w))
    converted_gives v i finds kind j e env ks w d f = holds_last (IsGiven ks v env) (λ x w. MaybeFound variables head held (converted_found (integer false kind) (as_side (assess c v env))) x) (evaluate s held v w) _
        (given_all falls v i finds env ks w d f) (λ x w g. integer_converted kind g.kinds j (assess c v env) x (subst (λ u. Fits p g.kinds u x) e g.fits) g.holds)

    convert_form : (at : At) (t : PlainType) (v : PlainValue) → IsWholeValue around_it v → Finds v → Converts t v → IsWholeForm around_it t (convert v) → (env : Environment) (ks : List Kind) (w : State) → IsDescribed p n variables env head held ks w → failing_in c v env ≡ [] →
        HoldsOf (λ x w. MaybeFound variables head held (converted_found t (as_side (assess c v env))) x) (perform s held at t (convert v) w)
    convert_form at t v i finds (integers kind j y e) whole_form env ks w d f = converted_gives v i finds kind j e env ks w d f
    convert_form at t v i finds (pointers a b y e q) whole_form env ks w d f = any_form at t (convert v) whole_form env ks w d
    convert_form at t v i finds (nulls j b y e q) whole_form env ks w d f = any_form at t (convert v) whole_form env ks w d

    -- a value that isn't used
    abbrev Discards : PlainValue → Type 0
    Discards v = (env : Environment) (ks : List Kind) (w : State) → IsDescribed p n variables env head held ks w → failing_in c v env ≡ [] → HoldsOf (λ x w. MaybeFound variables head held (assess c v env) x) (discard s held v w)

    void_holds : (a : Assessed) (x : Option Scalar) → MaybeFound variables head held a x → MaybeFound variables head held (converted_found (void false) (as_side a)) None
    void_holds a x h = some_map _ (as_side a).value (ap is_some (side_value variables head held a) ∙ maybe_some variables head held a x h)

    cast_form : (at : At) (t : PlainType) (v : PlainValue) → IsWholeValue around_it v → Finds v → Discards v → Casts t v → IsWholeForm around_it t (cast v) → (env : Environment) (ks : List Kind) (w : State) → IsDescribed p n variables env head held ks w → failing_in c v env ≡ [] →
        HoldsOf (λ x w. MaybeFound variables head held (converted_found t (as_side (assess c v env))) x) (perform s held at t (cast v) w)
    cast_form at t v i finds discards (to_void y) whole_form env ks w d f = holds_step (λ x w. MaybeFound variables head held (converted_found (void false) (as_side (assess c v env))) x) n w _ d.few (λ l b.
        holds_last (λ x w. MaybeFound variables head held (assess c v env) x) (λ x w. MaybeFound variables head held (converted_found (void false) (as_side (assess c v env))) x) (discard s held v (record w { left = l })) _
        (discards env ks (record w { left = l }) (stepped env ks w l d b) f) (λ x w h. void_holds (assess c v env) x h))
    cast_form at t v i finds discards (cast_integers kind j y e) whole_form env ks w d f = holds_step (λ x w. MaybeFound variables head held (converted_found (integer false kind) (as_side (assess c v env))) x) n w _ d.few (λ l b.
        converted_gives v i finds kind j e env ks (record w { left = l }) (stepped env ks w l d b) f)
    cast_form at t v i finds discards (cast_nulls j u y e q) whole_form env ks w d f = any_form at t (cast v) whole_form env ks w d
    cast_form at t v i finds discards (allocations u y e q) whole_form env ks w d f = any_form at t (cast v) whole_form env ks w d

    -- ## Operators

    unary_form : (at : At) (t : PlainType) (op : UnOp) (v : PlainValue) → IsWholeValue around_it v → Finds v → IsWholeForm around_it t (unary op v) → (env : Environment) (ks : List Kind) (w : State) → IsDescribed p n variables env head held ks w → failing_in c v env ≡ [] →
        HoldsOf (λ x w. MaybeFound variables head held (unary_assessed op t env (assess c v env)) x) (perform s held at t (unary op v) w)
    unary_form at t op v i finds whole_form env ks w d f =
        typed p ks (λ ks. MaybeFits p ks t) (λ x w. UnaryResult variables head held t op (assess c v env) x) (λ x w. MaybeFound variables head held (unary_assessed op t env (assess c v env)) x) (perform s held at t (unary op v) w)
        (form_keeps at t (unary op v) whole_form env ks w d)
        (holds_step (λ x w. UnaryResult variables head held t op (assess c v env) x) n w _ d.few (λ l b.
        holds_last (IsGiven ks v env) (λ x w. UnaryResult variables head held t op (assess c v env) x) (evaluate s held v (record w { left = l })) _
        (given_all falls v i finds env ks (record w { left = l }) (stepped env ks w l d b) f) (λ x u g.
        holds_or (λ x w. UnaryResult variables head held t op (assess c v env) x) (operated_unary op t x) at.span u _ (λ z e. record { operand = x; result = z; is = refl; found = g.holds; ok = e }))))
        (λ js x w fits o. subst (λ x. MaybeFound variables head held (unary_assessed op t env (assess c v env)) x) (sym o.is)
        (unary_row_found variables head held p js t op (assess c v env) env o.operand o.result o.found d.describes o.ok (subst (MaybeFits p js t) o.is fits)))

    left_is_integer : (ks : List Kind) (a b : PlainValue) (x : Scalar) → Fits p ks (type_of a) x → are_integers a b ≡ true → IsInteger x
    left_is_integer ks a b x f e = integer_fits p ks (type_of a) x (both_true (is_integer (type_of a)) (is_integer (type_of b)) e).0 f

    right_is_integer : (ks : List Kind) (a b : PlainValue) (y : Scalar) → Fits p ks (type_of b) y → are_integers a b ≡ true → IsInteger y
    right_is_integer ks a b y f e = integer_fits p ks (type_of b) y (both_true (is_integer (type_of a)) (is_integer (type_of b)) e).1 f

    binary_form : (at : At) (t : PlainType) (op : BinOp) (a b : PlainValue) → IsWholeValue around_it a → IsWholeValue around_it b → Finds a → Finds b → IsWholeForm around_it t (binary op a b) →
        (env : Environment) (ks : List Kind) (w : State) → IsDescribed p n variables env head held ks w → failing_in c (value at t (binary op a b)) env ≡ [] →
        HoldsOf (λ x w. MaybeFound variables head held (binary_found op t (are_integers a b) (assess c a env) (assess c b env) env) x) (perform s held at t (binary op a b) w)
    binary_form at t op a b i k finds others whole_form env ks w d f =
        typed p ks (λ ks. MaybeFits p ks t) R (λ x w. MaybeFound variables head held (binary_found op t (are_integers a b) (assess c a env) (assess c b env) env) x) (perform s held at t (binary op a b) w)
        (form_keeps at t (binary op a b) whole_form env ks w d)
        (holds_step R n w _ d.few (λ l less.
        let now : IsDescribed p n variables env head held ks (record w { left = l }) = stepped env ks w l d less in
        holds_last (IsGiven ks a env) R (evaluate s held a (record w { left = l })) _ (given_all falls a i finds env ks (record w { left = l }) now parts.0) (λ x u g.
        let next : IsDescribed p n variables env head held g.kinds u = later env env ks g.kinds (record w { left = l }) u now g.grows g.sound g.few d.describes in
        holds_last (IsGiven g.kinds b env) R (evaluate s held b u) _ (given_all falls b k others env g.kinds u next (parts.1 (value_there variables head held c env a x g.holds))) (λ y v h.
        holds_or R (operated op t v.objects x y) at.span v _ (λ z e. record {
          objects = v.objects;
          left = x;
          right = y;
          result = z;
          is = refl;
          left_integer = left_is_integer g.kinds a b x g.fits;
          right_integer = right_is_integer h.kinds a b y h.fits;
          left_found = g.holds;
          right_found = h.holds;
          ok = e;
        })))))
        (λ js x w fits o. subst (λ x. MaybeFound variables head held (binary_found op t (are_integers a b) (assess c a env) (assess c b env) env) x) (sym o.is)
        (binary_row_found variables head held p js t op o.objects (are_integers a b) (assess c a env) (assess c b env) env o.left o.right o.result o.left_integer o.right_integer o.left_found o.right_found d.describes o.ok (subst (MaybeFits p js t) o.is fits)))
      where
        R : Option Scalar → State → Type 0
        R x w = BinaryResult variables head held t op (are_integers a b) (assess c a env) (assess c b env) x

        parts : (failing_in c a env ≡ []) × (has_value c a env ≡ true → failing_in c b env ≡ [])
        parts = in_binary c at t op a b env f

    -- ## `&&`, `||` and `?:`

    logic_form : (at : At) (t : PlainType) (op : LogicOp) (a b : PlainValue) → IsWholeValue around_it a → IsWholeValue around_it b → Finds a → Finds b →
        (env : Environment) (ks : List Kind) (w : State) → IsDescribed p n variables env head held ks w → failing_in c (value at t (logic op a b)) env ≡ [] →
        HoldsOf (λ x w. MaybeFound variables head held (logic_found op env (assess c a env) (λ env. assess c b env)) x) (perform s held at t (logic op a b) w)
    logic_form at t op a b i k finds others env ks w d f =
        holds_step R n w _ d.few (λ l less.
        let now : IsDescribed p n variables env head held ks (record w { left = l }) = stepped env ks w l d less in
        holds_last (IsGiven ks a env) R (evaluate s held a (record w { left = l })) _ (given_all falls a i finds env ks (record w { left = l }) now parts.0) (λ x u g.
        holds_if R (is_decided op (is_true x)) (give (truth_value (is_true x)) u) _
        (λ e. decided_found variables head held op env (assess c a env) (λ env. assess c b env) (is_true x) e (found_known variables head held (assess c a env) x env g.holds d.describes))
        (λ e.
        let left : IsThere variables head held (known_where (goes_on_where op) env (assess c a env)) =
        known_there variables head held (assess c a env) x env (goes_on_where op) (goes_on variables head held op (is_true x) e) g.holds d.describes in
        let next : IsDescribed p n variables left.env head held g.kinds u = later env left.env ks g.kinds (record w { left = l }) u now g.grows g.sound g.few left.describes in
        holds_last (IsGiven g.kinds b left.env) R (evaluate s held b u) _ (given_all falls b k others left.env g.kinds u next (parts.1 left.env left.is)) (λ y v h.
        right_found_so variables head held op env (assess c a env) (λ env. assess c b env) left.env (is_true y) left.is (found_known variables head held (assess c b left.env) y left.env h.holds left.describes)))))
      where
        R : Option Scalar → State → Type 0
        R x w = MaybeFound variables head held (logic_found op env (assess c a env) (λ env. assess c b env)) x

        parts : (failing_in c a env ≡ []) × ((e : Environment) → known_where (goes_on_where op) env (assess c a env) ≡ Some e → failing_in c b e ≡ [])
        parts = in_logic c at t op a b env f

    conditional_form : (at : At) (t : PlainType) (v a b : PlainValue) → IsWholeValue around_it v → IsWholeValue around_it a → IsWholeValue around_it b → Finds v → Finds a → Finds b → IsWholeForm around_it t (conditional v a b) →
        (env : Environment) (ks : List Kind) (w : State) → IsDescribed p n variables env head held ks w → failing_in c (value at t (conditional v a b)) env ≡ [] →
        HoldsOf (λ x w. MaybeFound variables head held (conditional_found t env (assess c v env) (λ env. assess c a env) (λ env. assess c b env)) x) (perform s held at t (conditional v a b) w)
    conditional_form at t v a b i j k finds firsts seconds whole_form env ks w d f =
        found_form (chosen variables head held env (assess c v env) (λ env. assess c a env) (λ env. assess c b env)) at t (conditional v a b) whole_form env ks w d
        (holds_step R n w _ d.few (λ l less.
        let now : IsDescribed p n variables env head held ks (record w { left = l }) = stepped env ks w l d less in
        holds_last (IsGiven ks v env) R (evaluate s held v (record w { left = l })) _ (given_all falls v i finds env ks (record w { left = l }) now parts.condition) (λ x u g.
        holds_last (λ y w. R (Some y) w) R (if is_true x then evaluate s held a u else evaluate s held b u) give
        (holds_if (λ y w. R (Some y) w) (is_true x) (evaluate s held a u) (evaluate s held b u)
        (λ e.
        let left : IsThere variables head held (known_where true env (assess c v env)) = known_there variables head held (assess c v env) x env true e g.holds d.describes in
        let next : IsDescribed p n variables left.env head held g.kinds u = later env left.env ks g.kinds (record w { left = l }) u now g.grows g.sound g.few left.describes in
        holds_map (λ y w. FoundHolds variables head held (assess c a left.env) y) (λ y w. R (Some y) w) (evaluate s held a u)
        (λ y w h. first_chosen variables head held env (assess c v env) (λ env. assess c a env) (λ env. assess c b env) left.env y left.is h)
        (firsts left.env g.kinds u next (parts.first left.env left.is)))
        (λ e.
        let left : IsThere variables head held (known_where false env (assess c v env)) = known_there variables head held (assess c v env) x env false e g.holds d.describes in
        let next : IsDescribed p n variables left.env head held g.kinds u = later env left.env ks g.kinds (record w { left = l }) u now g.grows g.sound g.few left.describes in
        holds_map (λ y w. FoundHolds variables head held (assess c b left.env) y) (λ y w. R (Some y) w) (evaluate s held b u)
        (λ y w h. second_chosen variables head held env (assess c v env) (λ env. assess c a env) (λ env. assess c b env) left.env y left.is h)
        (seconds left.env g.kinds u next (parts.second left.env left.is))))
        (λ y w h. h))))
      where
        R : Option Scalar → State → Type 0
        R x w = IsHeldSo variables head held (chosen variables head held env (assess c v env) (λ env. assess c a env) (λ env. assess c b env)) x

        parts : InConditional c v a b env
        parts = in_conditional c at t v a b env f

    -- ## Calls

    -- all that is known of arguments
    abbrev pub ArgumentsGiven : List Kind → PlainValues → Environment → List Scalar → State → Type 0
    ArgumentsGiven ks vs env = Given p n ks (λ ks. ValuesFit p ks vs) (λ xs w. AllFound variables head held c env vs xs)

    abbrev pub AllGive : PlainValues → Type 0
    AllGive vs = (env : Environment) (ks : List Kind) (w : State) → IsDescribed p n variables env head held ks w → failing_among c vs env ≡ [] → HoldsOf (ArgumentsGiven ks vs env) (evaluate_all s held vs w)

    no_values_given : AllGive no_values
    no_values_given env ks w d e = record { kinds = ks; grows = grows_same ks; sound = d.sound; few = d.few; fits = tt; holds = tt }

    values_given : (v : PlainValue) (vs : PlainValues) → IsWholeValue around_it v → Finds v → AllGive vs → AllGive (more_values v vs)
    values_given v vs i finds rest env ks w d e =
        holds_last (IsGiven ks v env) (ArgumentsGiven ks (more_values v vs) env) (evaluate s held v w) _ (given_all falls v i finds env ks w d parts.0) (λ x u g.
        holds_last (ArgumentsGiven g.kinds vs env) (ArgumentsGiven ks (more_values v vs) env) (evaluate_all s held vs u) _
        (rest env g.kinds u (later env env ks g.kinds w u d g.grows g.sound g.few d.describes) (parts.1 (value_there variables head held c env v x g.holds))) (λ xs o h. record {
          kinds = h.kinds;
          grows = grows_trans ks g.kinds h.kinds g.grows h.grows;
          sound = h.sound;
          few = h.few;
          fits = (fits_grown p g.kinds h.kinds (type_of v) x h.grows g.fits, h.fits);
          holds = (g.holds, h.holds);
        }))
      where
        parts : (failing_in c v env ≡ []) × (has_value c v env ≡ true → failing_among c vs env ≡ [])
        parts = in_values c v vs env e

    -- a call whose arguments were evaluated is one that claims cover
    abbrev pub covered_call : (k : ℕ) (arguments : PlainValues) (callee : PlainFunction) → slice_get p.functions k ≡ Some callee → nat_eq k p.main ≡ false → ArgumentsFit around_it (parameter_types callee) arguments → (env : Environment) → InCall c k arguments env →
        (ks : List Kind) (xs : List Scalar) (w : State) → ArgumentsGiven ks arguments env xs w → IsCoveredCall p c n k xs w
    covered_call k arguments callee there other fit env parts ks xs w g = record {
      callee = callee;
      there = there;
      other = other;
      kinds = g.kinds;
      sound = g.sound;
      fit = arguments_fit p around_it g.kinds (parameter_types callee) arguments xs refl fit g.fits;
      few = g.few;
      lie = all_lie variables head held c env (parameters_claimed c k) arguments xs g.holds (parts.lie (all_there variables head held c env arguments xs g.holds));
    }

    call_form : (at : At) (t : PlainType) (name : Span) (k : ℕ) (arguments : PlainValues) → AllGive arguments → IsWholeForm around_it t (call name k arguments) →
        (env : Environment) (ks : List Kind) (w : State) → IsDescribed p n variables env head held ks w → failing_in c (value at t (call name k arguments)) env ≡ [] →
        HoldsOf (λ x w. MaybeFound variables head held (call_found c k t) x) (perform s held at t (call name k arguments) w)
    call_form at t name k arguments give_all i env ks w d f =
        typed p ks (λ ks. MaybeFits p ks t) R (λ x w. MaybeFound variables head held (call_found c k t) x) (perform s held at t (call name k arguments) w) (form_keeps at t (call name k arguments) i env ks w d)
        (holds_step R n w _ d.few (λ l less. holds_last (ArgumentsGiven ks arguments env) R (evaluate_all s held arguments (record w { left = l })) _
        (give_all env ks (record w { left = l }) (stepped env ks w l d less) parts.parts) (λ xs u g. (results.lies k xs u (covered_call k arguments callee.callee callee.there (is_other p k i.1.seen i.1.there) fit env parts ks xs u g)).given)))
        (λ js x w f h. typed_found variables head held p js t (Some (only_range (call_claimed c k (integer_of t)))) x f (result_held js x f h))
      where
        callee : IsCallee p k i.1.seen
        callee = callee_of p k i.1.seen i.1.there

        R : Option Scalar → State → Type 0
        R x w = ResultLies (call_claimed c k (integer_of callee.callee.result)) x

        fit : ArgumentsFit around_it (parameter_types callee.callee) arguments
        fit = subst (λ (g : SeenFunction). ArgumentsFit around_it g.parameters arguments) (sym callee.is) i.1.fit

        parts : InCall c k arguments env
        parts = in_call c at t name k arguments env f

        result_held : (js : List Kind) (x : Option Scalar) → MaybeFits p js t x → ResultLies (call_claimed c k (integer_of callee.callee.result)) x → IsHeldSo variables head held (Some (only_range (call_claimed c k (integer_of t)))) x
        result_held js None f h = refl
        result_held js (Some (Pointer q)) f h = refl
        result_held js (Some (Int z)) f h = record {
          member = subst (λ kind. IsMember (call_claimed c k kind) z)
              (sym (same_kind p.structures t callee.callee.result (i.1.result_is ∙ sym (ap (λ (g : SeenFunction). bare p.structures g.result) callee.is)) (integer_is p js t z f))) h;
          offset = tt;
        }

    -- ## Functions of the library

    byte_held : (input : List ℕ) (w : State) → All (λ byte. byte < 256) input → HoldsOf (λ x w. IsHeldSo variables head held (Some (only_range (from_to (neg_ℤ (pos 1)) (pos 255)))) x) (next_byte input w)
    byte_held [] w h = record { member = record { above = omega (arith, ints); below = omega (arith, ints) }; offset = tt }
    byte_held (byte ∷ input) w h =
        let b : byte < 256 = All-head (λ byte. byte < 256) byte input h in
        record { member = record { above = omega (arith, ints); below = omega (arith, ints, b) }; offset = tt }

    put_held : (z : ℤ) → IsHeldSo variables head held (Some (only_range (from_to (pos 0) (pos 255)))) (Some (Int (pos (residue z 256))))
    put_held z =
        let b : residue z 256 < 256 = residue_below z 256 (omega arith) in
        record { member = record { above = omega (arith, ints); below = omega (arith, ints, b) }; offset = tt }

    asserted_found : (v : PlainValue) (env : Environment) (xs : List Scalar) → Describes variables env head held → AllFound variables head held c env (more_values v no_values) xs →
        FoundHolds variables head held (truth_found env (assess c v env)) (truth_value (is_true (first_argument xs)))
    asserted_found v env [] d h = absurd h
    asserted_found v env (x ∷ []) d h = test_found variables head held (known_where true env (assess c v env)) (known_where false env (assess c v env)) (is_true x)
        (straight variables head held (assess c v env) env (is_true x) (found_known variables head held (assess c v env) x env h.0 d))
    asserted_found v env (x ∷ (y ∷ xs)) d h = absurd h.1

    built_in_form : (at : At) (t : PlainType) (name : Span) (f : Library) (arguments : PlainValues) → AllGive arguments → CallsLibrary around_it t f arguments → IsWholeForm around_it t (built_in name f arguments) →
        (env : Environment) (ks : List Kind) (w : State) → IsDescribed p n variables env head held ks w → failing_in c (value at t (built_in name f arguments)) env ≡ [] →
        HoldsOf (λ x w. MaybeFound variables head held (library_assessed f t env (assess_only c arguments env)) x) (perform s held at t (built_in name f arguments) w)
    built_in_form at t name Getchar no_values give_all l i env ks w d e = found_form (Some (only_range (from_to (neg_ℤ (pos 1)) (pos 255)))) at t (built_in name Getchar no_values) i env ks w d
        (holds_step (λ x w. IsHeldSo variables head held (Some (only_range (from_to (neg_ℤ (pos 1)) (pos 255)))) x) n w _ d.few (λ m less. byte_held w.input (record w { left = m }) d.sound.input_bytes))
    built_in_form at t name Putchar (more_values v no_values) give_all l i env ks w d e = found_form (Some (only_range (from_to (pos 0) (pos 255)))) at t (built_in name Putchar (more_values v no_values)) i env ks w d
        (holds_step (λ x w. IsHeldSo variables head held (Some (only_range (from_to (pos 0) (pos 255)))) x) n w _ d.few (λ m less.
        holds_last (λ xs w. Unit {0}) (λ x w. IsHeldSo variables head held (Some (only_range (from_to (pos 0) (pos 255)))) x) (evaluate_all s held (more_values v no_values) (record w { left = m })) _
        (holds_any (evaluate_all s held (more_values v no_values) (record w { left = m }))) (λ xs u h. put_held (number_of (first_argument xs)))))
    built_in_form at t name CAssert (more_values v no_values) give_all l i env ks w d e = holds_step (λ x w. MaybeFound variables head held (truth_found env (assess c v env)) x) n w _ d.few (λ m less.
        holds_last (ArgumentsGiven ks (more_values v no_values) env) (λ x w. MaybeFound variables head held (truth_found env (assess c v env)) x) (evaluate_all s held (more_values v no_values) (record w { left = m })) _
        (give_all env ks (record w { left = m }) (stepped env ks w m d less) (in_built_in c at t name CAssert (more_values v no_values) env e)) (λ xs u g. asserted_found v env xs d.describes g.holds))
    built_in_form at t name Free (more_values v no_values) give_all l i env ks w d e = any_form at t (built_in name Free (more_values v no_values)) i env ks w d
    built_in_form at t name Malloc vs give_all l i env ks w d e = any_form at t (built_in name Malloc vs) i env ks w d
    built_in_form at t name Calloc vs give_all l i env ks w d e = any_form at t (built_in name Calloc vs) i env ks w d
    built_in_form at t name Assert no_values give_all l i env ks w d e = absurd l
    built_in_form at t name Assert (more_values v vs) give_all l i env ks w d e = absurd l
    built_in_form at t name Getchar (more_values v vs) give_all l i env ks w d e = absurd l
    built_in_form at t name Putchar no_values give_all l i env ks w d e = absurd l
    built_in_form at t name Putchar (more_values v (more_values u vs)) give_all l i env ks w d e = absurd l
    built_in_form at t name CAssert no_values give_all l i env ks w d e = absurd l
    built_in_form at t name CAssert (more_values v (more_values u vs)) give_all l i env ks w d e = absurd l
    built_in_form at t name Free no_values give_all l i env ks w d e = absurd l
    built_in_form at t name Free (more_values v (more_values u vs)) give_all l i env ks w d e = absurd l

    -- ## All forms

    mutual
      pub finds : (v : PlainValue) → IsWholeValue around_it v → Finds v
      finds (value at t form) i env ks w d e = holds_last (λ x w. MaybeFound variables head held (assess_form c t form env) x) (λ x w. FoundHolds variables head held (assess_form c t form env) x) (perform s held at t form w) _
          (finds_form at t form i env ks w d e) (λ x u h. used_found (assess_form c t form env) x at.span u h)

      pub discards : (v : PlainValue) → IsWholeValue around_it v → Discards v
      discards (value at t form) i env ks w d e = finds_form at t form i env ks w d e

      finds_form : (at : At) (t : PlainType) (form : PlainForm) → IsWholeForm around_it t form → (env : Environment) (ks : List Kind) (w : State) → IsDescribed p n variables env head held ks w → failing_in c (value at t form) env ≡ [] →
          HoldsOf (λ x w. MaybeFound variables head held (assess_form c t form env) x) (perform s held at t form w)
      finds_form at t (constant z) i env ks w d e = found_form (Some (only_range (from_to z z))) at t (constant z) i env ks w d
          (holds_step (λ x w. IsHeldSo variables head held (Some (only_range (from_to z z))) x) n w _ d.few (λ l less. record { member = itself z; offset = tt }))
      finds_form at t (read (place there u (variable k))) i env ks w d e = variable_form at there t u k i env ks w d (known env k) refl
      finds_form at t (read (place there u (global k))) i env ks w d e = any_form at t (read (place there u (global k))) i env ks w d
      finds_form at t (read (place there u (literal k bytes))) i env ks w d e = any_form at t (read (place there u (literal k bytes))) i env ks w d
      finds_form at t (read (place there u (index a b))) i env ks w d e = any_form at t (read (place there u (index a b))) i env ks w d
      finds_form at t (read (place there u (member q m))) i env ks w d e = any_form at t (read (place there u (member q m))) i env ks w d
      finds_form at t (read (place there u (dereference v))) i env ks w d e = any_form at t (read (place there u (dereference v))) i env ks w d
      finds_form at t (sense k) i env ks w d e = any_form at t (sense k) i env ks w d
      finds_form at t (address q) i env ks w d e = any_form at t (address q) i env ks w d
      finds_form at t (decay q) i env ks w d e = any_form at t (decay q) i env ks w d
      finds_form at t (convert v) i env ks w d e = convert_form at t v i.0 (finds v i.0) i.1 i env ks w d (in_convert c at t v env e)
      finds_form at t (cast v) i env ks w d e = cast_form at t v i.0 (finds v i.0) (discards v i.0) i.1 i env ks w d (in_cast c at t v env e)
      finds_form at t (unary op v) i env ks w d e = unary_form at t op v i.0 (finds v i.0) i env ks w d (in_unary c at t op v env e)
      finds_form at t (binary op a b) i env ks w d e = binary_form at t op a b i.0 i.1 (finds a i.0) (finds b i.1) i env ks w d e
      finds_form at t (logic op a b) i env ks w d e = logic_form at t op a b i.0 i.1 (finds a i.0) (finds b i.1) env ks w d e
      finds_form at t (conditional v a b) i env ks w d e = conditional_form at t v a b i.0 i.1 i.2 (finds v i.0) (finds a i.1) (finds b i.2) i env ks w d e
      finds_form at t (call name k arguments) i env ks w d e = call_form at t name k arguments (all_give arguments i.0) i env ks w d e
      finds_form at t (built_in name f arguments) i env ks w d e = built_in_form at t name f arguments (all_give arguments i.0) i.1 i env ks w d e

      pub all_give : (vs : PlainValues) → AreWholeValues around_it vs → AllGive vs
      all_give no_values i = no_values_given
      all_give (more_values v vs) i = values_given v vs i.0 (finds v i.0) (all_give vs i.1)
