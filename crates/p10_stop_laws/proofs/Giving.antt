-- Used values are scalars, and only a call may end without one.
use Rattle.std.proofs.Common.{◌≡◌, ℕ, zero, suc, cond, ◌&&◌, Bool, true, false, List, [], ◌∷◌, refl, sym, ◌∙◌, ap, subst, Option, Some, None, Result, Ok, Err}
use Rattle.std.specs.Prelude.{All, ◌*◌, ltb, leb}
use Rattle.std.proofs.lemmas.List.Elements.{All-head, All-tail}
use Rattle.p10_base.specs.declared.span.Span.{Span}
use Rattle.p10_base.specs.declared.at.At.{At}
use Rattle.p10_int.specs.declared.operators.Stop.{Stop}
use Rattle.p10_int.specs.declared.operators.Stop.TheVariants.{U10}
use Rattle.p10_core.specs.declared.typed.Library.{Library}
use Rattle.p10_core.specs.declared.typed.Library.TheVariants.{Assert, CAssert, Getchar, Putchar, Malloc, Calloc, Free}
use Rattle.p10_core.specs.Types.{PlainType, void, integer, pointer, array, structure, bare, unqualified, PlainStructure}
use Rattle.p10_core.specs.Sizes.{repeated}
use Rattle.p10_core.specs.Rows.{is_scalar}
use Rattle.p10_core.specs.Typed.{PlainValue, value, type_of, PlainForm, constant, read, sense, address, decay, convert, cast, unary, binary, logic, conditional, call, built_in, place_at, place_type, PlainValues, no_values, more_values, PlainProgram}
use Rattle.p10_core.specs.Nodes.{a_value}
use Rattle.p10_core.specs.Whole.{Surroundings, Converts, integers, pointers, nulls, Casts, to_void, integers as cast_integers, nulls as cast_nulls, allocations, ArgumentsFit, CallsLibrary, IsWholeForm}
use Rattle.p10_meaning.specs.declared.pointers.Scalar.{Scalar}
use Rattle.p10_meaning.specs.declared.pointers.Cell.{Cell}
use Rattle.p10_meaning.specs.States.{State, AssertionFailed, Undefined, StepsSpent, Progress, gives, ends, step_at, step, and_then, or_undefined, counted}
use Rattle.p10_meaning.specs.Scalars.{is_true, operated, operated_unary, unset_cells, zero_cells}
use Rattle.p10_meaning.specs.Objects.{inner}
use Rattle.p10_meaning.specs.Values.{Setting, Held, pointer_to, width, size, scalars, element_type, element_count, sensed, read_target, next_byte, granted, requested, elements, pointee, library, used, give, is_void, is_structure, is_decided, is_denied, evaluate, perform, evaluate_all, locate}
use Rattle.p10_stop_laws.specs.Causes.{StopsWhere, NodeStops, lacks_value}

-- ## Types

bare_scalar : (ss : List PlainStructure) (t : PlainType) → is_scalar (bare ss t) ≡ is_scalar t
bare_scalar ss (void c) = refl
bare_scalar ss (integer c i) = refl
bare_scalar ss (pointer c t) = refl
bare_scalar ss (array c t n) = refl
bare_scalar ss (structure c n) = refl

-- types that are one, marks aside, are scalars or not together
pub alike_scalar : (ss : List PlainStructure) (s t : PlainType) → bare ss s ≡ bare ss t → is_scalar t ≡ true → is_scalar s ≡ true
alike_scalar ss s t e h = sym (bare_scalar ss s) ∙ (ap is_scalar e ∙ (bare_scalar ss t ∙ h))

pub unmarked_scalar : (t : PlainType) → is_scalar t ≡ true → is_scalar (unqualified t) ≡ true
unmarked_scalar (integer c i) h = refl
unmarked_scalar (pointer c t) h = refl
unmarked_scalar (void c) h = absurd cc
unmarked_scalar (array c t n) h = absurd cc
unmarked_scalar (structure c n) h = absurd cc

-- a type that is a scalar's
pub of_scalar : (s t : PlainType) → s ≡ t → is_scalar t ≡ true → is_scalar s ≡ true
of_scalar s t e h = ap is_scalar e ∙ h

pub converted_scalar : (t : PlainType) (v : PlainValue) → Converts t v → is_scalar (type_of v) ≡ true
converted_scalar t v (integers i j x e) = of_scalar (type_of v) (integer false j) e refl
converted_scalar t v (pointers a b x e q) = of_scalar (type_of v) (pointer false a) e refl
converted_scalar t v (nulls j b x e q) = of_scalar (type_of v) (integer false j) e refl

pub cast_scalar : (t : PlainType) (v : PlainValue) → Casts t v → is_void t ≡ false → is_scalar (type_of v) ≡ true
cast_scalar t v (to_void x) b = absurd cc
cast_scalar t v (cast_integers i j x e) b = of_scalar (type_of v) (integer false j) e refl
cast_scalar t v (cast_nulls j u x e q) b = of_scalar (type_of v) (integer false j) e refl
cast_scalar t v (allocations u x e q) b = of_scalar (type_of v) (pointer false u) e refl

-- the types of arguments are scalars
abbrev pub AreScalarValues : PlainValues → Type 0
AreScalarValues no_values = Unit {0}
AreScalarValues (more_values v vs) = (is_scalar (type_of v) ≡ true) × AreScalarValues vs

pub arguments_scalar : (c : Surroundings) (ts : List PlainType) (vs : PlainValues) → All (λ t. is_scalar t ≡ true) ts → ArgumentsFit c ts vs → AreScalarValues vs
arguments_scalar c [] no_values h a = tt
arguments_scalar c (t ∷ ts) (more_values v vs) h a =
    (alike_scalar c.structures (type_of v) t a.0 (All-head (λ t. is_scalar t ≡ true) t ts h), arguments_scalar c ts vs (All-tail (λ t. is_scalar t ≡ true) t ts h) a.1)
arguments_scalar c [] (more_values v vs) h a = absurd a
arguments_scalar c (t ∷ ts) no_values h a = absurd a

pub library_scalars : (c : Surroundings) (t : PlainType) (f : Library) (vs : PlainValues) → CallsLibrary c t f vs → AreScalarValues vs
library_scalars c t f no_values i = tt
library_scalars c t Putchar (more_values v no_values) i = (of_scalar (type_of v) _ i.1 refl, tt)
library_scalars c t CAssert (more_values v no_values) i = (i.1, tt)
library_scalars c t Free (more_values v no_values) i = (of_scalar (type_of v) _ i.1.1 refl, tt)
library_scalars c t Malloc (more_values v no_values) i = (of_scalar (type_of v) _ i.counted refl, tt)
library_scalars c t Calloc (more_values v no_values) i = (of_scalar (type_of v) _ i.counted refl, tt)
library_scalars c t Malloc (more_values v (more_values u vs)) i = absurd i.counted
library_scalars c t Calloc (more_values v (more_values u vs)) i = absurd i.counted
library_scalars c t Putchar (more_values v (more_values u vs)) i = absurd i
library_scalars c t CAssert (more_values v (more_values u vs)) i = absurd i
library_scalars c t Free (more_values v (more_values u vs)) i = absurd i
library_scalars c t Assert (more_values v vs) i = absurd i
library_scalars c t Getchar (more_values v vs) i = absurd i

-- ## What is given

-- where something is given, it is a value
abbrev pub GivesSome : Progress (Option Scalar) → Type 0
GivesSome (gives None w) = ⊥
GivesSome (gives (Some x) w) = Unit {0}
GivesSome (ends end w) = Unit {0}

some_step : (w : State) (go : State → Progress (Option Scalar)) → ((left : ℕ) → GivesSome (go (record w { left = left }))) → GivesSome (step w go)
some_step w go h = at w.left
  where
    at : (m : ℕ) → GivesSome (step_at m w go)
    at zero = tt
    at (suc m) = h m

some_then : {A : Type 0} (o : Progress A) (go : A → State → Progress (Option Scalar)) → ((a : A) (w : State) → GivesSome (go a w)) → GivesSome (and_then o go)
some_then (gives a w) go h = h a w
some_then (ends end w) go h = tt

some_or : {A : Type 0} (r : Result A Stop) (span : Span) (w : State) (go : A → Progress (Option Scalar)) → ((a : A) → GivesSome (go a)) → GivesSome (or_undefined r span w go)
some_or (Ok a) span w go h = h a
some_or (Err stop) span w go h = tt

some_if : (b : Bool) (x y : Progress (Option Scalar)) → (b ≡ true → GivesSome x) → (b ≡ false → GivesSome y) → GivesSome (cond b x y)
some_if true x y f g = f refl
some_if false x y f g = g refl

no_structure : (t : PlainType) → is_scalar t ≡ true → is_structure t ≡ true → ⊥
no_structure (structure c n) h e = cc
no_structure t h e = cc

no_void : (t : PlainType) → is_scalar t ≡ true → is_void t ≡ true → ⊥
no_void (void c) h e = cc
no_void t h e = cc

granted_some : (stride n : ℕ) (cells : List Cell) (w : State) → GivesSome (granted stride n cells w)
granted_some stride n cells w = some_if (is_denied w.denied w.requests) _ _ (λ e. tt) (λ e. tt)

requested_some : (p : PlainProgram) (t : PlainType) (n : ℕ) (fill : List PlainType → List Cell) (w : State) → GivesSome (requested p t n fill w)
requested_some p t n fill w =
    some_if (ltb 0 (n * size p t) && leb (n * size p t) 1048576) _ _
    (λ e. granted_some (width p t) n (fill (repeated n (scalars p t))) (record w { requests = suc w.requests })) (λ e. tt)

byte_some : (input : List ℕ) (w : State) → GivesSome (next_byte input w)
byte_some [] w = tt
byte_some (byte ∷ input) w = tt

library_some : (p : PlainProgram) (c : Surroundings) (t : PlainType) (f : Library) (span : Span) (vs : PlainValues) (xs : List Scalar) (w : State) → is_scalar t ≡ true → CallsLibrary c t f vs → GivesSome (library p f span t xs w)
library_some p c t Getchar span vs xs w h i = byte_some w.input w
library_some p c t Putchar span vs xs w h i = tt
library_some p c t CAssert span vs xs w h i = tt
library_some p c t Malloc span vs xs w h i = requested_some p (pointee t) (elements xs) unset_cells (counted w)
library_some p c t Calloc span vs xs w h i = requested_some p (pointee t) (elements xs) zero_cells (counted w)
library_some p c t Free span (more_values v no_values) xs w h i = absurd (let e : is_scalar (void false) ≡ true = subst (λ t. is_scalar t ≡ true) i.0 h in cc)
library_some p c t Free span no_values xs w h i = absurd i
library_some p c t Free span (more_values v (more_values u vs)) xs w h i = absurd i
library_some p c t Assert span no_values xs w h i = absurd i
library_some p c t Assert span (more_values v vs) xs w h i = absurd i

-- whether a form is a call of a defined function
abbrev pub is_call : PlainForm → Bool
is_call (call name k arguments) = true
is_call form = false

pub call_cause : (at : At) (t : PlainType) (form : PlainForm) → is_call form ≡ true → NodeStops (a_value (value at t form)) U10 at.span
call_cause at t (call name k arguments) e = lacks_value at t name k arguments
call_cause at t form e = absurd cc

-- a form of a scalar type that isn't such a call gives a value
pub form_some : (s : Setting) (held : List Held) (c : Surroundings) (at : At) (t : PlainType) (form : PlainForm) → IsWholeForm c t form → is_scalar t ≡ true → is_call form ≡ false → (w : State) → GivesSome (perform s held at t form w)
form_some s held c at t (constant z) i h n w = some_step w _ (λ m. tt)
form_some s held c at t (read q) i h n w = some_step w _ (λ m.
    some_then (locate s held q (record w { left = m })) _ (λ target w.
    some_if (is_structure t) _ _ (λ e. absurd (no_structure t h e)) (λ e. some_then (read_target (place_at q).span t held target w) give (λ x w. tt))))
form_some s held c at t (sense k) i h n w = some_step w _ (λ m. some_then (sensed t (record w { left = m })) give (λ x w. tt))
form_some s held c at t (address q) i h n w = some_step w _ (λ m. some_then (locate s held q (record w { left = m })) _ (λ target w. tt))
form_some s held c at t (decay q) i h n w = some_step w _ (λ m.
    some_then (locate s held q (record w { left = m })) _ (λ target w.
    some_or (inner w.objects (pointer_to target) 0 (width s.program (element_type (place_type q))) (element_count (place_type q))) at.span w _ (λ r. tt)))
form_some s held c at t (convert v) i h n w = some_then (evaluate s held v w) _ (λ x w. tt)
form_some s held c at t (cast v) i h n w = some_step w _ (λ m.
    some_if (is_void t) _ _ (λ e. absurd (no_void t h e)) (λ e. some_then (evaluate s held v (record w { left = m })) _ (λ x w. tt)))
form_some s held c at t (unary op v) i h n w = some_step w _ (λ m.
    some_then (evaluate s held v (record w { left = m })) _ (λ x w. some_or (operated_unary op t x) at.span w _ (λ z. tt)))
form_some s held c at t (binary op a b) i h n w = some_step w _ (λ m.
    some_then (evaluate s held a (record w { left = m })) _ (λ x w. some_then (evaluate s held b w) _ (λ y w. some_or (operated op t w.objects x y) at.span w _ (λ z. tt))))
form_some s held c at t (logic op a b) i h n w = some_step w _ (λ m.
    some_then (evaluate s held a (record w { left = m })) _ (λ x w.
    some_if (is_decided op (is_true x)) _ _ (λ e. tt) (λ e. some_then (evaluate s held b w) _ (λ y w. tt))))
form_some s held c at t (conditional v a b) i h n w = some_step w _ (λ m.
    some_then (evaluate s held v (record w { left = m })) _ (λ x w. some_then (cond (is_true x) (evaluate s held a w) (evaluate s held b w)) give (λ y w. tt)))
form_some s held c at t (call name k arguments) i h n w = absurd cc
form_some s held c at t (built_in name k arguments) i h n w = some_step w _ (λ m.
    some_then (evaluate_all s held arguments (record w { left = m })) _ (λ xs w. library_some s.program c t k at.span arguments xs w h i.1))

-- ## Used values

-- a value that is given is used
pub used_given : (P : Stop → Span → Type 0) (span : Span) (o : Progress (Option Scalar)) → GivesSome o → StopsWhere P o → StopsWhere P (and_then o (λ x w. or_undefined (used x) span w (λ x. gives x w)))
used_given P span (gives None w) g s = absurd g
used_given P span (gives (Some x) w) g s = tt
used_given P span (ends (Undefined stop at) w) g s = s
used_given P span (ends (AssertionFailed at) w) g s = tt
used_given P span (ends StepsSpent w) g s = tt

-- what is used, where it may be none
pub used_maybe : (P : Stop → Span → Type 0) (span : Span) (o : Progress (Option Scalar)) → P U10 span → StopsWhere P o → StopsWhere P (and_then o (λ x w. or_undefined (used x) span w (λ x. gives x w)))
used_maybe P span (gives None w) g s = g
used_maybe P span (gives (Some x) w) g s = tt
used_maybe P span (ends (Undefined stop at) w) g s = s
used_maybe P span (ends (AssertionFailed at) w) g s = tt
used_maybe P span (ends StepsSpent w) g s = tt
