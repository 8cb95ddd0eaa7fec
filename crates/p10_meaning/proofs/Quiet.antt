-- Constant expressions open no objects.
use Rattle.std.proofs.Common.{◌≡◌, ℕ, zero, suc, ◌&&◌, cond, Bool, true, false, List, [], ◌∷◌, refl, Option, Some, None, is_some, Result, Ok, Err, ℤ}
use Rattle.std.specs.Prelude.{neg_ℤ, if◌then◌else◌}
use Rattle.p10_base.specs.declared.span.Span.{Span}
use Rattle.p10_base.specs.declared.at.At.{At}
use Rattle.p10_int.specs.declared.operators.Stop.{Stop}
use Rattle.p10_int.specs.declared.operators.BinOp.TheVariants.{Add, Sub, Mul, Div, Rem, Shl, Shr, And, Or, Xor, Lt, Gt, Le, Ge, Eq, Ne}
use Rattle.p10_core.specs.Types.{PlainType, void, integer, pointer, array, structure}
use Rattle.p10_core.specs.Typed.{PlainValue, value, type_of, at_of, PlainForm, constant, read, sense, address, decay, convert, cast, unary, binary, logic, conditional, call, built_in, PlainPlace, place, place_type, PlainPlaceForm, variable, global, literal, index, member, dereference, PlainWritten, one_scalar, scalars_of_text, PlainItem}
use Rattle.std.specs.List.{All}
use Rattle.std.proofs.lemmas.List.Elements.{All-head, All-tail}
use Rattle.p10_core.specs.WholePrograms.{IsStaticWritten}
use Rattle.p10_core.specs.Rows.{is_integer, is_pointer}
use Rattle.p10_core.specs.Constants.{first_of_parts, converted_part, inconstant_part, is_constant, fold, gives_zero, is_null}
use Rattle.p10_core.specs.Addresses.{Target as Aim, nowhere, in_array, moved, single_at, row_at, reached, constant_of, target_of, place_target, is_static_value}
use Rattle.p10_meaning.specs.States.{State, Progress, gives, ends, step_at, step, and_then, or_undefined}
use Rattle.p10_meaning.specs.Scalars.{is_true}
use Rattle.p10_meaning.specs.Values.{Setting, Held, Target, Variable, Sensor, Element, sensed_from, sensed, read_target, give, is_void, is_structure, is_decided, evaluate, discard, perform, locate, find_place}
use Rattle.p10_meaning.specs.Statements.{written_scalars, listed_scalars}

-- ## Trees without calls

abbrev mutual
  pub IsQuiet : PlainValue → Type 0
  IsQuiet (value at t form) = IsQuietForm form

  pub IsQuietForm : PlainForm → Type 0
  IsQuietForm (constant z) = Unit {0}
  IsQuietForm (read q) = IsQuietPlace q
  IsQuietForm (sense n) = Unit {0}
  IsQuietForm (address q) = IsQuietPlace q
  IsQuietForm (decay q) = IsQuietPlace q
  IsQuietForm (convert v) = IsQuiet v
  IsQuietForm (cast v) = IsQuiet v
  IsQuietForm (unary op v) = IsQuiet v
  IsQuietForm (binary op a b) = IsQuiet a × IsQuiet b
  IsQuietForm (logic op a b) = IsQuiet a × IsQuiet b
  IsQuietForm (conditional c a b) = IsQuiet c × IsQuiet a × IsQuiet b
  IsQuietForm (call name f arguments) = ⊥
  IsQuietForm (built_in name f arguments) = ⊥

  pub IsQuietPlace : PlainPlace → Type 0
  IsQuietPlace (place at t form) = IsQuietPlaceForm form

  pub IsQuietPlaceForm : PlainPlaceForm → Type 0
  IsQuietPlaceForm (variable n) = Unit {0}
  IsQuietPlaceForm (global n) = Unit {0}
  IsQuietPlaceForm (literal n bytes) = Unit {0}
  IsQuietPlaceForm (index a i) = IsQuiet a × IsQuiet i
  IsQuietPlaceForm (member q m) = IsQuietPlace q
  IsQuietPlaceForm (dereference v) = IsQuiet v

-- ## They open nothing

abbrev pub OpensBy : {A : Type 0} → ℕ → Progress A → Type 0
OpensBy n (gives a w) = w.opened ≡ n
OpensBy n (ends end w) = w.opened ≡ n

-- as many objects are opened at the end
pub record Opens {A : Type 0} (n : ℕ) (o : Progress A) : Type 0 where
  pub same : OpensBy n o

here : {A : Type 0} (n : ℕ) (a : A) (w : State) → w.opened ≡ n → Opens n (gives a w)
here n a w e = record { same = e }

opens_step_at : {A : Type 0} (n l : ℕ) (w : State) (go : State → Progress A) → w.opened ≡ n → ((m : ℕ) → Opens n (go (record w { left = m }))) → Opens n (step_at l w go)
opens_step_at n zero w go e h = record { same = e }
opens_step_at n (suc m) w go e h = h m

opens_step : {A : Type 0} (n : ℕ) (w : State) (go : State → Progress A) → w.opened ≡ n → ((m : ℕ) → Opens n (go (record w { left = m }))) → Opens n (step w go)
opens_step n w go e h = opens_step_at n w.left w go e h

opens_then : {A B : Type 0} (n : ℕ) (o : Progress A) (go : A → State → Progress B) → Opens n o → ((a : A) (w : State) → w.opened ≡ n → Opens n (go a w)) → Opens n (and_then o go)
opens_then n (gives a w) go e h = h a w e.same
opens_then n (ends end w) go e h = record { same = e.same }

opens_or : {A B : Type 0} (n : ℕ) (r : Result A Stop) (span : Span) (w : State) (go : A → Progress B) → w.opened ≡ n → ((a : A) → Opens n (go a)) → Opens n (or_undefined r span w go)
opens_or n (Ok a) span w go e h = h a
opens_or n (Err stop) span w go e h = record { same = e }

opens_if : {A : Type 0} (n : ℕ) (b : Bool) (x y : Progress A) → Opens n x → Opens n y → Opens n (cond b x y)
opens_if n true x y f g = f
opens_if n false x y f g = g

opens_sensed : (n : ℕ) (sensors : List ℤ) (t : PlainType) (w : State) → w.opened ≡ n → Opens n (sensed_from sensors t w)
opens_sensed n [] t w e = record { same = e }
opens_sensed n (z ∷ sensors) t w e = record { same = e }

opens_read : (n : ℕ) (span : Span) (t : PlainType) (held : List Held) (target : Target) (w : State) → w.opened ≡ n → Opens n (read_target span t held target w)
opens_read n span t held (Variable k) w e = opens_or n _ span w _ e (λ x. here n x w e)
opens_read n span t held Sensor w e = opens_sensed n w.sensors t w e
opens_read n span t held (Element q) w e = opens_or n _ span w _ e (λ x. here n x w e)

module _ (s : Setting) (held : List Held) (n : ℕ) where
  mutual
    pub evaluate_opens : (v : PlainValue) → IsQuiet v → (w : State) → w.opened ≡ n → Opens n (evaluate s held v w)
    evaluate_opens (value at t form) q w e = opens_then n (perform s held at t form w) _ (perform_opens at t form q w e) (λ x w e. opens_or n _ at.span w _ e (λ x. here n _ w e))

    discard_opens : (v : PlainValue) → IsQuiet v → (w : State) → w.opened ≡ n → Opens n (discard s held v w)
    discard_opens (value at t form) q w e = perform_opens at t form q w e

    perform_opens : (at : At) (t : PlainType) (form : PlainForm) → IsQuietForm form → (w : State) → w.opened ≡ n → Opens n (perform s held at t form w)
    perform_opens at t (constant z) q w e = opens_step n w _ e (λ m. here n _ (record w { left = m }) e)
    perform_opens at t (read p) q w e = opens_step n w _ e (λ m. opens_then n (locate s held p (record w { left = m })) _ (locate_opens p q (record w { left = m }) e) (λ target w e.
        opens_if n (is_structure t) _ _ (here n _ w e) (opens_then n (read_target _ t held target w) give (opens_read n _ t held target w e) (λ x w e. here n _ w e))))
    perform_opens at t (sense k) q w e = opens_step n w _ e (λ m. opens_then n (sensed t (record w { left = m })) give (opens_sensed n w.sensors t (record w { left = m }) e) (λ x w e. here n _ w e))
    perform_opens at t (address p) q w e = opens_step n w _ e (λ m. opens_then n (locate s held p (record w { left = m })) _ (locate_opens p q (record w { left = m }) e) (λ target w e. here n _ w e))
    perform_opens at t (decay p) q w e = opens_step n w _ e (λ m. opens_then n (locate s held p (record w { left = m })) _ (locate_opens p q (record w { left = m }) e) (λ target w e. opens_or n _ at.span w _ e (λ r. here n _ w e)))
    perform_opens at t (convert v) q w e = opens_then n (evaluate s held v w) _ (evaluate_opens v q w e) (λ x w e. here n _ w e)
    perform_opens at t (cast v) q w e = opens_step n w _ e (λ m. opens_if n (is_void t) _ _
        (opens_then n (discard s held v (record w { left = m })) _ (discard_opens v q (record w { left = m }) e) (λ x w e. here n _ w e))
        (opens_then n (evaluate s held v (record w { left = m })) _ (evaluate_opens v q (record w { left = m }) e) (λ x w e. here n _ w e)))
    perform_opens at t (unary op v) q w e = opens_step n w _ e (λ m. opens_then n (evaluate s held v (record w { left = m })) _ (evaluate_opens v q (record w { left = m }) e) (λ x w e. opens_or n _ at.span w _ e (λ z. here n _ w e)))
    perform_opens at t (binary op a b) q w e = opens_step n w _ e (λ m. opens_then n (evaluate s held a (record w { left = m })) _ (evaluate_opens a q.0 (record w { left = m }) e) (λ x w e.
        opens_then n (evaluate s held b w) _ (evaluate_opens b q.1 w e) (λ y w e. opens_or n _ at.span w _ e (λ z. here n _ w e))))
    perform_opens at t (logic op a b) q w e = opens_step n w _ e (λ m. opens_then n (evaluate s held a (record w { left = m })) _ (evaluate_opens a q.0 (record w { left = m }) e) (λ x w e.
        opens_if n (is_decided op (is_true x)) _ _ (here n _ w e) (opens_then n (evaluate s held b w) _ (evaluate_opens b q.1 w e) (λ y w e. here n _ w e))))
    perform_opens at t (conditional c a b) q w e = opens_step n w _ e (λ m. opens_then n (evaluate s held c (record w { left = m })) _ (evaluate_opens c q.0 (record w { left = m }) e) (λ x w e.
        opens_then n (if is_true x then evaluate s held a w else evaluate s held b w) give (opens_if n (is_true x) _ _ (evaluate_opens a q.1 w e) (evaluate_opens b q.2 w e)) (λ y w e. here n _ w e)))
    perform_opens at t (call name f arguments) q w e = absurd q
    perform_opens at t (built_in name f arguments) q w e = absurd q

    locate_opens : (p : PlainPlace) → IsQuietPlace p → (w : State) → w.opened ≡ n → Opens n (locate s held p w)
    locate_opens (place at t form) q w e = find_opens at t form q w e

    find_opens : (at : At) (t : PlainType) (form : PlainPlaceForm) → IsQuietPlaceForm form → (w : State) → w.opened ≡ n → Opens n (find_place s held at t form w)
    find_opens at t (variable k) q w e = opens_or n _ at.span w _ e (λ target. here n _ w e)
    find_opens at t (global k) q w e = opens_or n _ at.span w _ e (λ target. here n _ w e)
    find_opens at t (literal k bytes) q w e = opens_or n _ at.span w _ e (λ target. here n _ w e)
    find_opens at t (index a i) q w e = opens_step n w _ e (λ m. opens_then n (evaluate s held a (record w { left = m })) _ (evaluate_opens a q.0 (record w { left = m }) e) (λ x w e.
        opens_then n (evaluate s held i w) _ (evaluate_opens i q.1 w e) (λ y w e. opens_or n _ at.span w _ e (λ r. here n _ w e))))
    find_opens at t (member p k) q w e = opens_step n w _ e (λ m. opens_then n (locate s held p (record w { left = m })) _ (locate_opens p q (record w { left = m }) e) (λ target w e. opens_or n _ at.span w _ e (λ r. here n _ w e)))
    find_opens at t (dereference v) q w e = opens_step n w _ e (λ m. opens_then n (evaluate s held v (record w { left = m })) _ (evaluate_opens v q (record w { left = m }) e) (λ x w e. opens_or n _ at.span w _ e (λ object. here n _ w e)))

-- ## Constant expressions are such trees

both_true : (a b : Bool) → (a && b) ≡ true → (a ≡ true) × (b ≡ true)
both_true true b e = (refl, e)
both_true false b e = absurd cc

first_constant : (a b : Option At) → is_constant (first_of_parts a b) ≡ true → (is_constant a ≡ true) × (is_constant b ≡ true)
first_constant None b e = (refl, e)
first_constant (Some at) b e = absurd cc

converted_constant : (at : At) (t : PlainType) (part : Option At) → is_constant (converted_part at t part) ≡ true → is_constant part ≡ true
converted_constant at (integer c i) part e = e
converted_constant at (void c) part e = absurd cc
converted_constant at (pointer c t) part e = absurd cc
converted_constant at (array c t n) part e = absurd cc
converted_constant at (structure c n) part e = absurd cc

constant_quiet : (v : PlainValue) → is_constant (inconstant_part v) ≡ true → IsQuiet v
constant_quiet (value at t (constant z)) e = tt
constant_quiet (value at t (read q)) e = absurd cc
constant_quiet (value at t (sense n)) e = tt
constant_quiet (value at t (address q)) e = absurd cc
constant_quiet (value at t (decay q)) e = absurd cc
constant_quiet (value at t (convert v)) e = constant_quiet v (converted_constant at t (inconstant_part v) e)
constant_quiet (value at t (cast v)) e = constant_quiet v (converted_constant at t (inconstant_part v) e)
constant_quiet (value at t (unary op v)) e = constant_quiet v e
constant_quiet (value at t (binary op a b)) e = let h = first_constant (inconstant_part a) (inconstant_part b) e in (constant_quiet a h.0, constant_quiet b h.1)
constant_quiet (value at t (logic op a b)) e = let h = first_constant (inconstant_part a) (inconstant_part b) e in (constant_quiet a h.0, constant_quiet b h.1)
constant_quiet (value at t (conditional c a b)) e =
    let h = first_constant (inconstant_part c) (first_of_parts (inconstant_part a) (inconstant_part b)) e in
    let k = first_constant (inconstant_part a) (inconstant_part b) h.1 in (constant_quiet c h.0, constant_quiet a k.0, constant_quiet b k.1)
constant_quiet (value at t (call name f arguments)) e = absurd cc
constant_quiet (value at t (built_in name f arguments)) e = absurd cc

abbrev is_ok : Result ℤ At → Bool
is_ok (Ok z) = true
is_ok (Err at) = false

ok_constant : (v : PlainValue) (z : ℤ) → constant_of v ≡ Ok z → IsQuiet v
ok_constant v z e = case (is_integer (type_of v) && is_constant (inconstant_part v)) refl e
  where
    case : (b : Bool) → (is_integer (type_of v) && is_constant (inconstant_part v)) ≡ b → (if b then fold v else Err (at_of v)) ≡ Ok z → IsQuiet v
    case true h e = constant_quiet v (both_true (is_integer (type_of v)) (is_constant (inconstant_part v)) h).1
    case false h e = absurd cc

null_quiet : (v : PlainValue) → is_null v ≡ true → IsQuiet v
null_quiet v e = constant_quiet v (both_true (is_constant (inconstant_part v)) (gives_zero (fold v)) (both_true (is_integer (type_of v)) _ e).1).0

-- where a target is moved, there is one, and a number
moved_parts : (a : Option Aim) (r : Result ℤ At) → is_some (moved a r) ≡ true → (is_some a ≡ true) × ((z : ℤ) × (r ≡ Ok z))
moved_parts (Some (in_array length n)) (Ok z) e = (refl, (z, refl))
moved_parts (Some (in_array length n)) (Err at) e = absurd cc
moved_parts (Some nowhere) r e = absurd cc
moved_parts None r e = absurd cc

abbrev negative : Result ℤ At → Result ℤ At
negative (Ok z) = Ok (neg_ℤ z)
negative (Err at) = Err at

negative_parts : (v : PlainValue) (r : Result ℤ At) → constant_of v ≡ r → (z : ℤ) → negative r ≡ Ok z → IsQuiet v
negative_parts v (Ok y) e z h = ok_constant v y e
negative_parts v (Err at) e z h = absurd cc

row_parts : (t : PlainType) (a : Option Aim) → is_some (row_at t a) ≡ true → is_some a ≡ true
row_parts t (Some x) e = refl
row_parts (array c t n) None e = absurd cc
row_parts (void c) None e = absurd cc
row_parts (integer c i) None e = absurd cc
row_parts (pointer c t) None e = absurd cc
row_parts (structure c n) None e = absurd cc

single_parts : (a : Option Aim) → is_some (single_at a) ≡ true → is_some a ≡ true
single_parts (Some x) e = refl
single_parts None e = absurd cc

reached_parts : (a : Option Aim) → is_some (reached a) ≡ true → is_some a ≡ true
reached_parts (Some x) e = refl
reached_parts None e = absurd cc

by_null : (v : PlainValue) (b : Bool) (x : Option Aim) → is_null v ≡ b → (is_some x ≡ true → IsQuiet v) → is_some (if b then Some nowhere else x) ≡ true → IsQuiet v
by_null v true x h go e = null_quiet v h
by_null v false x h go e = go e

by_pointer : (b : Bool) (x y : Option Aim) (P : Type 0) → (is_some x ≡ true → P) → (is_some y ≡ true → P) → is_some (if b then x else y) ≡ true → P
by_pointer true x y P f g e = f e
by_pointer false x y P f g e = g e

mutual
  target_quiet : (v : PlainValue) → is_some (target_of v) ≡ true → IsQuiet v
  target_quiet (value at t (address q)) e = aim_quiet q e
  target_quiet (value at t (decay q)) e = aim_quiet q (row_parts (place_type q) (place_target q) e)
  target_quiet (value at t (convert v)) e = by_null v (is_null v) (target_of v) refl (target_quiet v) e
  target_quiet (value at t (cast v)) e = by_null v (is_null v) (target_of v) refl (target_quiet v) e
  target_quiet (value at t (binary Add a b)) e = by_pointer (is_pointer (type_of a)) (moved (target_of a) (constant_of b)) (moved (target_of b) (constant_of a)) (IsQuiet a × IsQuiet b)
      (λ e. let h = moved_parts (target_of a) (constant_of b) e in (target_quiet a h.0, ok_constant b h.1.0 h.1.1))
      (λ e. let h = moved_parts (target_of b) (constant_of a) e in (ok_constant a h.1.0 h.1.1, target_quiet b h.0)) e
  target_quiet (value at t (binary Sub a b)) e = let h = moved_parts (target_of a) (negative (constant_of b)) e in (target_quiet a h.0, negative_parts b (constant_of b) refl h.1.0 h.1.1)
  target_quiet (value at t (binary Mul a b)) e = absurd cc
  target_quiet (value at t (binary Div a b)) e = absurd cc
  target_quiet (value at t (binary Rem a b)) e = absurd cc
  target_quiet (value at t (binary Shl a b)) e = absurd cc
  target_quiet (value at t (binary Shr a b)) e = absurd cc
  target_quiet (value at t (binary And a b)) e = absurd cc
  target_quiet (value at t (binary Or a b)) e = absurd cc
  target_quiet (value at t (binary Xor a b)) e = absurd cc
  target_quiet (value at t (binary Lt a b)) e = absurd cc
  target_quiet (value at t (binary Gt a b)) e = absurd cc
  target_quiet (value at t (binary Le a b)) e = absurd cc
  target_quiet (value at t (binary Ge a b)) e = absurd cc
  target_quiet (value at t (binary Eq a b)) e = absurd cc
  target_quiet (value at t (binary Ne a b)) e = absurd cc
  target_quiet (value at t (constant z)) e = absurd cc
  target_quiet (value at t (read q)) e = absurd cc
  target_quiet (value at t (sense n)) e = absurd cc
  target_quiet (value at t (unary op v)) e = absurd cc
  target_quiet (value at t (logic op a b)) e = absurd cc
  target_quiet (value at t (conditional c a b)) e = absurd cc
  target_quiet (value at t (call name f arguments)) e = absurd cc
  target_quiet (value at t (built_in name f arguments)) e = absurd cc

  aim_quiet : (q : PlainPlace) → is_some (place_target q) ≡ true → IsQuietPlace q
  aim_quiet (place at t (variable n)) e = absurd cc
  aim_quiet (place at t (global n)) e = tt
  aim_quiet (place at t (literal n bytes)) e = tt
  aim_quiet (place at t (index a i)) e = let h = moved_parts (target_of a) (constant_of i) e in (target_quiet a h.0, ok_constant i h.1.0 h.1.1)
  aim_quiet (place at t (member q m)) e = aim_quiet q (single_parts (place_target q) e)
  aim_quiet (place at t (dereference v)) e = target_quiet v (reached_parts (target_of v) e)

-- an initialiser of static lifetime opens nothing
pub static_quiet : (v : PlainValue) → is_static_value v ≡ true → IsQuiet v
static_quiet v e = case (is_integer (type_of v)) e
  where
    ok_of : (r : Result ℤ At) → constant_of v ≡ r → is_ok r ≡ true → IsQuiet v
    ok_of (Ok z) h e = ok_constant v z h
    ok_of (Err at) h e = absurd cc

    case : (b : Bool) → (if b then is_ok (constant_of v) else is_some (target_of v)) ≡ true → IsQuiet v
    case true e = ok_of (constant_of v) refl e
    case false e = target_quiet v e

-- a list of such values opens nothing
written_opens : (s : Setting) (held : List Held) (n i : ℕ) (written : PlainWritten) → IsStaticWritten written → (w : State) → w.opened ≡ n → Opens n (written_scalars s held i written w)
written_opens s held n i (one_scalar v) q w e = opens_then n (evaluate s held v w) _ (evaluate_opens s held n v (static_quiet v q) w e) (λ x w e. here n _ w e)
written_opens s held n i (scalars_of_text bytes) q w e = here n _ w e

pub listed_opens : (s : Setting) (held : List Held) (n : ℕ) (items : List PlainItem) → All (λ (i : PlainItem). IsStaticWritten i.written) items → (w : State) → w.opened ≡ n → Opens n (listed_scalars s held items w)
listed_opens s held n [] q w e = here n _ w e
listed_opens s held n (item ∷ items) q w e =
    opens_then n (written_scalars s held item.scalar item.written w) _ (written_opens s held n item.scalar item.written (All-head (λ (i : PlainItem). IsStaticWritten i.written) item items q) w e) (λ xs w e.
    opens_then n (listed_scalars s held items w) _ (listed_opens s held n items (All-tail (λ (i : PlainItem). IsStaticWritten i.written) item items q) w e) (λ ys w e. here n _ w e))
