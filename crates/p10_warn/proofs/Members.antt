-- Which elements lists have.
use Rattle.std.proofs.Common.{◌≡◌, ℕ, ◌+◌, ◌<◌, List, [], ◌∷◌, ◌++◌, length, map, take, get_or, Bool, true, false, ◌||◌, bytes_eq, Option, Some, None, refl, sym, ◌∙◌, ap, subst, arith, ◌⊎◌, inl, inr}
use Rattle.std.specs.List.{Contains, list_any, filter_map, cons_option}
use Rattle.std.proofs.lemmas.List.{map-append, take_more}
use Rattle.std.proofs.lemmas.List.Elements.{Contains-append_left, Contains-append_right, Contains-push, Contains-push_cases, Contains-append_cases}
use Rattle.std.proofs.lemmas.Slice.Eq.{bytes_eq-Decides}
use Rattle.p10_base.specs.Words.{Text}
use Rattle.p10_warn.proofs.Booleans.{or_true}

pub none_in : {A : Type 0} (x : A) → Contains [] x → ⊥
none_in x (k, below, is) = absurd (omega (arith, below))

pub here : {A : Type 0} (x : A) (xs : List A) → Contains (x ∷ xs) x
here x xs = Contains-append_left (x ∷ []) xs x (Contains-push [] x)

pub there : {A : Type 0} (y : A) (xs : List A) (x : A) → Contains xs x → Contains (y ∷ xs) x
there y xs x h = Contains-append_right (y ∷ []) xs x h

pub lone : {A : Type 0} (y x : A) → Contains (y ∷ []) x → y ≡ x
lone y x h = elim (Contains-push_cases [] y x h) [ inl none ↦ absurd (none_in x none) | inr same ↦ same ]

pub first_or_later : {A : Type 0} (y : A) (xs : List A) (x : A) → Contains (y ∷ xs) x → (y ≡ x) ⊎ Contains xs x
first_or_later y xs x h = elim (Contains-append_cases (y ∷ []) xs x h) [ inl first ↦ inl (lone y x first) | inr later ↦ inr later ]

-- ## Tests of elements

pub any_is : {A : Type 0} (test : A → Bool) (xs : List A) → list_any test xs ≡ true → (x : A) × Contains xs x × (test x ≡ true)
any_is test [] e = absurd cc
any_is {A} test (y ∷ xs) e =
    elim (test y) as (λ b. test y ≡ b → (b || list_any test xs) ≡ true → (x : A) × Contains (y ∷ xs) x × (test x ≡ true)) [
      | true ↦ λ passes e. (y, here y xs, passes)
      | false ↦ λ no e. let found = any_is test xs e in (found.0, there y xs found.0 found.1, found.2)
    ] refl e

pub is_any : {A : Type 0} (test : A → Bool) (xs : List A) (x : A) → Contains xs x → test x ≡ true → list_any test xs ≡ true
is_any test [] x held passes = absurd (none_in x held)
is_any test (y ∷ xs) x held passes =
    elim (first_or_later y xs x held) [
      | inl same ↦ ap (λ b. b || list_any test xs) (ap test same ∙ passes)
      | inr later ↦ ap (λ b. test y || b) (is_any test xs x later passes) ∙ or_true (test y)
    ]

pub text_any : (text : Text) (texts : List Text) → Contains texts text → list_any (bytes_eq text) texts ≡ true
text_any text texts held = is_any (bytes_eq text) texts text held ((bytes_eq-Decides text text).1 refl)

pub any_text : (text : Text) (texts : List Text) → list_any (bytes_eq text) texts ≡ true → Contains texts text
any_text text texts e =
    let found = any_is (bytes_eq text) texts e in
    subst (Contains texts) (sym ((bytes_eq-Decides text found.0).0 found.2)) found.1

-- ## Elements that a function keeps

pub kept : {A B : Type 0} (f : A → Option B) (xs : List A) (x : A) (y : B) → Contains xs x → f x ≡ Some y → Contains (filter_map f xs) y
kept f [] x y held e = absurd (none_in x held)
kept f (z ∷ xs) x y held e =
    elim (first_or_later z xs x held) [
      | inl same ↦ subst (λ o. Contains (cons_option o (filter_map f xs)) y) (sym (ap f same ∙ e)) (here y (filter_map f xs))
      | inr later ↦ elim (f z) as (λ o. Contains (cons_option o (filter_map f xs)) y)
          [ None ↦ kept f xs x y later e | Some w ↦ there w (filter_map f xs) y (kept f xs x y later e) ]
    ]

pub came_from : {A B : Type 0} (f : A → Option B) (xs : List A) (y : B) → Contains (filter_map f xs) y → (x : A) × Contains xs x × (f x ≡ Some y)
came_from f [] y held = absurd (none_in y held)
came_from {A} f (z ∷ xs) y held =
    elim (f z) as (λ o. f z ≡ o → Contains (cons_option o (filter_map f xs)) y → (x : A) × Contains (z ∷ xs) x × (f x ≡ Some y)) [
      | None ↦ λ e held. let found = came_from f xs y held in (found.0, there z xs found.0 found.1, found.2)
      | Some w ↦ λ e held. elim (first_or_later w (filter_map f xs) y held) [
        | inl same ↦ (z, here z xs, e ∙ ap Some same)
        | inr later ↦ let found = came_from f xs y later in (found.0, there z xs found.0 found.1, found.2)
      ]
    ] refl held

-- ## One element more

pub mapped_more : {A B : Type 0} (f : A → B) (xs : List A) (i : ℕ) (d : A) → i < length xs → map f (take (i + 1) xs) ≡ map f (take i xs) ++ f (get_or xs i d) ∷ []
mapped_more f xs i d inside = ap (map f) (take_more xs i d inside) ∙ map-append f (take i xs) (get_or xs i d ∷ [])
