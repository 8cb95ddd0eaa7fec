-- Which elements lists have.
use Rattle.std.proofs.Common.{◌≡◌, List, [], ◌∷◌, map, Bool, true, false, cond, Option, Some, None, refl, sym, ◌∙◌, ap, subst, arith, ◌⊎◌, inl, inr}
use Rattle.std.specs.Option.{option_to_list}
use Rattle.std.specs.List.{Contains, filter, filter_map, cons_option}
use Rattle.std.proofs.lemmas.List.Elements.{Contains-append_left, Contains-append_right, Contains-push, Contains-push_cases, Contains-append_cases}
use Rattle.p10_calls.specs.Selections.{AreThose}

pub none_in : {A : Type 0} (x : A) → Contains [] x → ⊥
none_in x (k, below, is) = absurd (omega (arith, below))

pub here : {A : Type 0} (x : A) (xs : List A) → Contains (x ∷ xs) x
here x xs = Contains-append_left (x ∷ []) xs x (Contains-push [] x)

pub there : {A : Type 0} (y : A) (xs : List A) (x : A) → Contains xs x → Contains (y ∷ xs) x
there y xs x h = Contains-append_right (y ∷ []) xs x h

pub lone : {A : Type 0} (y x : A) → Contains (y ∷ []) x → y ≡ x
lone y x h = elim (Contains-push_cases [] y x h) [ inl none ↦ absurd (none_in x none) | inr same ↦ same ]

pub first_or_later : {A : Type 0} (y : A) (xs : List A) (x : A) → Contains (y ∷ xs) x → (y ≡ x) ⊎ Contains xs x
first_or_later y xs x h = elim (Contains-append_cases (y ∷ []) xs x h) [ inl first ↦ inl (lone y x first) | inr later ↦ inr later ]

-- ## Elements that a function keeps

pub kept : {A B : Type 0} (f : A → Option B) (xs : List A) (x : A) (y : B) → Contains xs x → f x ≡ Some y → Contains (filter_map f xs) y
kept f [] x y held e = absurd (none_in x held)
kept f (z ∷ xs) x y held e =
    elim (first_or_later z xs x held) [
      | inl same ↦ subst (λ o. Contains (cons_option o (filter_map f xs)) y) (sym (ap f same ∙ e)) (here y (filter_map f xs))
      | inr later ↦ elim (f z) as (λ o. Contains (cons_option o (filter_map f xs)) y)
          [ None ↦ kept f xs x y later e | Some w ↦ there w (filter_map f xs) y (kept f xs x y later e) ]
    ]

pub came_from : {A B : Type 0} (f : A → Option B) (xs : List A) (y : B) → Contains (filter_map f xs) y → (x : A) × Contains xs x × (f x ≡ Some y)
came_from f [] y held = absurd (none_in y held)
came_from {A} f (z ∷ xs) y held =
    elim (f z) as (λ o. f z ≡ o → Contains (cons_option o (filter_map f xs)) y → (x : A) × Contains (z ∷ xs) x × (f x ≡ Some y)) [
      | None ↦ λ e held. let found = came_from f xs y held in (found.0, there z xs found.0 found.1, found.2)
      | Some w ↦ λ e held. elim (first_or_later w (filter_map f xs) y held) [
        | inl same ↦ (z, here z xs, e ∙ ap Some same)
        | inr later ↦ let found = came_from f xs y later in (found.0, there z xs found.0 found.1, found.2)
      ]
    ] refl held

pub only_one : {A B : Type 0} (f : A → Option B) (x : A) → option_to_list (f x) ≡ filter_map f (x ∷ [])
only_one f x = elim (f x) as (λ o. option_to_list o ≡ cons_option o []) [ None ↦ refl | Some y ↦ refl ]

pub mapped : {A B : Type 0} (f : A → B) (xs : List A) (x : A) → Contains xs x → Contains (map f xs) (f x)
mapped f [] x held = absurd (none_in x held)
mapped f (z ∷ xs) x held =
    elim (first_or_later z xs x held) [
      | inl same ↦ subst (λ w. Contains (f z ∷ map f xs) (f w)) same (here (f z) (map f xs))
      | inr later ↦ there (f z) (map f xs) (f x) (mapped f xs x later)
    ]

pub mapped_from : {A B : Type 0} (f : A → B) (xs : List A) (y : B) → Contains (map f xs) y → (x : A) × Contains xs x × (f x ≡ y)
mapped_from f [] y held = absurd (none_in y held)
mapped_from f (z ∷ xs) y held =
    elim (first_or_later (f z) (map f xs) y held) [
      | inl same ↦ (z, here z xs, same)
      | inr later ↦ let found = mapped_from f xs y later in (found.0, there z xs found.0 found.1, found.2)
    ]

-- ## Elements that pass a test

pub passes : {A : Type 0} (test : A → Bool) (xs : List A) (x : A) → Contains xs x → test x ≡ true → Contains (filter test xs) x
passes test [] x held e = absurd (none_in x held)
passes test (z ∷ xs) x held e =
    elim (first_or_later z xs x held) [
      | inl same ↦ subst (λ b. Contains (cond b (z ∷ filter test xs) (filter test xs)) x) (sym (ap test same ∙ e)) (subst (λ w. Contains (z ∷ filter test xs) w) same (here z (filter test xs)))
      | inr later ↦ elim (test z) as (λ b. Contains (cond b (z ∷ filter test xs) (filter test xs)) x)
          [ true ↦ there z (filter test xs) x (passes test xs x later e) | false ↦ passes test xs x later e ]
    ]

pub passed : {A : Type 0} (test : A → Bool) (xs : List A) (x : A) → Contains (filter test xs) x → Contains xs x × (test x ≡ true)
passed test [] x held = absurd (none_in x held)
passed test (z ∷ xs) x held =
    elim (test z) as (λ b. test z ≡ b → Contains (cond b (z ∷ filter test xs) (filter test xs)) x → Contains (z ∷ xs) x × (test x ≡ true)) [
      | true ↦ λ e held. elim (first_or_later z (filter test xs) x held) [
        | inl same ↦ (subst (λ w. Contains (z ∷ xs) w) same (here z xs), ap test (sym same) ∙ e)
        | inr later ↦ let found = passed test xs x later in (there z xs x found.0, found.1)
      ]
      | false ↦ λ e held. let found = passed test xs x held in (there z xs x found.0, found.1)
    ] refl held

one_test : (a b : Bool) → ((a ≡ true) → (b ≡ true)) → ((b ≡ true) → (a ≡ true)) → a ≡ b
one_test true b there back = sym (there refl)
one_test false true there back = back refl
one_test false false there back = refl

filter_same : {A : Type 0} (s t : A → Bool) (xs : List A) → ((x : A) → Contains xs x → s x ≡ t x) → filter s xs ≡ filter t xs
filter_same s t [] same = refl
filter_same {A} s t (z ∷ xs) same =
    ap (λ b. cond b (z ∷ filter s xs) (filter s xs)) (same z (here z xs))
    ∙ ap (λ (rest : List A). cond (t z) (z ∷ rest) rest) (filter_same s t xs (λ x held. same x (there z xs x held)))

-- the elements of which a fact holds are one list
pub those_are_one : {A : Type 0} (P : A → Type 0) (all these others : List A) → AreThose P all these → AreThose P all others → these ≡ others
those_are_one P all these others first second =
    first.are
    ∙ filter_same first.test second.test all (λ x held. one_test (first.test x) (second.test x) (λ e. (second.exact x held).1 ((first.exact x held).0 e)) (λ e. (first.exact x held).1 ((second.exact x held).0 e)))
    ∙ sym second.are
