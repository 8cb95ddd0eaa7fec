-- Which elements lists have.
use Rattle.std.proofs.Common.{◌≡◌, List, [], ◌∷◌, Bool, true, false, refl, sym, ◌∙◌, ap, subst, arith, cond, ◌⊎◌, inl, inr}
use Rattle.std.specs.List.{Contains, flat_map, filter}
use Rattle.std.proofs.lemmas.List.Elements.{Contains-append_left, Contains-append_right, Contains-push, Contains-push_cases, Contains-append_cases}

pub none_in : {A : Type 0} (x : A) → Contains [] x → ⊥
none_in x (k, below, is) = absurd (omega (arith, below))

pub here : {A : Type 0} (x : A) (xs : List A) → Contains (x ∷ xs) x
here x xs = Contains-append_left (x ∷ []) xs x (Contains-push [] x)

pub there : {A : Type 0} (y : A) (xs : List A) (x : A) → Contains xs x → Contains (y ∷ xs) x
there y xs x h = Contains-append_right (y ∷ []) xs x h

pub lone : {A : Type 0} (y x : A) → Contains (y ∷ []) x → y ≡ x
lone y x h = elim (Contains-push_cases [] y x h) [ inl none ↦ absurd (none_in x none) | inr same ↦ same ]

pub first_or_later : {A : Type 0} (y : A) (xs : List A) (x : A) → Contains (y ∷ xs) x → (y ≡ x) ⊎ Contains xs x
first_or_later y xs x h = elim (Contains-append_cases (y ∷ []) xs x h) [ inl first ↦ inl (lone y x first) | inr later ↦ inr later ]

-- ## Lists that are joined

pub in_pieces : {A B : Type 0} (f : A → List B) (xs : List A) (y : B) → Contains (flat_map f xs) y → (x : A) × Contains xs x × Contains (f x) y
in_pieces f [] y held = absurd (none_in y held)
in_pieces f (x ∷ xs) y held =
    elim (Contains-append_cases (f x) (flat_map f xs) y held) [
      | inl first ↦ (x, here x xs, first)
      | inr later ↦ let found = in_pieces f xs y later in (found.0, there x xs found.0 found.1, found.2)
    ]

pub piece_in : {A B : Type 0} (f : A → List B) (xs : List A) (x : A) (y : B) → Contains xs x → Contains (f x) y → Contains (flat_map f xs) y
piece_in f [] x y held in' = absurd (none_in x held)
piece_in f (z ∷ xs) x y held in' =
    elim (first_or_later z xs x held) [
      | inl same ↦ Contains-append_left (f z) (flat_map f xs) y (subst (λ w. Contains (f w) y) (sym same) in')
      | inr later ↦ Contains-append_right (f z) (flat_map f xs) y (piece_in f xs x y later in')
    ]

-- ## Elements that pass a test

pub passing : {A : Type 0} (test : A → Bool) (xs : List A) (x : A) → Contains (filter test xs) x → Contains xs x × (test x ≡ true)
passing test [] x held = absurd (none_in x held)
passing {A} test (y ∷ xs) x held =
    elim (test y) as (λ b. test y ≡ b → Contains (cond b (y ∷ filter test xs) (filter test xs)) x → Contains (y ∷ xs) x × (test x ≡ true)) [
      | true ↦ λ passes held. elim (first_or_later y (filter test xs) x held) [
        | inl same ↦ (subst (Contains (y ∷ xs)) same (here y xs), subst (λ z. test z ≡ true) same passes)
        | inr later ↦ let found = passing test xs x later in (there y xs x found.0, found.1)
      ]
      | false ↦ λ fails held. let found = passing test xs x held in (there y xs x found.0, found.1)
    ] refl held

pub passes : {A : Type 0} (test : A → Bool) (xs : List A) (x : A) → Contains xs x → test x ≡ true → Contains (filter test xs) x
passes test [] x held is = absurd (none_in x held)
passes {A} test (y ∷ xs) x held is =
    elim (first_or_later y xs x held) [
      | inl same ↦ subst (λ b. Contains (cond b (y ∷ filter test xs) (filter test xs)) x) (sym (ap test same ∙ is)) (subst (Contains (y ∷ filter test xs)) same (here y (filter test xs)))
      | inr later ↦ elim (test y) as (λ b. Contains (cond b (y ∷ filter test xs) (filter test xs)) x)
          [ true ↦ there y (filter test xs) x (passes test xs x later is) | false ↦ passes test xs x later is ]
    ]
