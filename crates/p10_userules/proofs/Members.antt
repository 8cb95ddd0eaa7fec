-- Which elements lists have.
use Rattle.std.proofs.Common.{◌≡◌, List, [], ◌∷◌, map, Bool, true, false, refl, sym, subst, arith, ◌⊎◌, inl, inr}
use Rattle.std.specs.List.{Contains, flat_map}
use Rattle.std.proofs.lemmas.List.Elements.{Contains-append_left, Contains-append_right, Contains-push, Contains-push_cases, Contains-append_cases}
use Rattle.p10_base.specs.declared.span.Span.{Span}
use Rattle.p10_base.specs.declared.report.Sub.{Sub}
use Rattle.p10_base.specs.declared.report.Violation.{Violation}
use Rattle.p10_userules.specs.private.Listing.{violation_where}

pub none_in : {A : Type 0} (x : A) → Contains [] x → ⊥
none_in x (k, below, is) = absurd (omega (arith, below))

pub here : {A : Type 0} (x : A) (xs : List A) → Contains (x ∷ xs) x
here x xs = Contains-append_left (x ∷ []) xs x (Contains-push [] x)

pub there : {A : Type 0} (y : A) (xs : List A) (x : A) → Contains xs x → Contains (y ∷ xs) x
there y xs x h = Contains-append_right (y ∷ []) xs x h

pub lone : {A : Type 0} (y x : A) → Contains (y ∷ []) x → y ≡ x
lone y x h = elim (Contains-push_cases [] y x h) [ inl none ↦ absurd (none_in x none) | inr same ↦ same ]

pub first_or_later : {A : Type 0} (y : A) (xs : List A) (x : A) → Contains (y ∷ xs) x → (y ≡ x) ⊎ Contains xs x
first_or_later y xs x h = elim (Contains-append_cases (y ∷ []) xs x h) [ inl first ↦ inl (lone y x first) | inr later ↦ inr later ]

-- ## Lists that are made of others

pub mapped : {A B : Type 0} (g : A → B) (xs : List A) (x : A) → Contains xs x → Contains (map g xs) (g x)
mapped g [] x held = absurd (none_in x held)
mapped g (y ∷ xs) x held =
    elim (first_or_later y xs x held) [
      | inl same ↦ subst (λ z. Contains (g y ∷ map g xs) (g z)) same (here (g y) (map g xs))
      | inr later ↦ there (g y) (map g xs) (g x) (mapped g xs x later)
    ]

pub from_mapped : {A B : Type 0} (g : A → B) (xs : List A) (y : B) → Contains (map g xs) y → (x : A) × Contains xs x × (g x ≡ y)
from_mapped g [] y held = absurd (none_in y held)
from_mapped g (x ∷ xs) y held =
    elim (first_or_later (g x) (map g xs) y held) [
      | inl same ↦ (x, here x xs, same)
      | inr later ↦ let found = from_mapped g xs y later in (found.0, there x xs found.0 found.1, found.2)
    ]

pub in_pieces : {A B : Type 0} (f : A → List B) (xs : List A) (y : B) → Contains (flat_map f xs) y → (x : A) × Contains xs x × Contains (f x) y
in_pieces f [] y held = absurd (none_in y held)
in_pieces f (x ∷ xs) y held =
    elim (Contains-append_cases (f x) (flat_map f xs) y held) [
      | inl first ↦ (x, here x xs, first)
      | inr later ↦ let found = in_pieces f xs y later in (found.0, there x xs found.0 found.1, found.2)
    ]

pub piece_in : {A B : Type 0} (f : A → List B) (xs : List A) (x : A) (y : B) → Contains xs x → Contains (f x) y → Contains (flat_map f xs) y
piece_in f [] x y held in' = absurd (none_in x held)
piece_in f (z ∷ xs) x y held in' =
    elim (first_or_later z xs x held) [
      | inl same ↦ Contains-append_left (f z) (flat_map f xs) y (subst (λ w. Contains (f w) y) (sym same) in')
      | inr later ↦ Contains-append_right (f z) (flat_map f xs) y (piece_in f xs x y later in')
    ]

-- ## One row

abbrev pub at_place : Sub → Span → Violation
at_place sub span = record { sub = sub; span = span }

pub row_is : (sub : Sub) (holds : Bool) (span : Span) (v : Violation) → Contains (violation_where sub holds span) v → (holds ≡ true) × (at_place sub span ≡ v)
row_is sub true span v held = (refl, lone (at_place sub span) v held)
row_is sub false span v held = absurd (none_in v held)

pub is_row : (sub : Sub) (holds : Bool) (span : Span) → holds ≡ true → Contains (violation_where sub holds span) (at_place sub span)
is_row sub holds span e = subst (λ b. Contains (violation_where sub b span) (at_place sub span)) (sym e) (here (at_place sub span) [])
