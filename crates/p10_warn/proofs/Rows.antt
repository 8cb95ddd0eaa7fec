-- One row, and lists that are joined.
use Rattle.std.proofs.Common.{◌≡◌, ℕ, List, [], ◌∷◌, Bool, true, false, refl, sym, subst, inl, inr}
use Rattle.std.specs.List.{Contains, flat_map}
use Rattle.std.proofs.lemmas.List.Elements.{Contains-append_left, Contains-append_right, Contains-append_cases}
use Rattle.p10_base.specs.declared.span.Span.{Span}
use Rattle.p10_base.specs.declared.report.Violation.{Violation}
use Rattle.p10_core.specs.Typed.{PlainProgram}
use Rattle.p10_warn.specs.Violations.{Violates, rule_ten}
use Rattle.p10_warn.specs.private.Listing.{listed_if}
use Rattle.p10_warn.proofs.Members.{none_in, here, first_or_later, lone}

-- a violation is one of the program
abbrev pub Breaks : PlainProgram → Violation → Type 0
Breaks p v = Violates p v.sub v.span

-- the violation of a row of rule 10 at a place
abbrev pub row_at : ℕ → Span → Violation
row_at n span = record { sub = rule_ten n; span = span }

pub row_is : (n : ℕ) (holds : Bool) (span : Span) (v : Violation) → Contains (listed_if n holds span) v → (holds ≡ true) × (row_at n span ≡ v)
row_is n true span v held = (refl, lone (row_at n span) v held)
row_is n false span v held = absurd (none_in v held)

pub is_row : (n : ℕ) (holds : Bool) (span : Span) → holds ≡ true → Contains (listed_if n holds span) (row_at n span)
is_row n holds span e = subst (λ b. Contains (listed_if n b span) (row_at n span)) (sym e) (here (row_at n span) [])

pub in_pieces : {A B : Type 0} (f : A → List B) (xs : List A) (y : B) → Contains (flat_map f xs) y → (x : A) × Contains xs x × Contains (f x) y
in_pieces f [] y held = absurd (none_in y held)
in_pieces f (x ∷ xs) y held =
    elim (Contains-append_cases (f x) (flat_map f xs) y held) [
      | inl first ↦ (x, here x xs, first)
      | inr later ↦ let found = in_pieces f xs y later in (found.0, Contains-append_right (x ∷ []) xs found.0 found.1, found.2)
    ]

pub piece_in : {A B : Type 0} (f : A → List B) (xs : List A) (x : A) (y : B) → Contains xs x → Contains (f x) y → Contains (flat_map f xs) y
piece_in f [] x y held in' = absurd (none_in x held)
piece_in f (z ∷ xs) x y held in' =
    elim (first_or_later z xs x held) [
      | inl same ↦ Contains-append_left (f z) (flat_map f xs) y (subst (λ w. Contains (f w) y) (sym same) in')
      | inr later ↦ Contains-append_right (f z) (flat_map f xs) y (piece_in f xs x y later in')
    ]
