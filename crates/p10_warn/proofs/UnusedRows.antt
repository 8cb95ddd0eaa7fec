-- What is never used, by the numbers that are.
use Rattle.std.proofs.Common.{◌≡◌, ℕ, zero, suc, ◌+◌, ◌==◌, List, [], ◌∷◌, Bool, true, false, not, Option, Some, slice_get, refl, sym, ◌∙◌, ap, subst, arith, inl, inr}
use Rattle.std.specs.List.{Contains, filter_map}
use Rattle.std.proofs.lemmas.Bool.{eqb-true, eq-eqb}
use Rattle.std.proofs.lemmas.List.Elements.{Contains-append_left, Contains-append_right, Contains-append_cases}
use Rattle.std.proofs.lemmas.Option.{none-some, same_Some}
use Rattle.p10_base.specs.declared.report.Violation.{Violation}
use Rattle.p10_core.specs.Nodes.{PlainNode}
use Rattle.p10_core.specs.Typed.{PlainVariable, PlainObject}
use Rattle.p10_core.specs.WholePrograms.{is_among}
use Rattle.p10_warn.specs.Naming.{HasNaming}
use Rattle.p10_warn.specs.private.Listing.{listed_if, unused_objects, unused_variables}
use Rattle.p10_warn.proofs.Booleans.{either, or_left, or_right, not_is, is_not, not_both_ways}
use Rattle.p10_warn.proofs.Members.{none_in, here, there, first_or_later, kept, came_from}
use Rattle.p10_warn.proofs.Rows.{row_at, row_is, is_row}

-- ## Numbers

among_is : (n : ℕ) (xs : List ℕ) → is_among n xs ≡ true → Contains xs n
among_is n [] e = absurd cc
among_is n (m ∷ xs) e =
    elim (either (n == m) (is_among n xs) e) [
      | inl same ↦ subst (λ k. Contains (k ∷ xs) n) (eqb-true n m same) (here n xs)
      | inr later ↦ there m xs n (among_is n xs later)
    ]

is_among_one : (n : ℕ) (xs : List ℕ) → Contains xs n → is_among n xs ≡ true
is_among_one n [] held = absurd (none_in n held)
is_among_one n (m ∷ xs) held =
    elim (first_or_later m xs n held) [
      | inl same ↦ or_left (n == m) (is_among n xs) (eq-eqb n m (sym same))
      | inr later ↦ or_right (n == m) (is_among n xs) (is_among_one n xs later)
    ]

false_or : (b : Bool) → (b ≡ true → ⊥) → b ≡ false
false_or true h = absurd (h refl)
false_or false h = refl

-- a number that isn't among those that are named is named by no node, and the other way round
pub unnamed_is : (number : PlainNode → Option ℕ) (nodes : List PlainNode) (n : ℕ) → is_among n (filter_map number nodes) ≡ false → HasNaming number nodes n → ⊥
unnamed_is number nodes n e h = not_both_ways (is_among n (filter_map number nodes)) (is_among_one n (filter_map number nodes) (kept number nodes h.node n h.among h.names)) e

pub is_unnamed : (number : PlainNode → Option ℕ) (nodes : List PlainNode) (n : ℕ) → (HasNaming number nodes n → ⊥) → is_among n (filter_map number nodes) ≡ false
is_unnamed number nodes n h =
    false_or (is_among n (filter_map number nodes)) (λ e.
    let found = came_from number nodes n (among_is n (filter_map number nodes) e) in
    h (record { node = found.0; among = found.1; names = found.2 }))

-- ## Objects and variables

further : (named : List ℕ) (n k : ℕ) (b : Bool) → is_among (n + 1 + k) named ≡ b → is_among (n + suc k) named ≡ b
further named n k b e = ap (λ m. is_among m named) (let same : n + suc k ≡ n + 1 + k = omega arith in same) ∙ e

nearer : (named : List ℕ) (n k : ℕ) (b : Bool) → is_among (n + suc k) named ≡ b → is_among (n + 1 + k) named ≡ b
nearer named n k b e = ap (λ m. is_among m named) (let same : n + 1 + k ≡ n + suc k = omega arith in same) ∙ e

at_first : (named : List ℕ) (n : ℕ) (b : Bool) → is_among n named ≡ b → is_among (n + 0) named ≡ b
at_first named n b e = ap (λ m. is_among m named) (let same : n + 0 ≡ n = omega arith in same) ∙ e

from_first : (named : List ℕ) (n : ℕ) (b : Bool) → is_among (n + 0) named ≡ b → is_among n named ≡ b
from_first named n b e = ap (λ m. is_among m named) (let same : n ≡ n + 0 = omega arith in same) ∙ e

pub unused_object_is : (named : List ℕ) (n : ℕ) (os : List PlainObject) (v : Violation) → Contains (unused_objects named n os) v
    → (k : ℕ) × (o : PlainObject) × (slice_get os k ≡ Some o) × (is_among (n + k) named ≡ false) × (row_at 1 o.span ≡ v)
unused_object_is named n [] v held = absurd (none_in v held)
unused_object_is named n (o ∷ os) v held =
    elim (Contains-append_cases (listed_if 1 (not (is_among n named)) o.span) (unused_objects named (n + 1) os) v held) [
      | inl first ↦ let h = row_is 1 (not (is_among n named)) o.span v first in
          (0, o, refl, at_first named n false (not_is (is_among n named) h.0), h.1)
      | inr later ↦ let h = unused_object_is named (n + 1) os v later in
          (suc h.0, h.1, h.2, further named n h.0 false h.3, h.4)
    ]

pub is_unused_object : (named : List ℕ) (n : ℕ) (os : List PlainObject) (k : ℕ) (o : PlainObject) → slice_get os k ≡ Some o → is_among (n + k) named ≡ false
    → Contains (unused_objects named n os) (row_at 1 o.span)
is_unused_object named n [] k o at e = absurd (none-some o at)
is_unused_object named n (x ∷ os) zero o at e =
    subst (λ (y : PlainObject). Contains (unused_objects named n (x ∷ os)) (row_at 1 y.span)) (same_Some x o at)
    (Contains-append_left (listed_if 1 (not (is_among n named)) x.span) (unused_objects named (n + 1) os) (row_at 1 x.span)
    (is_row 1 (not (is_among n named)) x.span (is_not (is_among n named) (from_first named n false e))))
is_unused_object named n (x ∷ os) (suc k) o at e =
    Contains-append_right (listed_if 1 (not (is_among n named)) x.span) (unused_objects named (n + 1) os) (row_at 1 o.span)
    (is_unused_object named (n + 1) os k o at (nearer named n k false e))

pub unused_variable_is : (named : List ℕ) (n : ℕ) (os : List PlainVariable) (v : Violation) → Contains (unused_variables named n os) v
    → (k : ℕ) × (o : PlainVariable) × (slice_get os k ≡ Some o) × (is_among (n + k) named ≡ false) × (row_at 1 o.span ≡ v)
unused_variable_is named n [] v held = absurd (none_in v held)
unused_variable_is named n (o ∷ os) v held =
    elim (Contains-append_cases (listed_if 1 (not (is_among n named)) o.span) (unused_variables named (n + 1) os) v held) [
      | inl first ↦ let h = row_is 1 (not (is_among n named)) o.span v first in
          (0, o, refl, at_first named n false (not_is (is_among n named) h.0), h.1)
      | inr later ↦ let h = unused_variable_is named (n + 1) os v later in
          (suc h.0, h.1, h.2, further named n h.0 false h.3, h.4)
    ]

pub is_unused_variable : (named : List ℕ) (n : ℕ) (os : List PlainVariable) (k : ℕ) (o : PlainVariable) → slice_get os k ≡ Some o → is_among (n + k) named ≡ false
    → Contains (unused_variables named n os) (row_at 1 o.span)
is_unused_variable named n [] k o at e = absurd (none-some o at)
is_unused_variable named n (x ∷ os) zero o at e =
    subst (λ (y : PlainVariable). Contains (unused_variables named n (x ∷ os)) (row_at 1 y.span)) (same_Some x o at)
    (Contains-append_left (listed_if 1 (not (is_among n named)) x.span) (unused_variables named (n + 1) os) (row_at 1 x.span)
    (is_row 1 (not (is_among n named)) x.span (is_not (is_among n named) (from_first named n false e))))
is_unused_variable named n (x ∷ os) (suc k) o at e =
    Contains-append_right (listed_if 1 (not (is_among n named)) x.span) (unused_variables named (n + 1) os) (row_at 1 o.span)
    (is_unused_variable named (n + 1) os k o at (nearer named n k false e))
