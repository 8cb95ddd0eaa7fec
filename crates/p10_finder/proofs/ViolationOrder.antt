-- Violations in order: what their list holds decides it.
use Rattle.std.proofs.Common.{◌≡◌, ◌⊎◌, inl, inr, List, [], ◌∷◌, refl, sym, ap, ◌∙◌, subst, rules, Less, Equal, Greater}
use Rattle.std.specs.Cmp.{IsTotalOrder}
use Rattle.std.specs.Cmp.Rules.{comparing}
use Rattle.std.specs.List.{Contains}
use Rattle.std.specs.List.Sorted.{IsStrictlySortedBy}
use Rattle.std.specs.Ordering.{ordering_reverse}
use Rattle.std.proofs.lemmas.Cmp.{tied_itself}
use Rattle.std.proofs.lemmas.List.Elements.{All-contains}
use Rattle.std.proofs.lemmas.Map.Views.{All-after_first}
use Rattle.std.proofs.lemmas.Map.Keys.{sorted_tail}
use Rattle.p10_base.specs.declared.report.Violation.{Violation}
use Rattle.p10_base.specs.Order.{violation_cmp}
use Rattle.p10_calls.proofs.Lists.{none_in, here, there, first_or_later}

total : IsTotalOrder violation_cmp
total = search (comparing, rules) depth 9

after : (x y : Violation) (xs : List Violation) → IsStrictlySortedBy violation_cmp (x ∷ xs) → Contains xs y → violation_cmp x y ≡ Less
after x y xs sorted held = All-contains (λ q. violation_cmp x q ≡ Less) xs y (All-after_first violation_cmp x xs sorted) held

-- two violations aren't before each other
not_both : (x y : Violation) → violation_cmp x y ≡ Less → violation_cmp y x ≡ Less → ⊥
not_both x y less more = let turned : violation_cmp y x ≡ Greater = total.antisymm y x ∙ ap ordering_reverse less in absurd cc

not_itself : (x : Violation) → violation_cmp x x ≡ Less → ⊥
not_itself x less = let same : violation_cmp x x ≡ Equal = tied_itself total x in absurd cc

-- the first ones are the same
same_first : (x y : Violation) (xs ys : List Violation) → IsStrictlySortedBy violation_cmp (x ∷ xs) → IsStrictlySortedBy violation_cmp (y ∷ ys) → Contains (y ∷ ys) x → Contains (x ∷ xs) y → x ≡ y
same_first x y xs ys this that forward back = cases (first_or_later y ys x forward) (first_or_later x xs y back)
  where
    cases : (y ≡ x) ⊎ Contains ys x → (x ≡ y) ⊎ Contains xs y → x ≡ y
    cases (inl same) found = sym same
    cases (inr later) (inl same) = same
    cases (inr later) (inr found) = absurd (not_both y x (after y x ys that later) (after x y xs this found))

-- what is after the first one in one list is so in the other
later_there : (x y : Violation) (xs ys : List Violation) → x ≡ y → IsStrictlySortedBy violation_cmp (x ∷ xs) → ((v : Violation) → Contains (x ∷ xs) v → Contains (y ∷ ys) v) → (v : Violation) → Contains xs v → Contains ys v
later_there x y xs ys same sorted all v held = cases (first_or_later y ys v (all v (there x xs v held)))
  where
    cases : (y ≡ v) ⊎ Contains ys v → Contains ys v
    cases (inl first) = absurd (not_itself x (subst (λ (z : Violation). violation_cmp x z ≡ Less) (sym (same ∙ first)) (after x v xs sorted held)))
    cases (inr later) = later

pub one_list : (xs ys : List Violation) → IsStrictlySortedBy violation_cmp xs → IsStrictlySortedBy violation_cmp ys → ((v : Violation) → Contains xs v → Contains ys v) → ((v : Violation) → Contains ys v → Contains xs v) → xs ≡ ys
one_list [] [] this that forward back = refl
one_list [] (y ∷ ys) this that forward back = absurd (none_in y (back y (here y ys)))
one_list (x ∷ xs) [] this that forward back = absurd (none_in x (forward x (here x xs)))
one_list (x ∷ xs) (y ∷ ys) this that forward back =
    let same = same_first x y xs ys this that (forward x (here x xs)) (back y (here y ys)) in
    ap (λ z. z ∷ xs) same
    ∙ ap (λ zs. y ∷ zs) (one_list xs ys (sorted_tail violation_cmp x xs this) (sorted_tail violation_cmp y ys that)
    (later_there x y xs ys same this forward) (later_there y x ys xs (sym same) that back))
