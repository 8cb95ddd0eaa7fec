-- Failing conditions that are put down one after the other.
use Rattle.std.proofs.Common.{◌≡◌, ◌∙◌, ℕ, suc, ◌+◌, ◌<◌, List, [], ◌∷◌, ◌++◌, length, map, drop, get_or, drop-cons, add-one, sym, ap, refl, append_assoc}
use Rattle.p10_base.specs.declared.span.Span.{Span}
use Rattle.p10_core.specs.declared.program.Func.{Func}
use Rattle.p10_core.specs.Typed.{PlainFunction}
use Rattle.p10_core.specs.Views.{plain_function}
use Rattle.p10_pass.specs.Passing.{Failing}
use Rattle.p10_check.specs.Places.{places_from}
use Rattle.p10_check.specs.Conditions.{failing_at_each}

-- a condition at places of one kind and then of another
pub at_both : (k : ℕ) (xs ys : List Span) → failing_at_each k (xs ++ ys) ≡ failing_at_each k xs ++ failing_at_each k ys
at_both k [] ys = refl
at_both k (x ∷ xs) ys = ap (λ rest. record { k = k; at = x } ∷ rest) (at_both k xs ys)

-- two lists that are put down in turn
pub in_turn : (old mid new xs ys : List Failing) → mid ≡ old ++ xs → new ≡ mid ++ ys → new ≡ old ++ (xs ++ ys)
in_turn old mid new xs ys first second = second ∙ ap (λ zs. zs ++ ys) first ∙ append_assoc old xs ys

-- what is left of a list at a place is the element there and what is left after it
cut : {X : Type 0} (all : List X) (i : ℕ) (x : X) → i < length all → x ≡ get_or all i x → drop i all ≡ x ∷ drop (i + 1) all
cut all i x lt is = drop-cons all i x lt ∙ ap (λ y. y ∷ drop (suc i) all) (sym is) ∙ ap (λ n. x ∷ drop n all) (sym (add-one i))

-- a condition in functions, once one more was passed
pub one_more : (k : ℕ) (places : ℕ → PlainFunction → List Span) (all : List Func) (n : ℕ) (f : Func) (whole old new : List Failing)
    → n < length all → f ≡ get_or all n f
    → old ++ failing_at_each k (places_from places n (map plain_function (drop n all))) ≡ whole
    → new ≡ old ++ failing_at_each k (places n (plain_function f))
    → new ++ failing_at_each k (places_from places (n + 1) (map plain_function (drop (n + 1) all))) ≡ whole
one_more k places all n f whole old new lt is before now =
    ap (λ xs. xs ++ failing_at_each k (places_from places (n + 1) (map plain_function (drop (n + 1) all)))) now
    ∙ append_assoc old (failing_at_each k (places n (plain_function f))) (failing_at_each k (places_from places (n + 1) (map plain_function (drop (n + 1) all))))
    ∙ ap (λ xs. old ++ xs) (sym (at_both k (places n (plain_function f)) (places_from places (n + 1) (map plain_function (drop (n + 1) all)))))
    ∙ ap (λ fs. old ++ failing_at_each k (places_from places n (map plain_function fs))) (sym (cut all n f lt is))
    ∙ before
