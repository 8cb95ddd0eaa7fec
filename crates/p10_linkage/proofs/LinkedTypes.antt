-- Parameters of two functions, one place after the other, as far as they are known.
use Rattle.std.proofs.Common.{◌≡◌, ℕ, zero, suc, ◌+◌, ◌<◌, ◌≤◌, nat_eq, Bool, true, false, ◌&&◌, List, [], ◌∷◌, length, drop, Option, None, slice_get, refl, sym, ◌∙◌, ap, arith}
use Rattle.std.proofs.lemmas.Bool.Decides.{nat_tests}
use Rattle.std.specs.Option.{unwrap_or}
use Rattle.p10_core.specs.Types.{PlainType}
use Rattle.p10_linkage.specs.Linkage.{same_known, same_parameters, is_left_alone, are_left_alone, is_bare, all_known}

-- the type at a place, where it is known
abbrev pub known_at : List (Option PlainType) → ℕ → Option PlainType
known_at ts k = unwrap_or (slice_get ts k) None

drop_next : (ts : List (Option PlainType)) (k : ℕ) → k < length ts → drop k ts ≡ known_at ts k ∷ drop (suc k) ts
drop_next [] k h = absurd (omega (arith, h))
drop_next (t ∷ ts) zero h = refl
drop_next (t ∷ ts) (suc k) h = drop_next ts k (omega (arith, h))

after : (k : ℕ) → suc k ≡ k + 1
after k = omega arith

pub drop_here : (ts : List (Option PlainType)) (k : ℕ) → k < length ts → drop k ts ≡ known_at ts k ∷ drop (k + 1) ts
drop_here ts k h = drop_next ts k h ∙ ap (λ n. known_at ts k ∷ drop n ts) (after k)

-- as many types are known of those that all are
pub all_count : (ts : List PlainType) → length (all_known ts) ≡ length ts
all_count [] = refl
all_count (t ∷ ts) = ap suc (all_count ts)

neither : (b : Bool) → (b && false) ≡ false
neither true = refl
neither false = refl

-- parameters that aren't as many aren't the same
pub parameters_differ : (ts us : List (Option PlainType)) → (length ts ≡ length us → ⊥) → same_parameters ts us ≡ false
parameters_differ [] [] h = absurd (h refl)
parameters_differ [] (u ∷ us) h = refl
parameters_differ (t ∷ ts) [] h = refl
parameters_differ (t ∷ ts) (u ∷ us) h = ap (λ b. same_known t u && b) (parameters_differ ts us (λ e. h (ap suc e))) ∙ neither (same_known t u)

-- parameters are the same where those at a place are, and those after them
pub parameters_on : (ts us : List (Option PlainType)) (k : ℕ) → k < length ts → k < length us →
    same_parameters (drop k ts) (drop k us) ≡ (same_known (known_at ts k) (known_at us k) && same_parameters (drop (k + 1) ts) (drop (k + 1) us))
parameters_on ts us k h g = λ i. same_parameters (drop_here ts k h i) (drop_here us k g i)

-- types are left alone where the one at a place is, and those after it
pub left_alone_on : (ts : List (Option PlainType)) (k : ℕ) → k < length ts →
    are_left_alone (drop k ts) ≡ (is_left_alone (known_at ts k) && are_left_alone (drop (k + 1) ts))
left_alone_on ts k h = ap are_left_alone (drop_here ts k h)

none_zero : (n m : ℕ) → n ≡ suc m → nat_eq n 0 ≡ false
none_zero n m e = grind (arith, nat_tests)

-- there are no parameters where their number is 0
pub bare_count : (ts : List (Option PlainType)) (n : ℕ) → n ≡ length ts → nat_eq n 0 ≡ is_bare ts
bare_count [] n e = ap (λ k. nat_eq k 0) e
bare_count (t ∷ ts) n e = none_zero n (length ts) e

-- ## Turns of loops over parameters

-- there are no types from a place on that is past all
pub rest_of : (ts : List (Option PlainType)) (k : ℕ) → length ts ≤ k → drop k ts ≡ []
rest_of [] zero h = refl
rest_of [] (suc k) h = refl
rest_of (t ∷ ts) zero h = absurd (omega (arith, h))
rest_of (t ∷ ts) (suc k) h = rest_of ts k (omega (arith, h))

-- those at a place are the same or not
pub same_turn : (ts us : List (Option PlainType)) (k : ℕ) (b c whole : Bool) → k < length ts → k < length us → b ≡ same_known (known_at ts k) (known_at us k) → b ≡ c →
    same_parameters (drop k ts) (drop k us) ≡ whole → (c && same_parameters (drop (k + 1) ts) (drop (k + 1) us)) ≡ whole
same_turn ts us k b c whole h g is by before =
    sym (parameters_on ts us k h g ∙ ap (λ x. x && same_parameters (drop (k + 1) ts) (drop (k + 1) us)) (sym is ∙ by)) ∙ before

-- all were
pub same_done : (ts us : List (Option PlainType)) (k : ℕ) (whole : Bool) → length ts ≤ k → length us ≤ k → same_parameters (drop k ts) (drop k us) ≡ whole → true ≡ whole
same_done ts us k whole h g before = sym (λ i. same_parameters (rest_of ts k h i) (rest_of us k g i)) ∙ before

-- the one at a place is left alone or not
pub alone_turn : (ts : List (Option PlainType)) (k : ℕ) (b c whole : Bool) → k < length ts → b ≡ is_left_alone (known_at ts k) → b ≡ c →
    are_left_alone (drop k ts) ≡ whole → (c && are_left_alone (drop (k + 1) ts)) ≡ whole
alone_turn ts k b c whole h is by before = sym (left_alone_on ts k h ∙ ap (λ x. x && are_left_alone (drop (k + 1) ts)) (sym is ∙ by)) ∙ before

pub alone_done : (ts : List (Option PlainType)) (k : ℕ) (whole : Bool) → length ts ≤ k → are_left_alone (drop k ts) ≡ whole → true ≡ whole
alone_done ts k whole h before = sym (ap are_left_alone (rest_of ts k h)) ∙ before

-- ## Parameters by their places

-- a parameter of a function whose types are all known
pub known_place : (ts : List PlainType) (k : ℕ) → slice_get ts k ≡ known_at (all_known ts) k
known_place [] k = refl
known_place (t ∷ ts) zero = refl
known_place (t ∷ ts) (suc k) = known_place ts k
