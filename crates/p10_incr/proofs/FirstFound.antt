-- The first of failing conditions by number is the first.
use Rattle.std.proofs.Common.{◌≡◌, ◌<◌, ◌≤◌, nat_lt, Bool, true, false, List, [], ◌∷◌, ◌++◌, Some, None, ap, refl, arith}
use Rattle.std.specs.Prelude.{if◌then◌else◌}
use Rattle.std.specs.List.{AllByRecursion}
use Rattle.std.proofs.lemmas.Bool.Decides.{nat_tests}
use Rattle.std.proofs.lemmas.Option.{same_Some}
use Rattle.p10_pass.specs.Passing.{Failing}
use Rattle.p10_incr.specs.Rechecking.{first_of, first_from}
use Rattle.p10_incr.specs.Laws.{IsFirstIn, FirstIsFirst}

none_lower : (a e : Failing) → a ≡ e → e.k ≤ a.k
none_lower a e same = let k : a.k ≡ e.k = ap (λ (f : Failing). f.k) same in omega (arith, k)

-- the first one has no lower number than what is found
least : (a e : Failing) (rest before after : List Failing) → a ∷ rest ≡ before ++ e ∷ after → AllByRecursion (λ (f : Failing). e.k < f.k) before → e.k ≤ a.k
least a e rest [] after are greater = none_lower a e cc
least a e rest (b ∷ before) after are greater =
    let same : a ≡ b = cc in
    let k : a.k ≡ b.k = ap (λ (f : Failing). f.k) same in
    omega (arith, k, greater.0)

-- one more before the others, which has a greater number than the first of these
one_before : (a b e : Failing) (rest : List Failing) → b.k < a.k → IsFirstIn (b ∷ rest) e → IsFirstIn (a ∷ b ∷ rest) e
one_before a b e rest lower h =
    let low : e.k ≤ b.k = least b e rest h.before h.after h.are h.greater in
    record { before = a ∷ h.before; after = h.after; are = ap (λ fails. a ∷ fails) h.are; greater = (omega (arith, low, lower), h.greater); no_lower = h.no_lower }

-- one more after the first, which has no lower number than it
put_after : (a b e : Failing) (rest before after : List Failing) → a.k ≤ b.k → a ∷ rest ≡ before ++ e ∷ after → AllByRecursion (λ (f : Failing). e.k < f.k) before → AllByRecursion (λ (f : Failing). e.k ≤ f.k) after
    → IsFirstIn (a ∷ b ∷ rest) e
put_after a b e rest [] after high are greater no_lower =
    let same : a ≡ e = cc in
    let more : rest ≡ after = cc in
    let k : a.k ≡ e.k = ap (λ (f : Failing). f.k) same in
    record { before = []; after = b ∷ after; are = λ i. same i ∷ b ∷ more i; greater = tt; no_lower = (omega (arith, k, high), no_lower) }
put_after a b e rest (x ∷ before) after high are greater no_lower =
    let same : a ≡ x = cc in
    let more : rest ≡ before ++ e ∷ after = cc in
    let k : a.k ≡ x.k = ap (λ (f : Failing). f.k) same in
    record { before = a ∷ b ∷ before; after = after; are = λ i. a ∷ b ∷ more i; greater = (omega (arith, k, greater.0), (omega (arith, k, high, greater.0), greater.1)); no_lower = no_lower }

found_in : (a : Failing) (rest : List Failing) (e : Failing) → first_from (Some a) rest ≡ Some e → IsFirstIn (a ∷ rest) e
found_in a [] e is = record { before = []; after = []; are = λ i. same_Some a e is i ∷ []; greater = tt; no_lower = tt }
found_in a (b ∷ rest) e is = by_test (nat_lt b.k a.k) refl is (found_in b rest e) (found_in a rest e)
  where
    by_test : (t : Bool) → nat_lt b.k a.k ≡ t → first_from (Some (if t then b else a)) rest ≡ Some e → (first_from (Some b) rest ≡ Some e → IsFirstIn (b ∷ rest) e) → (first_from (Some a) rest ≡ Some e → IsFirstIn (a ∷ rest) e)
        → IsFirstIn (a ∷ b ∷ rest) e
    by_test true lower is of_next of_first = one_before a b e rest (grind (arith, nat_tests, lower)) (of_next is)
    by_test false high is of_next of_first =
        let h : IsFirstIn (a ∷ rest) e = of_first is in
        put_after a b e rest h.before h.after (grind (arith, nat_tests, high)) h.are h.greater h.no_lower

some_found : (a : Failing) (rest : List Failing) → first_from (Some a) rest ≡ None → ⊥
some_found a [] none = cc
some_found a (b ∷ rest) none = some_found (first_of (Some a) b) rest none

pub first_is_first : FirstIsFirst
first_is_first [] = (λ e is. cc, λ none. refl)
first_is_first (a ∷ rest) = (λ e is. found_in a rest e is, λ none. absurd (some_found a rest none))
