-- How often numbers stand in lists, and lists of these counts.
use Rattle.std.proofs.Common.{◌≡◌, ◌≢◌, ◌∙◌, ℕ, zero, suc, ◌+◌, ◌-◌, ◌<◌, ◌≤◌, ◌⊎◌, inl, inr, ◌↔◌, nat_eq, nat_lt, Bool, true, false, ◌||◌, List, [], ◌∷◌, ◌++◌, length, slice_get, slice_set, slice_index_or, Some, IsTrue, sym, ap, subst, add-one, length-set, refl, arith}
use Rattle.std.proofs.lemmas.Bool.{cases_lt}
use Rattle.std.proofs.lemmas.Bool.Decides.{eqb_tells}
use Rattle.std.proofs.lemmas.Option.{slice_get_read, slice_get-get_or, get_or_from_slice_get}
use Rattle.std.proofs.lemmas.Grind.{get_or-set_at}
use Rattle.std.proofs.lemmas.List.{get_or-set_other}
use Rattle.p10_core.specs.WholePrograms.{is_among, numbers_from}
use Rattle.p10_fit.specs.private.Scoping.{one_if, count_of, AreCounts}

-- a number at the end of a list counts
pub count_last : (n m : ℕ) (xs : List ℕ) → count_of n (xs ++ (m ∷ [])) ≡ count_of n xs + one_if (nat_eq n m)
count_last n m [] = omega arith
count_last n m (x ∷ xs) = rw (count_last n m xs) (omega arith)

counted_step : (b a : Bool) (k : ℕ) → (a ≡ true → 0 < k) → (b || a) ≡ true → 0 < one_if b + k
counted_step true a k f h = omega arith
counted_step false a k f h = let more : 0 < k = f h in omega arith

-- what is among numbers is counted
pub among_counted : (n : ℕ) (xs : List ℕ) → is_among n xs ≡ true → 0 < count_of n xs
among_counted n [] h = cc
among_counted n (m ∷ xs) h = counted_step (nat_eq n m) (is_among n xs) (count_of n xs) (among_counted n xs) h

among_step : (b a : Bool) (k : ℕ) → (0 < k → a ≡ true) → 0 < one_if b + k → (b || a) ≡ true
among_step true a k f h = refl
among_step false a k f h = f (omega arith)

-- what is counted is among the numbers
pub counted_among : (n : ℕ) (xs : List ℕ) → 0 < count_of n xs → is_among n xs ≡ true
counted_among n [] h = let no : ⊥ = omega arith in absurd no
counted_among n (m ∷ xs) h = among_step (nat_eq n m) (is_among n xs) (count_of n xs) (counted_among n xs) h

-- what stands in a list at a number is the count
pub counted_here : (counts numbers : List ℕ) (n x : ℕ) → AreCounts counts numbers → n < length counts → x ≡ slice_index_or counts n x → x ≡ count_of n numbers
counted_here counts numbers n x known lt is =
    let there : slice_get counts n ≡ Some x = slice_get_read counts (length counts) n x refl lt is in
    let both : Some x ≡ Some (count_of n numbers) = sym there ∙ known n lt in
    cc

-- a count is at most as great as the list is long
one_at_most : (b : Bool) → one_if b ≤ 1
one_at_most true = omega arith
one_at_most false = omega arith

pub count_most : (n : ℕ) (xs : List ℕ) → count_of n xs ≤ length xs
count_most n [] = omega arith
count_most n (x ∷ xs) = let one : one_if (nat_eq n x) ≤ 1 = one_at_most (nat_eq n x) in let rest : count_of n xs ≤ length xs = count_most n xs in omega arith

-- whether a variable is in scope is known by its count
pub told_by_count : (counts numbers : List ℕ) (n x : ℕ) → AreCounts counts numbers → n < length counts → x ≡ slice_index_or counts n x
    → (IsTrue (nat_lt 0 x) ↔ (is_among n numbers ≡ true))
told_by_count counts numbers n x known lt is =
    let count : x ≡ count_of n numbers = counted_here counts numbers n x known lt is in
    ((λ t. counted_among n numbers (let more : 0 < x = grind (arith, t) in omega arith)), (λ h. let more : 0 < count_of n numbers = among_counted n numbers h in let there : 0 < x = omega arith in grind (arith, there)))

changed_at : (counts numbers others : List ℕ) (m x y : ℕ) → AreCounts counts numbers → m < length counts
    → (y ≡ count_of m others)
    → ((n : ℕ) → n ≢ m → count_of n numbers ≡ count_of n others)
    → (n : ℕ) → n < length (slice_set counts m y) → slice_get (slice_set counts m y) n ≡ Some (count_of n others)
changed_at counts numbers others m x y known there here elsewhere n lt = by_case (eqb_tells n m)
  where
    inside : n < length counts
    inside = subst (λ k. n < k) (length-set counts m y) lt

    read : slice_get (slice_set counts m y) n ≡ Some (slice_index_or (slice_set counts m y) n 0)
    read = slice_get-get_or (slice_set counts m y) n 0 lt

    by_case : ((nat_eq n m ≡ true) × (n ≡ m)) ⊎ ((nat_eq n m ≡ false) × (n ≢ m)) → slice_get (slice_set counts m y) n ≡ Some (count_of n others)
    by_case c = elim c [
      | inl (t, same) ↦ read ∙ ap Some (get_or-set_at counts m n y 0 same there ∙ here ∙ ap (λ k. count_of k others) (sym same))
      | inr (t, other) ↦ read ∙ ap Some (get_or-set_other counts m n y 0 other ∙ get_or_from_slice_get counts n (count_of n numbers) 0 (known n inside) ∙ elsewhere n other)
    ]

same_is : (m : ℕ) → nat_eq m m ≡ true
same_is m = by_case (eqb_tells m m)
  where
    by_case : ((nat_eq m m ≡ true) × (m ≡ m)) ⊎ ((nat_eq m m ≡ false) × (m ≢ m)) → nat_eq m m ≡ true
    by_case c = elim c [ inl (t, same) ↦ t | inr (t, other) ↦ absurd (other refl) ]

other_is : (n m : ℕ) → n ≢ m → nat_eq n m ≡ false
other_is n m apart = by_case (eqb_tells n m)
  where
    by_case : ((nat_eq n m ≡ true) × (n ≡ m)) ⊎ ((nat_eq n m ≡ false) × (n ≢ m)) → nat_eq n m ≡ false
    by_case c = elim c [ inl (t, same) ↦ absurd (apart same) | inr (t, other) ↦ t ]

-- with a number more, it counts once more, and others as often
pub once_more : (numbers new : List ℕ) (m : ℕ) → new ≡ numbers ++ (m ∷ []) → count_of m new ≡ count_of m numbers + 1
once_more numbers new m is = ap (count_of m) is ∙ count_last m m numbers ∙ ap (λ b. count_of m numbers + one_if b) (same_is m)

pub as_often : (numbers new : List ℕ) (m n : ℕ) → new ≡ numbers ++ (m ∷ []) → n ≢ m → count_of n numbers ≡ count_of n new
as_often numbers new m n is apart =
    let more : count_of n new ≡ count_of n numbers + one_if (nat_eq n m) = ap (count_of n) is ∙ count_last n m numbers in
    let none : count_of n new ≡ count_of n numbers + 0 = more ∙ ap (λ b. count_of n numbers + one_if b) (other_is n m apart) in
    omega arith

-- the counts after a declaration
pub counts_declared : (counts numbers new : List ℕ) (m x : ℕ) → AreCounts counts numbers → m < length counts → x ≡ slice_index_or counts m x
    → new ≡ numbers ++ (m ∷ []) → AreCounts (slice_set counts m (x + 1)) new
counts_declared counts numbers new m x known there at is n lt =
    changed_at counts numbers new m x (x + 1) known there
    (ap (λ k. k + 1) (counted_here counts numbers m x known there at) ∙ sym (once_more numbers new m is))
    (λ k apart. as_often numbers new m k is apart) n lt

-- the same where the function has no such variable
pub counts_beside : (counts numbers new : List ℕ) (m : ℕ) → AreCounts counts numbers → length counts ≤ m → new ≡ numbers ++ (m ∷ []) → AreCounts counts new
counts_beside counts numbers new m known past is n lt =
    known n lt ∙ ap Some (as_often numbers new m n is (λ same. let no : ⊥ = omega (arith, same) in no))

-- the last number was counted
pub last_counted : (counts numbers rest : List ℕ) (m x : ℕ) → AreCounts counts numbers → m < length counts → x ≡ slice_index_or counts m x
    → numbers ≡ rest ++ (m ∷ []) → x ≡ count_of m rest + 1
last_counted counts numbers rest m x known there at is = counted_here counts numbers m x known there at ∙ once_more rest numbers m is

-- the counts after the last number is gone
pub counts_left : (counts numbers rest : List ℕ) (m x : ℕ) → AreCounts counts numbers → m < length counts → x ≡ slice_index_or counts m x
    → numbers ≡ rest ++ (m ∷ []) → AreCounts (slice_set counts m (x - 1)) rest
counts_left counts numbers rest m x known there at is n lt =
    let count : x ≡ count_of m rest + 1 = last_counted counts numbers rest m x known there at is in
    changed_at counts numbers rest m x (x - 1) known there (omega (arith, count)) (λ k apart. sym (as_often rest numbers m k is apart)) n lt

-- the same where the function has no such variable
pub counts_left_beside : (counts numbers rest : List ℕ) (m : ℕ) → AreCounts counts numbers → length counts ≤ m → numbers ≡ rest ++ (m ∷ []) → AreCounts counts rest
counts_left_beside counts numbers rest m known past is n lt =
    known n lt ∙ ap Some (sym (as_often rest numbers m n is (λ same. let no : ⊥ = omega (arith, same) in no)))

-- numbers in a row, and the next one
pub row_and_next : (from count : ℕ) → numbers_from from (count + 1) ≡ numbers_from from count ++ ((from + count) ∷ [])
row_and_next from count = ap (numbers_from from) (add-one count) ∙ next from count
  where
    next : (from count : ℕ) → numbers_from from (suc count) ≡ numbers_from from count ++ ((from + count) ∷ [])
    next from zero = ap (λ n. n ∷ []) (omega arith)
    next from (suc count) = ap (λ rest. from ∷ rest) (next (from + 1) count ∙ ap (λ n. numbers_from (from + 1) count ++ (n ∷ [])) (omega arith))

-- what isn't below is at most
pub at_most : (n m : ℕ) → (n < m → ⊥) → m ≤ n
at_most n m below = by_case (cases_lt n m)
  where
    by_case : (n < m) ⊎ (m ≤ n) → m ≤ n
    by_case c = elim c [ inl lt ↦ absurd (below lt) | inr le ↦ le ]
