-- How often each variable is among those in scope.
use Rattle.std.specs.Prelude.{◌≡◌, ℕ, ◌+◌, ◌<◌, nat_eq, Bool, true, false, List, [], ◌∷◌, length, slice_get, Some}

-- 1 where a test is true, else 0
abbrev pub one_if : Bool → ℕ
one_if true = 1
one_if false = 0

-- how often a number stands in a list
abbrev pub count_of : ℕ → List ℕ → ℕ
count_of n [] = 0
count_of n (m ∷ rest) = one_if (nat_eq n m) + count_of n rest

-- the counts are those of the numbers in scope
abbrev pub AreCounts : List ℕ → List ℕ → Type 0
AreCounts counts numbers = (n : ℕ) → n < length counts → slice_get counts n ≡ Some (count_of n numbers)
