-- Marks of variables and of items by their numbers.
use Rattle.std.specs.Prelude.{◌≡◌, ℕ, ◌<◌, Bool, false, List, slice_get, Option, Some, None}

-- a mark that may be lacking: then it isn't set
abbrev pub marked_in : Option Bool → Bool
marked_in None = false
marked_in (Some b) = b

-- whether a number is marked
abbrev pub is_marked : List Bool → ℕ → Bool
is_marked marks n = marked_in (slice_get marks n)

-- marks, by the numbers below a count, are what a test gives
pub record AreMarks (test : ℕ → Bool) (count : ℕ) (marks : List Bool) : Type 0 where
  pub each : (n : ℕ) → n < count → is_marked marks n ≡ test n
