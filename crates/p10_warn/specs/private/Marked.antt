-- Marks by numbers.
use Rattle.std.specs.Prelude.{ℕ, Bool, false, List, slice_get, Option, Some, None}

-- a mark, if there is one
abbrev pub mark_or_false : Option Bool → Bool
mark_or_false None = false
mark_or_false (Some mark) = mark

-- whether a number is marked
abbrev pub is_marked : List Bool → ℕ → Bool
is_marked marks n = mark_or_false (slice_get marks n)
