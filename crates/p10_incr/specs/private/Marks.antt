-- Marks of functions, by their numbers.
use Rattle.std.specs.Prelude.{ℕ, ◌+◌, Bool, true, if◌then◌else◌, List, [], ◌∷◌, slice_get, slice_set, Option, Some, None}
use Rattle.p10_calls.specs.declared.sites.CallSite.{CallSite}

-- a mark, or what stands for it where it is lacking
abbrev pub mark_or : Option Bool → Bool → Bool
mark_or None b = b
mark_or (Some marked) b = marked

-- the mark of a number, or what stands for it
abbrev pub marked_or : List Bool → ℕ → Bool → Bool
marked_or marks n b = mark_or (slice_get marks n) b

-- marks, once the callers in some calls of functions that meet a test are marked too
abbrev pub with_callers : (ℕ → Bool) → List CallSite → List Bool → List Bool
with_callers touched [] marks = marks
with_callers touched (s ∷ sites) marks = with_callers touched sites (if touched s.call.function then slice_set marks s.caller true else marks)

-- the numbers of the marks that are set, of which the first one has this number
abbrev pub numbers_marked : ℕ → List Bool → List ℕ
numbers_marked n [] = []
numbers_marked n (b ∷ marks) = if b then n ∷ numbers_marked (n + 1) marks else numbers_marked (n + 1) marks
