-- What the code's names, and its bounds in lists, are.
use Rattle.std.specs.Prelude.{ℕ, nat_eq, ◌+◌, ◌*◌, ◌%◌, ◌&&◌, ◌||◌, if◌then◌else◌, Bool, List, [], ◌∷◌, ◌++◌, slice_get, ℤ, Option, Some, None}
use Rattle.p10_diff.specs.declared.listed.Name.{Name as CodeName}
use Rattle.p10_diff.specs.declared.listed.Name.TheVariants.{Now, Was}
use Rattle.p10_diff.specs.declared.listed.Bounded.{Bounded}
use Rattle.p10_diff.specs.Bounds.{or_else}
use Rattle.p10_diff.specs.Differences.{Name, now, was, same_name, is_marked}

-- a name of the code
abbrev pub name_of : CodeName → Name
name_of (Now n) = now n
name_of (Was n) = was n

-- ## One list

-- whether a bound is of this difference
abbrev pub is_of : Bounded → Name → Name → Bool
is_of x u w = same_name (name_of x.greater) u && same_name (name_of x.lesser) w

-- the last bound of a difference in a list, or else another one
abbrev pub found_after : Option ℤ → List Bounded → Name → Name → Option ℤ
found_after last [] u w = last
found_after last (x ∷ bounds) u w = found_after (if is_of x u w then Some x.most else last) bounds u w

-- the bound of a difference in a list: the last one counts
abbrev pub found_in : List Bounded → Name → Name → Option ℤ
found_in bounds u w = found_after None bounds u w

-- whether one of a bound's names is marked
abbrev pub names_marked : (ℕ → Bool) → Bounded → Bool
names_marked marks x = is_marked marks (name_of x.greater) || is_marked marks (name_of x.lesser)

-- a list without the bounds of marked names
abbrev pub without_marked : (ℕ → Bool) → List Bounded → List Bounded
without_marked marks [] = []
without_marked marks (x ∷ bounds) = if names_marked marks x then without_marked marks bounds else x ∷ without_marked marks bounds

-- ## Lists by numbers

-- the number of a name's variable
abbrev pub number_of : Name → ℕ
number_of (now n) = n
number_of (was n) = n

-- which of 256 lists has the bounds of a difference, by the numbers of both variables: so each list is short
abbrev pub place_of : Name → Name → ℕ
place_of u w = (17 * number_of u + number_of w) % 256

-- a list, if there is one
abbrev pub or_empty : Option (List Bounded) → List Bounded
or_empty None = []
or_empty (Some bounds) = bounds

-- the list with a number: one that is lacking is empty
abbrev pub list_at : List (List Bounded) → ℕ → List Bounded
list_at lists n = or_empty (slice_get lists n)

-- the bounds of lists
abbrev pub bounds_listed : List (List Bounded) → Name → Name → Option ℤ
bounds_listed lists u w = found_in (list_at lists (place_of u w)) u w

-- ## What is put

-- lists with a bound more at the end of that with a number
abbrev pub with_last : ℕ → Bounded → (ℕ → List Bounded) → ℕ → List Bounded
with_last i x lists n = if nat_eq i n then lists n ++ (x ∷ []) else lists n

-- bounds with one of a difference, if there is one
abbrev pub with_one : CodeName → CodeName → Option ℤ → (Name → Name → Option ℤ) → Name → Name → Option ℤ
with_one u w most bounds a b = if same_name (name_of u) a && same_name (name_of w) b then or_else most (bounds a b) else bounds a b
