-- A hull's bounds, put one after the other: the bound of each difference of which one is known on either side, once.
use Rattle.std.specs.Prelude.{◌||◌, if◌then◌else◌, Bool, false, is_some, List, [], ◌∷◌, ℤ, Option}
use Rattle.p10_diff.specs.declared.listed.Bounded.{Bounded}
use Rattle.p10_diff.specs.Differences.{Name, Pair, Differences}
use Rattle.p10_diff.specs.Domain.{hull}
use Rattle.p10_diff.specs.Listed.{name_of, is_of, with_one}

-- the bounds of a hull
abbrev pub hulled : Pair → Differences → Differences → Name → Name → Option ℤ
hulled p a b = (hull p a b).bounds

-- bounds with that which a function has of a difference, if there is one, and if none is there
abbrev pub put_once : (Name → Name → Option ℤ) → (Name → Name → Option ℤ) → Bounded → Name → Name → Option ℤ
put_once f put x = if is_some (put (name_of x.greater) (name_of x.lesser)) then put else with_one x.greater x.lesser (f (name_of x.greater) (name_of x.lesser)) put

-- the same of each difference in a list
abbrev pub put_each : (Name → Name → Option ℤ) → (Name → Name → Option ℤ) → List Bounded → Name → Name → Option ℤ
put_each f put [] = put
put_each f put (x ∷ bounds) = put_each f (put_once f put x) bounds

-- the same of each difference in lists
abbrev pub put_lists : (Name → Name → Option ℤ) → (Name → Name → Option ℤ) → List (List Bounded) → Name → Name → Option ℤ
put_lists f put [] = put
put_lists f put (bounds ∷ lists) = put_lists f (put_each f put bounds) lists

-- whether a list has a bound of a difference
abbrev pub has_bound : List Bounded → Name → Name → Bool
has_bound [] u w = false
has_bound (x ∷ bounds) u w = is_of x u w || has_bound bounds u w

-- whether one of lists has
abbrev pub any_has_bound : List (List Bounded) → Name → Name → Bool
any_has_bound [] u w = false
any_has_bound (bounds ∷ lists) u w = has_bound bounds u w || any_has_bound lists u w
