-- Upper bounds of differences, of which each may be lacking.
use Rattle.std.specs.Prelude.{◌^◌, Bool, true, false, ℤ, pos, neg_ℤ, ◌+ℤ◌, ◌≤ℤ◌, int_le, if◌then◌else◌, Option, Some, None}
use Rattle.std.specs.Int.{int_min, int_max}

-- a bound, or else another one
abbrev pub or_else : Option ℤ → Option ℤ → Option ℤ
or_else None b = b
or_else (Some a) b = Some a

-- the lesser of two bounds
abbrev pub least : Option ℤ → Option ℤ → Option ℤ
least None b = b
least (Some a) None = Some a
least (Some a) (Some b) = Some (int_min a b)

-- the greater of two bounds: none where one is lacking
abbrev pub greatest : Option ℤ → Option ℤ → Option ℤ
greatest None b = None
greatest (Some a) None = None
greatest (Some a) (Some b) = Some (int_max a b)

-- the least and the greatest bound that are kept
abbrev pub lowest : ℤ
lowest = neg_ℤ (pos (10 ^ 21))

abbrev pub highest : ℤ
highest = pos (10 ^ 21)

-- a bound as it is kept: a lesser one is kept as the least, and a greater one isn't
abbrev pub kept : Option ℤ → Option ℤ
kept None = None
kept (Some c) = if int_le c highest then Some (int_max c lowest) else None

-- a bound of a sum
abbrev pub plus : Option ℤ → Option ℤ → Option ℤ
plus None b = None
plus (Some a) None = None
plus (Some a) (Some b) = kept (Some (a +ℤ b))

-- whether a bound is at most a number
abbrev pub is_at_most : Option ℤ → ℤ → Bool
is_at_most None z = false
is_at_most (Some c) z = int_le c z

-- z is at most a bound, if there is one
abbrev pub AtMost : ℤ → Option ℤ → Type 0
AtMost z None = Unit {0}
AtMost z (Some c) = z ≤ℤ c
