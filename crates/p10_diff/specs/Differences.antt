-- Ranges with bounds of differences: what is known of a function's variables where two of them approach each other in a loop (difference
-- bounds: Dill, "Timing assumptions and verification of finite-state concurrent systems", 1989; Miné, "A new numerical abstract domain
-- based on difference-bound matrices", 2001).
use Rattle.std.specs.Prelude.{ℕ, nat_eq, nat_le, ◌&&◌, ◌||◌, if◌then◌else◌, Bool, true, false, List, slice_get, ℤ, pos, ◌-ℤ◌, Option, Some, None}
use Rattle.std.specs.Option.{option_map}
use Rattle.p10_int.specs.declared.types.IntType.{IntType}
use Rattle.p10_int.specs.declared.types.IntType.TheVariants.{Int}
use Rattle.p10_int.specs.Types.{is_signed_of, rank_of}
use Rattle.p10_range.specs.Ranges.{Interval}
use Rattle.p10_core.specs.Rows.{is_integer}
use Rattle.p10_core.specs.Constants.{integer_of}
use Rattle.p10_core.specs.Typed.{PlainValue, PlainVariable}
use Rattle.p10_meaning.specs.Values.{Held}
use Rattle.p10_absx.specs.Abstract.{Abstract}
use Rattle.p10_absx.specs.Environments.{Environment, known}
use Rattle.p10_absx.specs.Comparing.{Side}
use Rattle.p10_absx.specs.Assessing.{as_side, assess}
use Rattle.p10_absx.specs.Describing.{set_to}
use Rattle.p10_diff.specs.Bounds.{least, greatest, plus, kept}

-- ## Names

-- a number by its name: what a variable holds now, or what it held at the head of the loop
pub data Name : Type 0 where
  now : ℕ → Name
  was : ℕ → Name

-- whether two names are one
abbrev pub same_name : Name → Name → Bool
same_name (now n) (now m) = nat_eq n m
same_name (was n) (was m) = nat_eq n m
same_name (now n) (was m) = false
same_name (was n) (now m) = false

-- whether a name is what a marked variable holds now
abbrev pub is_marked : (ℕ → Bool) → Name → Bool
is_marked marks (now n) = marks n
is_marked marks (was n) = false

-- a number, and 0 for an unset variable
abbrev pub number_or_zero : Option ℤ → ℤ
number_or_zero None = pos 0
number_or_zero (Some z) = z

-- what a name stands for in a frame, where the loop's head had another one
abbrev pub worth : List Held → List Held → Name → ℤ
worth head held (now n) = number_or_zero (set_to held n)
worth head held (was n) = number_or_zero (set_to head n)

-- ## Loops in which two variables approach each other

-- the variables of a function, those two of them that approach each other, and what is known at the loop's head
pub record Pair : Type 0 where
  pub variables : List PlainVariable
  pub below : ℕ
  pub above : ℕ
  pub head : Environment

-- whether an integer type is signed, of at least the rank of `int` (C99 6.3.1.1)
abbrev pub is_wide : IntType → Bool
is_wide kind = is_signed_of kind && nat_le (rank_of Int) (rank_of kind)

-- whether a variable has a name: it is held in the frame, of such a type
abbrev pub has_name_in : Option PlainVariable → Bool
has_name_in None = false
has_name_in (Some v) = v.frame && (is_integer v.type && is_wide (integer_of v.type))

abbrev pub has_name : Pair → ℕ → Bool
has_name p n = has_name_in (slice_get p.variables n)

-- whether it is one of the two variables
abbrev pub is_either : Pair → ℕ → Bool
is_either p n = nat_eq p.below n || nat_eq p.above n

-- whether a number has a name here: what each such variable holds now, and what the two held at the head
abbrev pub is_name : Pair → Name → Bool
is_name p (now n) = has_name p n
is_name p (was n) = has_name p n && is_either p n

-- a bound where another name is one
abbrev pub of_name : Pair → Name → Option ℤ → Option ℤ
of_name p u bound = if is_name p u then bound else None

-- ## What is known

-- ranges; for ordered pairs of names an upper bound of their difference; and one of the fall: by how much the distance of the two
-- variables is greater than at the head
pub record Differences : Type 0 where
  pub ranges : Environment
  pub bounds : Name → Name → Option ℤ
  pub fall : Option ℤ

-- no difference is known
abbrev pub unbounded : Name → Name → Option ℤ
unbounded u w = None

-- the range of an entry
abbrev pub range_of : Option Abstract → Option Interval
range_of a = option_map (λ (a : Abstract). a.range) a

-- the range of a name: of variables that have one, and of what they held at the head
abbrev pub range_named : Pair → Environment → Name → Option Interval
range_named p ranges (now n) = if has_name p n then range_of (known ranges n) else None
range_named p ranges (was n) = if has_name p n then range_of (known p.head n) else None

-- the greatest number of a range, and the least one negated
abbrev pub top : Option Interval → Option ℤ
top None = None
top (Some r) = kept (Some r.high)

abbrev pub bottom : Option Interval → Option ℤ
bottom None = None
bottom (Some r) = kept (Some (pos 0 -ℤ r.low))

-- an upper bound of u - w: the lesser of that which is known, and of that by ranges
abbrev pub bound : Pair → Differences → Name → Name → Option ℤ
bound p e u w = if same_name u w then Some (pos 0) else kept (least (e.bounds u w) (plus (top (range_named p e.ranges u)) (bottom (range_named p e.ranges w))))

-- an upper bound of the fall: the lesser of that which is known, and of that by the bounds of each variable's own way
abbrev pub fallen : Pair → Differences → Option ℤ
fallen p e = least e.fall (plus (bound p e (now p.above) (was p.above)) (bound p e (was p.below) (now p.below)))

-- ## One of two

-- the greater of two bounds is kept where one was known
abbrev pub hull_bound : Option ℤ → Option ℤ → Option ℤ → Option ℤ → Option ℤ
hull_bound None None a b = None
hull_bound x y a b = kept (greatest a b)

-- ## What is learned and forgotten

-- u - w is at most c
abbrev pub learned_bound : Name → Name → ℤ → (Name → Name → Option ℤ) → Name → Name → Option ℤ
learned_bound u w c bounds a b = if same_name u a && same_name w b then least (bounds a b) (kept (Some c)) else bounds a b

-- nothing is known of marked variables
abbrev pub unmarked_bounds : (ℕ → Bool) → (Name → Name → Option ℤ) → Name → Name → Option ℤ
unmarked_bounds marks bounds a b = if is_marked marks a || is_marked marks b then None else bounds a b

-- the fall isn't known any more where one of the two variables has changed
abbrev pub unmarked_fall : Pair → (ℕ → Bool) → Option ℤ → Option ℤ
unmarked_fall p marks fall = if marks p.below || marks p.above then None else fall

-- the variable that a value is, perhaps under conversions that keep its range, if it has a name
abbrev pub named_by : Pair → Option ℕ → Option ℕ
named_by p None = None
named_by p (Some n) = if has_name p n then Some n else None

abbrev pub named : Pair → Environment → PlainValue → Option ℕ
named p ranges v = named_by p (as_side (assess None v ranges)).variable
