-- By how much a value differs from a name, at most.
use Rattle.std.specs.Prelude.{ℕ, nat_eq, nat_le, ◌&&◌, if◌then◌else◌, Bool, true, false, ℤ, pos, negsuc, ◌-ℤ◌, int_le, Option, Some, None}
use Rattle.std.specs.Int.{int_div_euclid}
use Rattle.std.specs.Ordering.{int_eq}
use Rattle.p10_int.specs.declared.operators.BinOp.{BinOp}
use Rattle.p10_int.specs.declared.operators.BinOp.TheVariants.{Add, Sub, Div}
use Rattle.p10_int.specs.Types.{is_signed_of}
use Rattle.p10_range.specs.Ranges.{Interval}
use Rattle.p10_core.specs.Types.{PlainType}
use Rattle.p10_core.specs.Rows.{is_integer}
use Rattle.p10_core.specs.Constants.{integer_of}
use Rattle.p10_core.specs.Typed.{PlainValue, value, PlainForm, constant, convert, cast, binary}
use Rattle.p10_absx.specs.Environments.{Environment}
use Rattle.p10_absx.specs.Assessing.{are_integers, abstract_value}
use Rattle.p10_diff.specs.Bounds.{least, plus, kept}
use Rattle.p10_diff.specs.Differences.{Name, now, Pair, Differences, range_of, range_named, top, bottom, bound, named}

-- the range of a value
abbrev pub value_range : Environment → PlainValue → Option Interval
value_range ranges v = range_of (abstract_value None ranges v)

-- whether an operator's result at a type is exact, of integers: a signed type has the exact result or stops (C99 6.5p5)
abbrev pub is_exact : PlainType → PlainValue → PlainValue → Bool
is_exact t a b = are_integers a b && (is_integer t && is_signed_of (integer_of t))

-- ## Halving

-- whether a value is a constant, perhaps under conversions
abbrev pub is_constant : PlainValue → Bool
is_constant (value at t (constant z)) = true
is_constant (value at t (convert v)) = is_constant v
is_constant (value at t (cast v)) = is_constant v
is_constant v = false

-- a number, if it is at least 2
abbrev pub at_least_two : ℤ → Option ℕ
at_least_two (pos n) = if nat_le 2 n then Some n else None
at_least_two (negsuc n) = None

-- the only number of a range, if that is at least 2
abbrev pub only_divisor : Option Interval → Option ℕ
only_divisor None = None
only_divisor (Some r) = if int_eq r.low r.high then at_least_two r.low else None

-- a constant of at least 2
abbrev pub divisor : Environment → PlainValue → Option ℕ
divisor ranges v = if is_constant v then only_divisor (value_range ranges v) else None

-- y - x, of two variables
pub record Distance : Type 0 where
  pub below : ℕ
  pub above : ℕ

abbrev pub distance_of : Option ℕ → Option ℕ → Option Distance
distance_of (Some above) (Some below) = Some (record { below = below; above = above })
distance_of above below = None

abbrev pub distance : Pair → Environment → PlainValue → Option Distance
distance p ranges (value at t (binary Sub a b)) = if is_exact t a b then distance_of (named p ranges a) (named p ranges b) else None
distance p ranges v = None

-- (y - x) / k
pub record Part : Type 0 where
  pub of : Distance
  pub by : ℕ

abbrev pub part_of : Option Distance → Option ℕ → Option Part
part_of (Some d) (Some k) = Some (record { of = d; by = k })
part_of d k = None

abbrev pub part : Pair → Environment → PlainValue → Option Part
part p ranges (value at t (binary Div a b)) = if is_exact t a b then part_of (distance p ranges a) (divisor ranges b) else None
part p ranges v = None

-- x + (y - x) / k where x is at most y: the part of the way from x to y, and by how much y is above x, at least and at most
pub record Midpoint : Type 0 where
  pub way : Distance
  pub by : ℕ
  pub at_least : ℤ
  pub at_most : ℤ

abbrev pub midpoint_between : Part → Option ℤ → Option ℤ → Option Midpoint
midpoint_between q (Some low) (Some high) = if int_le low (pos 0) then Some (record { way = q.of; by = q.by; at_least = pos 0 -ℤ low; at_most = high }) else None
midpoint_between q low high = None

abbrev pub midpoint_of : Pair → Differences → Option ℕ → Option Part → Option Midpoint
midpoint_of p e (Some x) (Some q) = if nat_eq x q.of.below then midpoint_between q (bound p e (now x) (now q.of.above)) (bound p e (now q.of.above) (now x)) else None
midpoint_of p e x q = None

abbrev pub midpoint : Pair → Differences → PlainValue → PlainValue → Option Midpoint
midpoint p e a b = midpoint_of p e (named p e.ranges a) (part p e.ranges b)

-- a midpoint is above x by at most its part of the greatest distance, and below y by at least the rest of the least one
abbrev pub midpoint_up : Pair → Differences → Midpoint → Name → Option ℤ
midpoint_up p e m w =
    least (plus (bound p e (now m.way.below) w) (Some (int_div_euclid m.at_most (pos m.by))))
    (plus (bound p e (now m.way.above) w) (Some (int_div_euclid m.at_least (pos m.by) -ℤ m.at_least)))

abbrev pub midpoint_low : Pair → Differences → Midpoint → Name → Option ℤ
midpoint_low p e m w =
    least (plus (bound p e w (now m.way.below)) (Some (pos 0 -ℤ int_div_euclid m.at_least (pos m.by))))
    (plus (bound p e w (now m.way.above)) (Some (m.at_most -ℤ int_div_euclid m.at_most (pos m.by))))

-- ## Values

-- by how much a number of a range is above a name, and below it, at most
abbrev pub range_up : Pair → Environment → Option Interval → Name → Option ℤ
range_up p ranges r w = plus (top r) (bottom (range_named p ranges w))

abbrev pub range_low : Pair → Environment → Option Interval → Name → Option ℤ
range_low p ranges r w = plus (top (range_named p ranges w)) (bottom r)

-- a variable's own bounds
abbrev pub named_up : Pair → Differences → Option ℕ → Name → Option ℤ
named_up p e None w = None
named_up p e (Some n) w = bound p e (now n) w

abbrev pub named_low : Pair → Differences → Option ℕ → Name → Option ℤ
named_low p e None w = None
named_low p e (Some n) w = bound p e w (now n)

-- a midpoint's bounds, or those of a sum
abbrev pub sum_up : Pair → Differences → Option Midpoint → Name → Option ℤ → Option ℤ
sum_up p e (Some m) w sum = midpoint_up p e m w
sum_up p e None w sum = sum

abbrev pub sum_low : Pair → Differences → Option Midpoint → Name → Option ℤ → Option ℤ
sum_low p e (Some m) w sum = midpoint_low p e m w
sum_low p e None w sum = sum

-- by how much an operator's result is above a name, where its operands are so much above it: a midpoint, an exact sum or difference
abbrev pub operator_up : Pair → Differences → BinOp → PlainType → PlainValue → PlainValue → Name → Option ℤ → Option ℤ → Option ℤ
operator_up p e Add t a b w left right =
    if is_exact t a b then sum_up p e (midpoint p e a b) w (least (plus left (top (value_range e.ranges b))) (plus right (top (value_range e.ranges a)))) else None
operator_up p e Sub t a b w left right = if is_exact t a b then plus left (bottom (value_range e.ranges b)) else None
operator_up p e op t a b w left right = None

-- the same below
abbrev pub operator_low : Pair → Differences → BinOp → PlainType → PlainValue → PlainValue → Name → Option ℤ → Option ℤ → Option ℤ
operator_low p e Add t a b w left right =
    if is_exact t a b then sum_low p e (midpoint p e a b) w (least (plus left (bottom (value_range e.ranges b))) (plus right (bottom (value_range e.ranges a)))) else None
operator_low p e Sub t a b w left right = if is_exact t a b then plus left (top (value_range e.ranges b)) else None
operator_low p e op t a b w left right = None

-- a bound by a row, and by the range of the value
abbrev pub met_up : Pair → PlainValue → Differences → Name → Option ℤ → Option ℤ
met_up p v e w row = kept (least row (range_up p e.ranges (value_range e.ranges v) w))

abbrev pub met_low : Pair → PlainValue → Differences → Name → Option ℤ → Option ℤ
met_low p v e w row = kept (least row (range_low p e.ranges (value_range e.ranges v) w))

-- a value's own row: for operators, and for variables, perhaps under conversions that keep their ranges
abbrev pub up_row : Pair → PlainValue → Differences → Name → Option ℤ
up_row p (value at t (binary op a b)) e w = operator_up p e op t a b w (met_up p a e w (up_row p a e w)) (met_up p b e w (up_row p b e w))
up_row p v e w = named_up p e (named p e.ranges v) w

abbrev pub low_row : Pair → PlainValue → Differences → Name → Option ℤ
low_row p (value at t (binary op a b)) e w = operator_low p e op t a b w (met_low p a e w (low_row p a e w)) (met_low p b e w (low_row p b e w))
low_row p v e w = named_low p e (named p e.ranges v) w

-- v - w is at most
abbrev pub up : Pair → PlainValue → Differences → Name → Option ℤ
up p v e w = met_up p v e w (up_row p v e w)

-- w - v is at most
abbrev pub low : Pair → PlainValue → Differences → Name → Option ℤ
low p v e w = met_low p v e w (low_row p v e w)
