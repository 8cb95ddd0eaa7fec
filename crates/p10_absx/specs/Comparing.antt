-- What a comparison that holds says of its sides (C99 6.5.8, 6.5.9).
use Rattle.std.specs.Prelude.{ℕ, if◌then◌else◌, Bool, true, false, ℤ, pos, ◌+ℤ◌, ◌-ℤ◌, Option, Some, None}
use Rattle.std.specs.Option.{option_map, option_and_then}
use Rattle.std.specs.Int.{int_min, int_max}
use Rattle.std.specs.Ordering.{int_eq}
use Rattle.p10_int.specs.declared.operators.BinOp.{BinOp}
use Rattle.p10_int.specs.declared.operators.BinOp.TheVariants.{Lt, Gt, Le, Ge, Eq, Ne}
use Rattle.p10_range.specs.Ranges.{Interval, from_to, inhabited_of, meet_of}
use Rattle.p10_absx.specs.Abstract.{Abstract}
use Rattle.p10_absx.specs.Environments.{Environment, known, learned}

-- whether an operator compares
abbrev pub is_comparison : BinOp → Bool
is_comparison Lt = true
is_comparison Gt = true
is_comparison Le = true
is_comparison Ge = true
is_comparison Eq = true
is_comparison Ne = true
is_comparison op = false

-- the comparison that holds exactly where one doesn't
abbrev pub contrary : BinOp → BinOp
contrary Lt = Ge
contrary Ge = Lt
contrary Gt = Le
contrary Le = Gt
contrary Eq = Ne
contrary Ne = Eq
contrary op = op

-- the comparison with its sides in the other order
abbrev pub turned : BinOp → BinOp
turned Lt = Gt
turned Gt = Lt
turned Le = Ge
turned Ge = Le
turned op = op

-- the interval without its least number, where that is z
abbrev pub least_dropped : ℤ → Interval → Interval
least_dropped z r = if int_eq r.low z then from_to (r.low +ℤ pos 1) r.high else r

-- the interval without its greatest number, where that is z
abbrev pub greatest_dropped : ℤ → Interval → Interval
greatest_dropped z r = if int_eq r.high z then from_to r.low (r.high -ℤ pos 1) else r

-- the numbers of the first interval that may stand in the comparison with one of the second; `!=` drops an end that is the
-- other side's only number
abbrev pub allowed : BinOp → Interval → Interval → Option Interval
allowed Lt a b = inhabited_of (from_to a.low (int_min a.high (b.high -ℤ pos 1)))
allowed Le a b = inhabited_of (from_to a.low (int_min a.high b.high))
allowed Gt a b = inhabited_of (from_to (int_max a.low (b.low +ℤ pos 1)) a.high)
allowed Ge a b = inhabited_of (from_to (int_max a.low b.low) a.high)
allowed Eq a b = meet_of a b
allowed Ne a b = if int_eq b.low b.high then inhabited_of (greatest_dropped b.low (least_dropped b.low a)) else Some a
allowed op a b = Some a

-- ## What is known after it

-- a side of a comparison: the variable that it is, perhaps under conversions that keep its range, and its value
pub record Side : Type 0 where
  pub variable : Option ℕ
  pub value : Option Abstract

-- something is known of a variable, which then lies in an interval too; no state is left where it can't
abbrev pub met_with : Environment → ℕ → Interval → Option Abstract → Option Environment
met_with env n r None = Some env
met_with env n r (Some a) = option_map (λ s. learned env n (record { range = s; offset = a.offset })) (meet_of a.range r)

-- a side lies in an interval: if it is a variable, this is known of it
abbrev pub side_met : Option ℕ → Interval → Environment → Option Environment
side_met None r env = Some env
side_met (Some n) r env = met_with env n r (known env n)

-- both sides of a comparison that holds, where both have values: each lies in what the other one, as it was before, allows
abbrev pub compared_values : BinOp → Option ℕ → Abstract → Option ℕ → Abstract → Environment → Option Environment
compared_values op left a right b env =
    option_and_then (λ r. option_and_then (λ s. option_and_then (side_met right s) (side_met left r env)) (allowed (turned op) b.range a.range))
    (allowed op a.range b.range)

-- what is known where a comparison of integers holds; no state is left where a side has no value
abbrev pub compared : BinOp → Side → Side → Environment → Option Environment
compared op left right env = of left.value right.value
  where
    of : Option Abstract → Option Abstract → Option Environment
    of (Some a) (Some b) = compared_values op left.variable a right.variable b env
    of a b = None
