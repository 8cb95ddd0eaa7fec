-- The values of types are small.
use Rattle.std.proofs.Common.{ℤ, ◌≤ℤ◌, arith, FitsSigned}
use Rattle.std.proofs.lemmas.Int.{ints}
use Rattle.std.specs.Int.{w128}
use Rattle.p10_int.specs.declared.types.IntType.{IntType}
use Rattle.p10_int.specs.Types.{InRange, least_of, greatest_of}
use Rattle.p10_int.proofs.Ranges.{wide_in}
use Rattle.p10_int.proofs.Conversions.{zero_in}
use Rattle.p10_range.specs.Ranges.{Interval, IsMember, IsWithin}
use Rattle.p10_range.specs.private.Small.{IsSmall}
use Rattle.p10_range.specs.Rows.{values_of}

pub ends_in : (t : IntType) → InRange t (least_of t) × InRange t (greatest_of t)
ends_in t = let z = zero_in t in (record { low = omega (arith, ints); high = omega (arith, ints, z.low, z.high) }, record { low = omega (arith, ints, z.low, z.high); high = omega (arith, ints) })

pub values_small : (t : IntType) → IsSmall (values_of t)
values_small t =
    let e = ends_in t in
    let l = wide_in t (least_of t) e.0 in
    let h = wide_in t (greatest_of t) e.1 in
    record { small_low = l.low; small_high = h.high }

pub small_in : (t : IntType) (r : Interval) → IsWithin r (values_of t) → IsSmall r
small_in t r w = let v = values_small t in record { small_low = omega (arith, ints, w.from_low, v.small_low); small_high = omega (arith, ints, w.to_high, v.small_high) }

-- the ends of an interval of values are values
pub ends_of : (t : IntType) (r : Interval) → r.low ≤ℤ r.high → IsWithin r (values_of t) → InRange t r.low × InRange t r.high
ends_of t r o w = (record { low = w.from_low; high = omega (arith, ints, w.to_high, o) }, record { low = omega (arith, ints, w.from_low, o); high = w.to_high })

pub fits_in : (t : IntType) (z : ℤ) → InRange t z → FitsSigned w128 z
fits_in t z i = let w = wide_in t z i in omega (arith, ints, w.low, w.high)

-- a number of an interval of values is a value
pub member_in : (t : IntType) (r : Interval) (x : ℤ) → IsWithin r (values_of t) → IsMember r x → InRange t x
member_in t r x w m = record { low = omega (arith, ints, w.from_low, m.above); high = omega (arith, ints, w.to_high, m.below) }
