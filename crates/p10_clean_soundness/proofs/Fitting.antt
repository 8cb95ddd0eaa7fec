-- Where a type has the results of an operator at the ends of two ranges, it has those between.
use Rattle.std.proofs.Common.{◌≡◌, true, false, Bool as Flag, sym, arith, ℤ, ◌≤ℤ◌, ◌+ℤ◌, ◌-ℤ◌, ◌*ℤ◌, refl, subst, Ok, Err}
use Rattle.std.proofs.lemmas.Int.{ints}
use Rattle.std.proofs.lemmas.Bool.{or_parts}
use Rattle.std.specs.Prelude.{if◌then◌else◌, is_err}
use Rattle.std.specs.Result.{IsOk}
use Rattle.p10_int.specs.declared.types.IntType.{IntType}
use Rattle.p10_int.specs.declared.operators.Stop.{Stop}
use Rattle.p10_int.specs.Types.{InRange, is_signed_of, holds}
use Rattle.p10_int.specs.Operators.{fitted}
use Rattle.p10_int.proofs.InRange.{holds_in}
use Rattle.p10_int.proofs.Reduced.{fitted_signed, fitted_unsigned}
use Rattle.p10_range.specs.Ranges.{Interval, between, IsMember}
use Rattle.p10_range.specs.Rows.{values_of}
use Rattle.p10_range.proofs.Ends.{between_least, hull_least, ends_have, products_monotone, Any}
use Rattle.p10_range.proofs.Holding.{value_member}
use Rattle.p10_range.proofs.Pairs.{fitted_goes}
use Rattle.p10_clean.specs.Operations.{at_some_ends}

-- a type has an exact result, or reduces it
abbrev pub Fits : IntType → ℤ → Type 0
Fits t z = is_signed_of t ≡ true → InRange t z

pub fits_where_ok : (t : IntType) (stop : Stop) (z : ℤ) → is_err (fitted t stop z) ≡ false → Fits t z
fits_where_ok t stop z e s = held (holds t z) refl (subst (λ r. is_err r ≡ false) (fitted_signed t stop z s) e)
  where
    held : (h : Flag) → holds t z ≡ h → is_err (if h then Ok z else Err stop) ≡ false → InRange t z
    held true h e = holds_in t z h
    held false h e = absurd cc

pub fitted_ok : (t : IntType) (stop : Stop) (z : ℤ) → Fits t z → IsOk (fitted t stop z)
fitted_ok t stop z fits = by_sign (is_signed_of t) refl
  where
    by_sign : (s : Flag) → is_signed_of t ≡ s → IsOk (fitted t stop z)
    by_sign true s = subst IsOk (sym (fitted_goes t stop z (fits s))) refl
    by_sign false s = subst IsOk (sym (fitted_unsigned t stop z s)) refl

-- ---- ends

-- something holds at no pair of ends of two ranges
pub record AtNoEnds (f : ℤ → ℤ → Flag) (a b : Interval) : Type 0 where
  pub lows : f a.low b.low ≡ false
  pub low_high : f a.low b.high ≡ false
  pub high_low : f a.high b.low ≡ false
  pub highs : f a.high b.high ≡ false

pub at_no_ends : (f : ℤ → ℤ → Flag) (a b : Interval) → at_some_ends f a b ≡ false → AtNoEnds f a b
at_no_ends f a b e =
    let p = or_parts _ _ e in
    let q = or_parts _ _ p.1 in
    let r = or_parts _ _ q.1 in
    record { lows = p.0; low_high = q.0; high_low = r.0; highs = r.1 }

pub between_fits : (t : IntType) (l h z : ℤ) → Fits t l → Fits t h → l ≤ℤ z → z ≤ℤ h → Fits t z
between_fits t l h z i j p q s = let u = i s in let v = j s in record { low = omega (arith, ints, u.low, p); high = omega (arith, ints, v.high, q) }

pub sum_fits : (t : IntType) (a b : Interval) (x y : ℤ) → IsMember a x → IsMember b y → Fits t (a.low +ℤ b.low) → Fits t (a.high +ℤ b.high) → Fits t (x +ℤ y)
sum_fits t a b x y p q i j = between_fits t _ _ _ i j (omega (arith, ints, p.above, q.above)) (omega (arith, ints, p.below, q.below))

pub difference_fits : (t : IntType) (a b : Interval) (x y : ℤ) → IsMember a x → IsMember b y → Fits t (a.low -ℤ b.high) → Fits t (a.high -ℤ b.low) → Fits t (x -ℤ y)
difference_fits t a b x y p q i j = between_fits t _ _ _ i j (omega (arith, ints, p.above, q.below)) (omega (arith, ints, p.below, q.above))

pub product_fits : (t : IntType) (a b : Interval) (x y : ℤ) → IsMember a x → IsMember b y
    → Fits t (a.low *ℤ b.low) → Fits t (a.low *ℤ b.high) → Fits t (a.high *ℤ b.low) → Fits t (a.high *ℤ b.high) → Fits t (x *ℤ y)
product_fits t a b x y p q i j k l s =
    let has = λ (z : ℤ) (fits : Fits t z). value_member t z (fits s) in
    let within = hull_least (between (a.low *ℤ b.low) (a.low *ℤ b.high)) (between (a.high *ℤ b.low) (a.high *ℤ b.high)) (values_of t)
    (between_least _ _ (values_of t) (has _ i) (has _ j)) (between_least _ _ (values_of t) (has _ k) (has _ l)) in
    let z = ends_have (λ x y. x *ℤ y) Any a b x y products_monotone tt p q in
    record { low = omega (arith, ints, within.from_low, z.above); high = omega (arith, ints, within.to_high, z.below) }
