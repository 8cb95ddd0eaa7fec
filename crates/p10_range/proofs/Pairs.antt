-- Where a row is there, some pair of numbers has a result.
use Rattle.std.proofs.Common.{◌≡◌, true, false, Bool as Flag, ap, sym, ◌∙◌, arith, ℤ, pos, negsuc, ◌≤ℤ◌, ◌<ℤ◌, ◌+ℤ◌, ◌-ℤ◌, ◌*ℤ◌, refl, subst, Some, Ok, Err}
use Rattle.std.proofs.lemmas.Int.{ints, clamps, by_lt_z}
use Rattle.std.specs.Prelude.{◌&&◌, if◌then◌else◌, int_le}
use Rattle.std.specs.Int.{int_min, int_max}
use Rattle.p10_int.specs.declared.types.IntType.{IntType}
use Rattle.p10_int.specs.declared.operators.Stop.{Stop}
use Rattle.p10_int.specs.declared.operators.Stop.TheVariants.{U1}
use Rattle.p10_int.specs.declared.operators.BinOp.TheVariants.{Add, Sub, Mul}
use Rattle.p10_int.specs.Types.{InRange, is_signed_of, least_of, greatest_of, holds}
use Rattle.p10_int.specs.Conversion.{reduced}
use Rattle.p10_int.specs.Operators.{fitted}
use Rattle.p10_int.proofs.Conversions.{reduced_keeps, zero_in}
use Rattle.p10_int.proofs.Reduced.{fitted_signed, fitted_unsigned}
use Rattle.p10_range.specs.Ranges.{Interval, IsInhabited, IsMember}
use Rattle.p10_range.specs.Rows.{values_of, clipped, exact_or_all, fitted_interval, sums, differences, products}
use Rattle.p10_range.specs.Laws.{Goes}
use Rattle.p10_range.proofs.Signs.{le_true, mul_right, mul_right_falls, mul_commutes}
use Rattle.p10_range.proofs.Holding.{met}
use Rattle.p10_range.proofs.Growing.{inhabited_gives}

-- ---- what an exact result that the type has gives
in_holds : (t : IntType) (z : ℤ) → InRange t z → holds t z ≡ true
in_holds t z i = both (int_le (least_of t) z) (int_le z (greatest_of t)) (le_true _ _ i.low) (le_true _ _ i.high)
  where
    both : (c d : Flag) → c ≡ true → d ≡ true → c && d ≡ true
    both true true c d = refl
    both true false c d = absurd cc
    both false d c e = absurd cc

pub fitted_goes : (t : IntType) (stop : Stop) (z : ℤ) → InRange t z → fitted t stop z ≡ Ok z
fitted_goes t stop z i = by_sign (is_signed_of t) refl
  where
    by_sign : (s : Flag) → is_signed_of t ≡ s → fitted t stop z ≡ Ok z
    by_sign true s = fitted_signed t stop z s ∙ ap (λ (h : Flag). if h then Ok z else Err stop) (in_holds t z i)
    by_sign false s = fitted_unsigned t stop z s ∙ ap Ok (reduced_keeps t z i)

pub lowest : (i : Interval) → IsInhabited i → IsMember i i.low
lowest i o = record { above = omega (arith, ints); below = o }

pub highest : (i : Interval) → IsInhabited i → IsMember i i.high
highest i o = record { above = o; below = omega (arith, ints) }

-- a row that is fitted: of a signed type some number of the exact interval is a value, of an unsigned one nothing stops
pub by_fit : (t : IntType) (i r : Interval) (P : Type 0) → fitted_interval t i ≡ Some r
    → ((w : ℤ) → IsMember i w → InRange t w → P) → (is_signed_of t ≡ false → P) → P
unfolding fitted_interval
by_fit t i r P e some any = by_sign (is_signed_of t) refl e
  where
    by_sign : (s : Flag) → is_signed_of t ≡ s → (if s then clipped t i else Some (exact_or_all t i)) ≡ Some r → P
    by_sign true s f =
        let g = inhabited_gives (met i (values_of t)) r f in
        let l : r.low ≡ int_max i.low (least_of t) = ap (λ (k : Interval). k.low) g.0 in
        let h : r.high ≡ int_min i.high (greatest_of t) = ap (λ (k : Interval). k.high) g.0 in
        some r.low (record { above = omega (arith, ints, clamps, l); below = omega (arith, ints, clamps, l, h, g.1) })
        (record { low = omega (arith, ints, clamps, l); high = omega (arith, ints, clamps, l, h, g.1) })
    by_sign false s f = any s

-- ---- sums and differences
pub sums_go : (t : IntType) (a b r : Interval) → IsInhabited a → IsInhabited b → fitted_interval t (sums a b) ≡ Some r → Goes Add t a b
sums_go t a b r i j e =
    by_fit t (sums a b) r (Goes Add t a b) e
    (λ w m v. split w m v (int_min a.high (w -ℤ b.low)) refl)
    (λ s. record { x = a.low; y = b.low; z = reduced t (a.low +ℤ b.low); left = lowest a i; right = lowest b j; result = fitted_unsigned t U1 _ s })
  where
    split : (w : ℤ) → IsMember (sums a b) w → InRange t w → (x : ℤ) → x ≡ int_min a.high (w -ℤ b.low) → Goes Add t a b
    split w m v x f =
        let whole : x +ℤ (w -ℤ x) ≡ w = omega (arith, ints) in
        record {
          x = x;
          y = w -ℤ x;
          z = w;
          left = record { above = omega (arith, ints, clamps, f, m.above, i); below = omega (arith, ints, clamps, f) };
          right = record { above = omega (arith, ints, clamps, f); below = omega (arith, ints, clamps, f, m.below, j) };
          result = ap (fitted t U1) whole ∙ fitted_goes t U1 w v;
        }

pub differences_go : (t : IntType) (a b r : Interval) → IsInhabited a → IsInhabited b → fitted_interval t (differences a b) ≡ Some r → Goes Sub t a b
differences_go t a b r i j e =
    by_fit t (differences a b) r (Goes Sub t a b) e
    (λ w m v. split w m v (int_min a.high (w +ℤ b.high)) refl)
    (λ s. record { x = a.low; y = b.low; z = reduced t (a.low -ℤ b.low); left = lowest a i; right = lowest b j; result = fitted_unsigned t U1 _ s })
  where
    split : (w : ℤ) → IsMember (differences a b) w → InRange t w → (x : ℤ) → x ≡ int_min a.high (w +ℤ b.high) → Goes Sub t a b
    split w m v x f =
        let whole : x -ℤ (x -ℤ w) ≡ w = omega (arith, ints) in
        record {
          x = x;
          y = x -ℤ w;
          z = w;
          left = record { above = omega (arith, ints, clamps, f, m.above, i); below = omega (arith, ints, clamps, f) };
          right = record { above = omega (arith, ints, clamps, f, m.below, j); below = omega (arith, ints, clamps, f) };
          result = ap (fitted t U1) whole ∙ fitted_goes t U1 w v;
        }

-- ---- products
-- a pair with a product of the type
times : (t : IntType) (a b : Interval) (x y : ℤ) → IsMember a x → IsMember b y → InRange t (x *ℤ y) → Goes Mul t a b
times t a b x y p q v = record { x = x; y = y; z = x *ℤ y; left = p; right = q; result = fitted_goes t U1 (x *ℤ y) v }

zero_times : (y : ℤ) → pos 0 *ℤ y ≡ pos 0
zero_times (pos n) = omega (arith, ints)
zero_times (negsuc n) = omega (arith, ints)

times_zero : (x : ℤ) → x *ℤ pos 0 ≡ pos 0
times_zero x = mul_commutes x (pos 0) ∙ zero_times x

-- where all products are above 0 the least is a value, where all are below 0 the greatest
pub least_product : (t : IntType) (w p : ℤ) → InRange t w → p ≤ℤ w → pos 0 ≤ℤ p → InRange t p
least_product t w p v h z = let o = zero_in t in record { low = omega (arith, ints, o.low, z); high = omega (arith, ints, v.high, h) }

greatest_product : (t : IntType) (w p : ℤ) → InRange t w → w ≤ℤ p → p ≤ℤ pos 0 → InRange t p
greatest_product t w p v h z = let o = zero_in t in record { low = omega (arith, ints, v.low, h); high = omega (arith, ints, o.high, z) }

above_four : (p q r s m w : ℤ) → m ≤ℤ p → m ≤ℤ q → m ≤ℤ r → m ≤ℤ s → int_min (int_min p q) (int_min r s) ≤ℤ w → m ≤ℤ w
above_four p q r s m w a b c d h = omega (arith, ints, clamps, a, b, c, d, h)

below_four : (p q r s m w : ℤ) → p ≤ℤ m → q ≤ℤ m → r ≤ℤ m → s ≤ℤ m → w ≤ℤ int_max (int_max p q) (int_max r s) → w ≤ℤ m
below_four p q r s m w a b c d h = omega (arith, ints, clamps, a, b, c, d, h)

mul_left : (v x y : ℤ) → x ≤ℤ y → pos 0 ≤ℤ v → (v *ℤ x) ≤ℤ (v *ℤ y)
mul_left v x y h p = rw (mul_commutes v x, mul_commutes v y) (mul_right x y v h p)

mul_left_falls : (v x y : ℤ) → x ≤ℤ y → v ≤ℤ pos 0 → (v *ℤ y) ≤ℤ (v *ℤ x)
mul_left_falls v x y h p = rw (mul_commutes v x, mul_commutes v y) (mul_right_falls x y v h p)

pub products_go : (t : IntType) (a b r : Interval) → IsInhabited a → IsInhabited b → fitted_interval t (products a b) ≡ Some r → Goes Mul t a b
products_go t a b r i j e =
    by_fit t (products a b) r (Goes Mul t a b) e
    (λ w m v. by_lt_z a.high (pos 0)
    (λ an. by_lt_z b.high (pos 0)
    (λ bn. both_negative w m v an bn)
    (λ bz. by_lt_z (pos 0) b.low (λ bp. left_negative w m v an bp) (λ bz'. right_zero bz' bz)))
    (λ az. by_lt_z (pos 0) a.low
    (λ ap. by_lt_z b.high (pos 0)
    (λ bn. right_negative w m v ap bn)
    (λ bz. by_lt_z (pos 0) b.low (λ bp. both_positive w m v ap bp) (λ bz'. right_zero bz' bz)))
    (λ az'. left_zero az' az)))
    (λ s. record { x = a.low; y = b.low; z = reduced t (a.low *ℤ b.low); left = lowest a i; right = lowest b j; result = fitted_unsigned t U1 _ s })
  where
    zero : InRange t (pos 0)
    zero = zero_in t

    left_zero : a.low ≤ℤ pos 0 → pos 0 ≤ℤ a.high → Goes Mul t a b
    left_zero l h = times t a b (pos 0) b.low (record { above = l; below = h }) (lowest b j) (subst (InRange t) (sym (zero_times b.low)) zero)

    right_zero : b.low ≤ℤ pos 0 → pos 0 ≤ℤ b.high → Goes Mul t a b
    right_zero l h = times t a b a.low (pos 0) (lowest a i) (record { above = l; below = h }) (subst (InRange t) (sym (times_zero a.low)) zero)

    both_negative : (w : ℤ) → IsMember (products a b) w → InRange t w → a.high <ℤ pos 0 → b.high <ℤ pos 0 → Goes Mul t a b
    both_negative w m v an bn =
        let az : a.high ≤ℤ pos 0 = omega (arith, ints, an) in
        let bz : b.high ≤ℤ pos 0 = omega (arith, ints, bn) in
        let lh = mul_right_falls a.low a.high b.high i bz in
        let hl = mul_left_falls a.high b.low b.high j az in
        let ll = mul_left_falls a.low b.low b.high j (omega (arith, ints, i, az)) in
        let none = subst (λ (p : ℤ). p ≤ℤ (a.high *ℤ b.high)) (zero_times b.high) (mul_right_falls a.high (pos 0) b.high az bz) in
        times t a b a.high b.high (highest a i) (highest b j)
        (least_product t w (a.high *ℤ b.high) v
        (above_four (a.low *ℤ b.low) (a.low *ℤ b.high) (a.high *ℤ b.low) (a.high *ℤ b.high) (a.high *ℤ b.high) w
        (omega (arith, ints, ll, lh)) lh hl (omega (arith, ints)) m.above) none)

    both_positive : (w : ℤ) → IsMember (products a b) w → InRange t w → pos 0 <ℤ a.low → pos 0 <ℤ b.low → Goes Mul t a b
    both_positive w m v ap bp =
        let az : pos 0 ≤ℤ a.low = omega (arith, ints, ap) in
        let bz : pos 0 ≤ℤ b.low = omega (arith, ints, bp) in
        let hl = mul_right a.low a.high b.low i bz in
        let lh = mul_left a.low b.low b.high j az in
        let hh = mul_left a.high b.low b.high j (omega (arith, ints, i, az)) in
        let none = subst (λ (p : ℤ). p ≤ℤ (a.low *ℤ b.low)) (zero_times b.low) (mul_right (pos 0) a.low b.low az bz) in
        times t a b a.low b.low (lowest a i) (lowest b j)
        (least_product t w (a.low *ℤ b.low) v
        (above_four (a.low *ℤ b.low) (a.low *ℤ b.high) (a.high *ℤ b.low) (a.high *ℤ b.high) (a.low *ℤ b.low) w
        (omega (arith, ints)) lh hl (omega (arith, ints, hl, hh)) m.above) none)

    left_negative : (w : ℤ) → IsMember (products a b) w → InRange t w → a.high <ℤ pos 0 → pos 0 <ℤ b.low → Goes Mul t a b
    left_negative w m v an bp =
        let az : a.high ≤ℤ pos 0 = omega (arith, ints, an) in
        let bz : pos 0 ≤ℤ b.low = omega (arith, ints, bp) in
        let ll = mul_right a.low a.high b.low i bz in
        let hh = mul_left_falls a.high b.low b.high j az in
        let lh = mul_left_falls a.low b.low b.high j (omega (arith, ints, i, az)) in
        let none = subst (λ (p : ℤ). (a.high *ℤ b.low) ≤ℤ p) (zero_times b.low) (mul_right a.high (pos 0) b.low az bz) in
        times t a b a.high b.low (highest a i) (lowest b j)
        (greatest_product t w (a.high *ℤ b.low) v
        (below_four (a.low *ℤ b.low) (a.low *ℤ b.high) (a.high *ℤ b.low) (a.high *ℤ b.high) (a.high *ℤ b.low) w
        ll (omega (arith, ints, lh, ll)) (omega (arith, ints)) hh m.below) none)

    right_negative : (w : ℤ) → IsMember (products a b) w → InRange t w → pos 0 <ℤ a.low → b.high <ℤ pos 0 → Goes Mul t a b
    right_negative w m v ap bn =
        let az : pos 0 ≤ℤ a.low = omega (arith, ints, ap) in
        let bz : b.high ≤ℤ pos 0 = omega (arith, ints, bn) in
        let ll = mul_left a.low b.low b.high j az in
        let hh = mul_right_falls a.low a.high b.high i bz in
        let hl = mul_left a.high b.low b.high j (omega (arith, ints, i, az)) in
        let none = subst (λ (p : ℤ). (a.low *ℤ b.high) ≤ℤ p) (times_zero a.low) (mul_left a.low b.high (pos 0) bz az) in
        times t a b a.low b.high (lowest a i) (highest b j)
        (greatest_product t w (a.low *ℤ b.high) v
        (below_four (a.low *ℤ b.low) (a.low *ℤ b.high) (a.high *ℤ b.low) (a.high *ℤ b.high) (a.low *ℤ b.high) w
        ll (omega (arith, ints)) (omega (arith, ints, hl, hh)) hh m.below) none)
