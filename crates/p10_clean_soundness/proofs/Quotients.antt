-- Quotients that a type has: all but those by 0, and that of the least value of a signed type by -1.
use Rattle.std.proofs.Common.{◌≡◌, ℕ, zero, suc, ◌≤◌, true, false, Bool as Flag, ap, sym, ◌∙◌, arith, ℤ, pos, negsuc, ◌<ℤ◌, ◌≤ℤ◌, ◌+ℤ◌, refl, subst, Result, Ok, Err, ◌⊎◌, inl, inr}
use Rattle.std.proofs.lemmas.Int.{ints, by_lt_z}
use Rattle.std.proofs.lemmas.Bool.{or_parts}
use Rattle.std.proofs.Math.Nat.{div-le_self, div-mul-le_self}
use Rattle.std.specs.Prelude.{◌&&◌, if◌then◌else◌, int_div, int_rem, int_le}
use Rattle.std.specs.Result.{IsOk}
use Rattle.std.specs.Ordering.{int_eq}
use Rattle.p10_int.specs.declared.types.IntType.{IntType}
use Rattle.p10_int.specs.declared.types.IntType.TheVariants.{Bool, Char, SChar, UChar, Short, UShort, Int, UInt, Long, ULong, LLong, ULLong}
use Rattle.p10_int.specs.declared.operators.Stop.{Stop}
use Rattle.p10_int.specs.declared.operators.Stop.TheVariants.{U1, U2}
use Rattle.p10_int.specs.Types.{InRange, is_signed_of, least_of, greatest_of}
use Rattle.p10_int.specs.Operators.{fitted, quotient, remainder, unless_stopped}
use Rattle.p10_int.proofs.Conversions.{zero_in, one_in}
use Rattle.p10_range.specs.Ranges.{Interval, IsMember}
use Rattle.p10_range.proofs.Signs.{le_true, div_falls}
use Rattle.p10_range.proofs.Growing.{quotient_stays}
use Rattle.p10_clean.specs.Operations.{has_number, quotient_stops}
use Rattle.p10_clean_soundness.proofs.Fitting.{Fits, fitted_ok}

-- the ends of a signed type
mirrored : (t : IntType) → is_signed_of t ≡ true → least_of t +ℤ greatest_of t ≡ negsuc 0
mirrored Bool s = absurd cc
mirrored Char s = refl
mirrored SChar s = refl
mirrored UChar s = absurd cc
mirrored Short s = refl
mirrored UShort s = absurd cc
mirrored Int s = refl
mirrored UInt s = absurd cc
mirrored Long s = refl
mirrored ULong s = absurd cc
mirrored LLong s = refl
mirrored ULLong s = absurd cc

-- a quotient by a negative divisor is a value, where the dividend isn't the least or the divisor isn't -1
mirror_stays : (t : IntType) (x : ℤ) (m : ℕ) → is_signed_of t ≡ true → InRange t x → (least_of t <ℤ x) ⊎ (1 ≤ m) → InRange t (int_div x (negsuc m))
mirror_stays t (pos n) m s i o =
    let d = div-le_self n (suc m) in
    let e = mirrored t s in
    let z = zero_in t in
    record { low = omega (arith, ints, d, e, i.high); high = omega (arith, ints, z.high) }
mirror_stays t (negsuc n) m s i o =
    let e = mirrored t s in
    let z = zero_in t in
    record { low = omega (arith, ints, z.low); high = elim o [ inl h ↦ above h | inr h ↦ halved h ] }
  where
    above : least_of t <ℤ negsuc n → int_div (negsuc n) (negsuc m) ≤ℤ greatest_of t
    above h = let d = div-le_self (suc n) (suc m) in let e = mirrored t s in omega (arith, ints, d, e, h)

    halved : 1 ≤ m → int_div (negsuc n) (negsuc m) ≤ℤ greatest_of t
    halved h =
        let d = div_falls (suc n) 2 (suc m) (omega arith) (omega (arith, h)) in
        let k = div-mul-le_self (suc n) 2 in
        let e = mirrored t s in
        let u = one_in t in
        omega (arith, ints, d, k, e, i.low, u.high)

-- ---- numbers of a range
has : (r : Interval) (z : ℤ) → IsMember r z → has_number r z ≡ true
has r z m = ap (λ (b : Flag). b && int_le z r.high) (le_true r.low z m.above) ∙ le_true z r.high m.below

other : (r : Interval) (z y : ℤ) → IsMember r y → has_number r z ≡ false → y ≡ z → ⊥
other r z y m e s = let h = has r z (subst (IsMember r) s m) in absurd cc

-- a range without 0 has numbers other than it
not_zero : (b : Interval) (y : ℤ) → IsMember b y → has_number b (pos 0) ≡ false → int_eq y (pos 0) ≡ false
not_zero b (pos zero) m e = absurd (other b (pos 0) (pos 0) m e refl)
not_zero b (pos (suc n)) m e = grind (arith, ints)
not_zero b (negsuc n) m e = refl

-- ---- quotients
least_apart : (t : IntType) (a b : Interval) (x : ℤ) → has_number a (least_of t) && has_number b (negsuc 0) ≡ false
    → IsMember a x → IsMember b (negsuc 0) → InRange t x → least_of t <ℤ x
least_apart t a b x e p q i =
    by_lt_z (least_of t) x (λ h. h)
    (λ h. let same : x ≡ least_of t = omega (arith, ints, h, i.low) in
    let l = has a (least_of t) (subst (IsMember a) same p) in
    let m = has b (negsuc 0) q in
    let f : true && true ≡ false = ap (λ (c : Flag). c && true) (sym l) ∙ (ap (λ (c : Flag). has_number a (least_of t) && c) (sym m) ∙ e) in
    absurd cc)

quotient_fits : (t : IntType) (a b : Interval) (x y : ℤ) → is_signed_of t && (has_number a (least_of t) && has_number b (negsuc 0)) ≡ false
    → has_number b (pos 0) ≡ false → IsMember a x → IsMember b y → InRange t x → Fits t (int_div x y)
quotient_fits t a b x (pos zero) e z p q i s = absurd (other b (pos 0) (pos 0) q z refl)
quotient_fits t a b x (pos (suc n)) e z p q i s = elim (quotient_stays t x (pos (suc n)) i) [ inl r ↦ r | inr h ↦ absurd (omega (arith, ints, h)) ]
quotient_fits t a b x (negsuc zero) e z p q i s =
    mirror_stays t x 0 s i (inl (least_apart t a b x (ap (λ (c : Flag). c && (has_number a (least_of t) && has_number b (negsuc 0))) (sym s) ∙ e) p q i))
quotient_fits t a b x (negsuc (suc n)) e z p q i s = mirror_stays t x (suc n) s i (inr (omega arith))

pub quotient_ok : (t : IntType) (a b : Interval) (x y : ℤ) → quotient_stops t a b ≡ false → IsMember a x → IsMember b y → InRange t x → IsOk (quotient t x y)
unfolding quotient
quotient_ok t a b x y e p q i =
    let parts = or_parts _ _ e in
    subst (λ (z : Flag). IsOk (if z then Err U2 else fitted t U1 (int_div x y))) (sym (not_zero b y q parts.0))
    (fitted_ok t U1 (int_div x y) (quotient_fits t a b x y parts.1 parts.0 p q i))

pub remainder_ok : (t : IntType) (x y : ℤ) → IsOk (quotient t x y) → IsOk (remainder t x y)
unfolding remainder
remainder_ok t x y ok = unless (quotient t x y) ok
  where
    unless : (o : Result ℤ Stop) → IsOk o → IsOk (unless_stopped o (int_rem x y))
    unless (Ok q) ok = refl
    unless (Err stop) ok = absurd cc
