-- Where a row of quotients or remainders is there, some pair of numbers has a result, except for the least value by -1.
use Rattle.std.proofs.Common.{◌≡◌, ℕ, zero, suc, ◌≤◌, true, false, Bool as Flag, ap, sym, ◌∙◌, arith, ℤ, pos, negsuc, ◌≤ℤ◌, ◌<ℤ◌, ◌+ℤ◌, refl, subst, Some, None, Ok, Err, ◌⊎◌, inl, inr}
use Rattle.std.proofs.lemmas.Int.{ints, clamps, by_lt_z}
use Rattle.std.proofs.Math.Nat.{div-le_self, div-mul-le_self}
use Rattle.std.specs.Prelude.{if◌then◌else◌, int_div, int_rem, int_le, int_lt}
use Rattle.std.specs.Ordering.{int_eq}
use Rattle.p10_int.specs.declared.types.IntType.{IntType}
use Rattle.p10_int.specs.declared.types.IntType.TheVariants.{Bool, Char, SChar, UChar, Short, UShort, Int, UInt, Long, ULong, LLong, ULLong}
use Rattle.p10_int.specs.declared.operators.Stop.TheVariants.{U1, U2}
use Rattle.p10_int.specs.declared.operators.BinOp.TheVariants.{Div, Rem}
use Rattle.p10_int.specs.Types.{InRange, is_signed_of, least_of, greatest_of}
use Rattle.p10_int.specs.Operators.{fitted, quotient}
use Rattle.p10_int.proofs.Ranges.{least_unsigned}
use Rattle.p10_int.proofs.Conversions.{zero_in, one_in}
use Rattle.p10_int.proofs.Quotients.{rest_stands}
use Rattle.p10_range.specs.Ranges.{Interval, IsInhabited, IsMember, IsWithin}
use Rattle.p10_range.specs.Rows.{values_of, clipped, magnitude, up_to_magnitude, quotients, quotients_at_ends, rests, remainders}
use Rattle.p10_range.specs.Laws.{Goes, IsLeastByMinusOne}
use Rattle.p10_range.proofs.Signs.{of_not_le, of_lt, div_falls}
use Rattle.p10_range.proofs.Growing.{quotient_stays}
use Rattle.p10_range.proofs.Pairs.{fitted_goes, lowest, highest}

quotient_goes : (t : IntType) (x y : ℤ) → int_eq y (pos 0) ≡ false → InRange t (int_div x y) → quotient t x y ≡ Ok (int_div x y)
unfolding quotient
quotient_goes t x y e v = ap (λ (z : Flag). if z then Err U2 else fitted t U1 (int_div x y)) e ∙ fitted_goes t U1 (int_div x y) v

-- the ends of a signed type
mirrored : (t : IntType) → is_signed_of t ≡ true → least_of t +ℤ greatest_of t ≡ negsuc 0
mirrored Bool s = absurd cc
mirrored Char s = refl
mirrored SChar s = refl
mirrored UChar s = absurd cc
mirrored Short s = refl
mirrored UShort s = absurd cc
mirrored Int s = refl
mirrored UInt s = absurd cc
mirrored Long s = refl
mirrored ULong s = absurd cc
mirrored LLong s = refl
mirrored ULLong s = absurd cc

-- a quotient by a negative divisor is a value, where the dividend isn't the least or the divisor isn't -1
mirror_stays : (t : IntType) (x : ℤ) (m : ℕ) → is_signed_of t ≡ true → InRange t x → (least_of t <ℤ x) ⊎ (1 ≤ m) → InRange t (int_div x (negsuc m))
mirror_stays t (pos n) m s i o =
    let d = div-le_self n (suc m) in
    let e = mirrored t s in
    let z = zero_in t in
    record { low = omega (arith, ints, d, e, i.high); high = omega (arith, ints, z.high) }
mirror_stays t (negsuc n) m s i o =
    let e = mirrored t s in
    let z = zero_in t in
    record { low = omega (arith, ints, z.low); high = elim o [ inl h ↦ above h | inr h ↦ halved h ] }
  where
    above : least_of t <ℤ negsuc n → int_div (negsuc n) (negsuc m) ≤ℤ greatest_of t
    above h = let d = div-le_self (suc n) (suc m) in let e = mirrored t s in omega (arith, ints, d, e, h)

    halved : 1 ≤ m → int_div (negsuc n) (negsuc m) ≤ℤ greatest_of t
    halved h =
        let d = div_falls (suc n) 2 (suc m) (omega arith) (omega (arith, h)) in
        let k = div-mul-le_self (suc n) 2 in
        let e = mirrored t s in
        let u = one_in t in
        omega (arith, ints, d, k, e, i.low, u.high)

-- some quotient of numbers of two intervals, or the least value by -1
quotient_pair : (t : IntType) (a b : Interval) (P : Type 0) → IsInhabited a → IsInhabited b → IsWithin a (values_of t) → IsWithin b (values_of t) → (b.low <ℤ pos 0) ⊎ (pos 1 ≤ℤ b.high)
    → ((x y : ℤ) → IsMember a x → IsMember b y → quotient t x y ≡ Ok (int_div x y) → P)
    → (is_signed_of t ≡ true → (a.low ≡ least_of t) × (a.high ≡ least_of t) → b.low ≡ negsuc 0 → b.high ≤ℤ pos 0 → P) → P
quotient_pair t a b P i j w v o goes least =
    by_lt_z (pos 0) b.high positive (λ h. by_sign (is_signed_of t) refl (elim o [ inl l ↦ l | inr l ↦ absurd (omega (arith, ints, h, l)) ]) h)
  where
    first : InRange t a.low
    first = record { low = w.from_low; high = omega (arith, ints, i, w.to_high) }

    last : InRange t a.high
    last = record { low = omega (arith, ints, i, w.from_low); high = w.to_high }

    not_zero : (y : ℤ) → pos 0 <ℤ y → int_eq y (pos 0) ≡ false
    not_zero (pos zero) h = absurd (omega (arith, ints, h))
    not_zero (pos (suc n)) h = grind (arith, ints)
    not_zero (negsuc n) h = absurd (omega (arith, ints, h))

    positive : pos 0 <ℤ b.high → P
    positive h =
        elim (quotient_stays t a.low b.high first) [
          | inl q ↦ goes a.low b.high (lowest a i) (highest b j) (quotient_goes t a.low b.high (not_zero b.high h) q)
          | inr n ↦ absurd (omega (arith, ints, h, n))
        ]

    at : (x y : ℤ) (m : ℕ) → y ≡ negsuc m → IsMember a x → IsMember b y → InRange t x → is_signed_of t ≡ true → (least_of t <ℤ x) ⊎ (1 ≤ m) → P
    at x y m e p q r s g =
        goes x y p q
        (subst (λ (d : ℤ). quotient t x d ≡ Ok (int_div x d)) (sym e) (quotient_goes t x (negsuc m) refl (mirror_stays t x m s r g)))

    negative : (y : ℤ) → b.low ≡ y → is_signed_of t ≡ true → y <ℤ pos 0 → b.high ≤ℤ pos 0 → P
    negative (pos n) e s l h = absurd (omega (arith, ints, l))
    negative (negsuc zero) e s l h =
        by_lt_z (least_of t) a.high
        (λ g. at a.high b.low zero e (highest a i) (lowest b j) last s (inl g))
        (λ g. least s (equal a.low (least_of t) (omega (arith, ints, g, i)) w.from_low, equal a.high (least_of t) g (omega (arith, ints, i, w.from_low))) e h)
      where
        equal : (x y : ℤ) → x ≤ℤ y → y ≤ℤ x → x ≡ y
        equal x y g k = omega (arith, ints, g, k)
    negative (negsuc (suc m)) e s l h = at a.low b.low (suc m) e (lowest a i) (lowest b j) first s (inr (omega arith))

    by_sign : (s : Flag) → is_signed_of t ≡ s → b.low <ℤ pos 0 → b.high ≤ℤ pos 0 → P
    by_sign true s l h = negative b.low refl s l h
    by_sign false s l h = let u = least_unsigned t s in absurd (omega (arith, ints, u, l, v.from_low))

has_divisor : (t : IntType) (a b r : Interval) → quotients t a b ≡ Some r → (b.low <ℤ pos 0) ⊎ (pos 1 ≤ℤ b.high)
unfolding quotients
has_divisor t a b r e = by_tests (int_lt b.low (pos 0)) (int_le b.high (pos 0)) refl refl e
  where
    by_tests : (n o : Flag) → int_lt b.low (pos 0) ≡ n → int_le b.high (pos 0) ≡ o
        → (if n then clipped t (up_to_magnitude a) else (if o then None else Some (quotients_at_ends a b))) ≡ Some r → (b.low <ℤ pos 0) ⊎ (pos 1 ≤ℤ b.high)
    by_tests true o n p e = inl (of_lt b.low (pos 0) n)
    by_tests false true n p e = absurd cc
    by_tests false false n p e = let h = of_not_le b.high (pos 0) p in inr (omega (arith, ints, h))

has_magnitude : (a b r : Interval) → remainders a b ≡ Some r → (b.low <ℤ pos 0) ⊎ (pos 1 ≤ℤ b.high)
unfolding remainders
has_magnitude a b r e = by_test (int_le (magnitude b) (pos 0)) refl e
  where
    split : pos 0 <ℤ magnitude b → (b.low <ℤ pos 0) ⊎ (pos 1 ≤ℤ b.high)
    split h = by_lt_z b.low (pos 0) (λ l. inl l) (λ l. inr (omega (arith, ints, clamps, h, l)))

    by_test : (o : Flag) → int_le (magnitude b) (pos 0) ≡ o → (if o then None else Some (rests a (magnitude b))) ≡ Some r → (b.low <ℤ pos 0) ⊎ (pos 1 ≤ℤ b.high)
    by_test true o e = absurd cc
    by_test false o e = split (of_not_le (magnitude b) (pos 0) o)

pub quotients_go : (t : IntType) (a b r : Interval) → IsInhabited a → IsInhabited b → IsWithin a (values_of t) → IsWithin b (values_of t) → quotients t a b ≡ Some r → Goes Div t a b ⊎ IsLeastByMinusOne Div t a b
quotients_go t a b r i j w v e =
    quotient_pair t a b (Goes Div t a b ⊎ IsLeastByMinusOne Div t a b) i j w v (has_divisor t a b r e)
    (λ x y p q f. inl (record { x = x; y = y; z = int_div x y; left = p; right = q; result = f }))
    (λ s l m h. inr (record { divides = inl refl; signed = s; least = l; minus_one = m; at_most_zero = h }))

pub remainders_go : (t : IntType) (a b r : Interval) → IsInhabited a → IsInhabited b → IsWithin a (values_of t) → IsWithin b (values_of t) → remainders a b ≡ Some r → Goes Rem t a b ⊎ IsLeastByMinusOne Rem t a b
remainders_go t a b r i j w v e =
    quotient_pair t a b (Goes Rem t a b ⊎ IsLeastByMinusOne Rem t a b) i j w v (has_magnitude a b r e)
    (λ x y p q f. inl (record { x = x; y = y; z = int_rem x y; left = p; right = q; result = sym (rest_stands t x y (int_div x y) (sym f)) }))
    (λ s l m h. inr (record { divides = inr refl; signed = s; least = l; minus_one = m; at_most_zero = h }))
