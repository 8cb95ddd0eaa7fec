-- The complement as a difference.
use Rattle.std.proofs.Common.{◌≡◌, ℕ, ◌+◌, ◌-◌, ◌<◌, true, false, ℤ, pos, negsuc, neg_ℤ, ◌+ℤ◌, ◌-ℤ◌, ◌≤ℤ◌, arith, refl, ap, ◌∙◌}
use Rattle.std.proofs.lemmas.Int.{ints}
use Rattle.std.proofs.Math.Nat.{mod-eq_of_lt, add-mod_right}
use Rattle.p10_int.specs.declared.types.IntType.{IntType}
use Rattle.p10_int.specs.declared.types.IntType.TheVariants.{Bool, Char, SChar, UChar, Short, UShort, Int, UInt, Long, ULong, LLong, ULLong}
use Rattle.p10_int.specs.Types.{InRange, least_of, greatest_of, is_signed_of, modulus_of}
use Rattle.p10_int.specs.Conversion.{residue, reduced, pattern_of, value_of}
use Rattle.p10_int.specs.Operators.{complement}
use Rattle.p10_int.proofs.Ranges.{least_unsigned}
use Rattle.p10_int.proofs.Conversions.{reduced_keeps, span, zero_in}

-- ---- the pattern of a value
below_modulus : (t : IntType) (n : ℕ) → InRange t (pos n) → n < modulus_of t
below_modulus t n i = let z = zero_in t in omega (arith, ints, i.high, z.low, span t)

pub pattern_pos : (t : IntType) (n : ℕ) → InRange t (pos n) → pattern_of t (pos n) ≡ n
pattern_pos t n i = mod-eq_of_lt (below_modulus t n i)

pub pattern_neg : (t : IntType) (n : ℕ) → InRange t (negsuc n) → pattern_of t (negsuc n) ≡ modulus_of t - 1 - n
pattern_neg t n i = let z = zero_in t in ap (λ (r : ℕ). modulus_of t - 1 - r) (mod-eq_of_lt (omega (arith, ints, i.low, z.high, span t)))

-- ---- one turn above the range
natural : (z : ℤ) → pos 0 ≤ℤ z → (d : ℕ) × (z ≡ pos d)
natural (pos d) h = (d, refl)
natural (negsuc d) h = absurd (omega (arith, ints))

reduced_once : (t : IntType) (y : ℤ) (n : ℕ) → InRange t y → pos n ≡ y +ℤ pos (modulus_of t) → reduced t (pos n) ≡ y
unfolding reduced
reduced_once t y n i e =
    let d = natural (y -ℤ least_of t) (omega (arith, ints, i.low)) in
    let small : d.0 < modulus_of t = omega (arith, ints, d.1, i.high, span t) in
    let over : pos n -ℤ least_of t ≡ pos (d.0 + modulus_of t) = omega (arith, ints, d.1) in
    let rest : residue (pos n -ℤ least_of t) (modulus_of t) ≡ d.0 =
    ap (λ (x : ℤ). residue x (modulus_of t)) over ∙ add-mod_right d.0 (modulus_of t) ∙ mod-eq_of_lt small in
    ap (λ (r : ℕ). least_of t +ℤ pos r) rest ∙ omega (arith, ints, d.1)

-- ---- the complement
mirrored : (t : IntType) → is_signed_of t ≡ true → neg_ℤ (least_of t) ≡ greatest_of t +ℤ pos 1
mirrored Bool s = absurd cc
mirrored Char s = refl
mirrored SChar s = refl
mirrored UChar s = absurd cc
mirrored Short s = refl
mirrored UShort s = absurd cc
mirrored Int s = refl
mirrored UInt s = absurd cc
mirrored Long s = refl
mirrored ULong s = absurd cc
mirrored LLong s = refl
mirrored ULLong s = absurd cc

pub complement_signed : (t : IntType) (a : ℤ) → InRange t a → is_signed_of t ≡ true → complement t a ≡ neg_ℤ a -ℤ pos 1
unfolding complement
complement_signed t (pos n) i s =
    let m = mirrored t s in
    let b = below_modulus t n i in
    ap (λ (p : ℕ). value_of t (modulus_of t - 1 - p)) (pattern_pos t n i)
    ∙ reduced_once t (neg_ℤ (pos n) -ℤ pos 1) (modulus_of t - 1 - n)
    (record { low = omega (arith, ints, i.high, m); high = omega (arith, ints, i.high, (zero_in t).high) })
    (omega (arith, ints))
complement_signed t (negsuc n) i s =
    let m = mirrored t s in
    let z = zero_in t in
    let p : modulus_of t - 1 - pattern_of t (negsuc n) ≡ n = omega (arith, ints, pattern_neg t n i, i.low, z.high, span t) in
    let back : pos n ≡ neg_ℤ (negsuc n) -ℤ pos 1 = omega (arith, ints) in
    ap (value_of t) p ∙ reduced_keeps t (pos n) (record { low = omega (arith, ints, z.low); high = omega (arith, ints, i.low, m) }) ∙ back

pub complement_unsigned : (t : IntType) (a : ℤ) → InRange t a → is_signed_of t ≡ false → complement t a ≡ greatest_of t -ℤ a
unfolding complement
complement_unsigned t (negsuc n) i s = absurd (omega (arith, ints, i.low, least_unsigned t s))
complement_unsigned t (pos n) i s =
    let l = least_unsigned t s in
    let b = below_modulus t n i in
    let is : pos (modulus_of t - 1 - n) ≡ greatest_of t -ℤ pos n = omega (arith, ints, span t, l) in
    ap (λ (p : ℕ). value_of t (modulus_of t - 1 - p)) (pattern_pos t n i)
    ∙ reduced_keeps t (pos (modulus_of t - 1 - n)) (record { low = omega (arith, ints, l); high = omega (arith, ints, span t, l) })
    ∙ is
