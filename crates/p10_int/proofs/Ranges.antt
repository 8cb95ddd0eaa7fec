-- How large the values of a type are.
use Rattle.std.proofs.Common.{◌≡◌, ◌-◌, ◌^◌, ◌≤◌, true, false, ℤ, pos, negsuc, neg_ℤ, ◌≤ℤ◌, arith, ap, subst, if◌then◌else◌, lit≤}
use Rattle.std.proofs.lemmas.Int.{ints}
use Rattle.std.specs.Prelude.{unsigned_abs}
use lib.Signed.{le_z_yes}
use Rattle.p10_int.specs.declared.types.IntType.{IntType}
use Rattle.p10_int.specs.declared.types.IntType.TheVariants.{Bool, Char, SChar, UChar, Short, UShort, Int, UInt, Long, ULong, LLong, ULLong}
use Rattle.p10_int.specs.Types.{InRange, least_of, greatest_of, width_of, is_signed_of, modulus_of}

-- every value of every type
pub record IsWide (z : ℤ) : Type 0 where
  pub low : neg_ℤ (pos (2 ^ 63)) ≤ℤ z
  pub high : z ≤ℤ pos (2 ^ 64 - 1)

wide : (z : ℤ) → neg_ℤ (pos (2 ^ 63)) ≤ℤ z → z ≤ℤ pos (2 ^ 64 - 1) → IsWide z
wide z l h = record { low = l; high = h }

pub wide_in : (t : IntType) (z : ℤ) → InRange t z → IsWide z
wide_in Bool z r = let l = r.low in let h = r.high in wide z (omega (arith, ints)) (omega (arith, ints))
wide_in Char z r = let l = r.low in let h = r.high in wide z (omega (arith, ints)) (omega (arith, ints))
wide_in SChar z r = let l = r.low in let h = r.high in wide z (omega (arith, ints)) (omega (arith, ints))
wide_in UChar z r = let l = r.low in let h = r.high in wide z (omega (arith, ints)) (omega (arith, ints))
wide_in Short z r = let l = r.low in let h = r.high in wide z (omega (arith, ints)) (omega (arith, ints))
wide_in UShort z r = let l = r.low in let h = r.high in wide z (omega (arith, ints)) (omega (arith, ints))
wide_in Int z r = let l = r.low in let h = r.high in wide z (omega (arith, ints)) (omega (arith, ints))
wide_in UInt z r = let l = r.low in let h = r.high in wide z (omega (arith, ints)) (omega (arith, ints))
wide_in Long z r = let l = r.low in let h = r.high in wide z (omega (arith, ints)) (omega (arith, ints))
wide_in ULong z r = let l = r.low in let h = r.high in wide z (omega (arith, ints)) (omega (arith, ints))
wide_in LLong z r = let l = r.low in let h = r.high in wide z (omega (arith, ints)) (omega (arith, ints))
wide_in ULLong z r = let l = r.low in let h = r.high in wide z (omega (arith, ints)) (omega (arith, ints))

pub abs_of_wide : (z : ℤ) → IsWide z → unsigned_abs z ≤ 2 ^ 64 - 1
abs_of_wide (pos n) w = omega (arith, ints, w.high)
abs_of_wide (negsuc n) w = omega (arith, ints, w.low)

below : (t : IntType) → is_signed_of t ≡ true → greatest_of t ≤ℤ pos (2 ^ 63 - 1)
below Bool s = absurd cc
below Char s = le_z_yes tt
below SChar s = le_z_yes tt
below UChar s = absurd cc
below Short s = le_z_yes tt
below UShort s = absurd cc
below Int s = le_z_yes tt
below UInt s = absurd cc
below Long s = le_z_yes tt
below ULong s = absurd cc
below LLong s = le_z_yes tt
below ULLong s = absurd cc

above : (t : IntType) → is_signed_of t ≡ true → neg_ℤ (pos (2 ^ 63)) ≤ℤ least_of t
above Bool s = absurd cc
above Char s = le_z_yes tt
above SChar s = le_z_yes tt
above UChar s = absurd cc
above Short s = le_z_yes tt
above UShort s = absurd cc
above Int s = le_z_yes tt
above UInt s = absurd cc
above Long s = le_z_yes tt
above ULong s = absurd cc
above LLong s = le_z_yes tt
above ULLong s = absurd cc

-- a signed type's values are smaller
pub abs_signed : (t : IntType) (z : ℤ) → is_signed_of t ≡ true → InRange t z → unsigned_abs z ≤ 2 ^ 63
abs_signed t (pos n) s r = let h = below t s in omega (arith, ints, r.high, h)
abs_signed t (negsuc n) s r = let h = above t s in omega (arith, ints, r.low, h)

-- an unsigned type has no negative value
pub least_unsigned : (t : IntType) → is_signed_of t ≡ false → least_of t ≡ pos 0
least_unsigned t s = ap (λ b. if b then neg_ℤ (pos (2 ^ (width_of t - 1))) else pos 0) s

pub not_negative : (t : IntType) (z : ℤ) → is_signed_of t ≡ false → InRange t z → pos 0 ≤ℤ z
not_negative t z s r = subst (λ (l : ℤ). l ≤ℤ z) (least_unsigned t s) r.low

pub modulus_small : (t : IntType) → modulus_of t ≤ 2 ^ 64
modulus_small Bool = lit≤ tt
modulus_small Char = lit≤ tt
modulus_small SChar = lit≤ tt
modulus_small UChar = lit≤ tt
modulus_small Short = lit≤ tt
modulus_small UShort = lit≤ tt
modulus_small Int = lit≤ tt
modulus_small UInt = lit≤ tt
modulus_small Long = lit≤ tt
modulus_small ULong = lit≤ tt
modulus_small LLong = lit≤ tt
modulus_small ULLong = lit≤ tt
