-- Operators on numbers of `unsigned int` in 32 bits.
use Rattle.std.proofs.Common.{◌≡◌, ℕ, ◌+◌, ◌-◌, ◌%◌, ◌^◌, ◌<◌, ◌≤◌, refl, ap, ◌∙◌, arith, ℤ, pos, ◌-ℤ◌, ◌+ℤ◌, Ok}
use Rattle.std.proofs.lemmas.Int.{ints, int_rem_euclid_is}
use Rattle.std.proofs.lemmas.Nat.{and_le_l}
use Rattle.std.specs.Prelude.{bit_and, unsigned_abs}
use Rattle.p10_int.specs.declared.types.IntType.TheVariants.{UInt}
use Rattle.p10_int.specs.declared.operators.Stop.TheVariants.{U1}
use Rattle.p10_int.specs.Types.{InRange}
use Rattle.p10_int.specs.Conversion.{reduced, pattern_of, value_of}
use Rattle.p10_int.specs.Operators.{fitted, bitwise}
use Rattle.p10_int.proofs.Conversions.{reduced_keeps}
use Rattle.p10_int.proofs.Complements.{pattern_pos}

-- a natural number modulo 2 ^ 32
pub fitted_natural : (n : ℕ) → fitted UInt U1 (pos n) ≡ Ok (pos (n % 2 ^ 32))
unfolding fitted reduced
fitted_natural n = ap (λ (k : ℕ). Ok (pos k)) (omega arith)

-- a difference modulo 2 ^ 32
pub fitted_difference : (a b : ℕ) → b < 2 ^ 32 → fitted UInt U1 (pos a -ℤ pos b) ≡ Ok (pos ((a + (2 ^ 32 - b)) % 2 ^ 32))
unfolding fitted reduced
fitted_difference a b h =
    ap (λ (z : ℤ). Ok (pos 0 +ℤ pos (unsigned_abs z))) (int_rem_euclid_is ((pos a -ℤ pos b) -ℤ pos 0) (pos (2 ^ 32)) (2 ^ 32) 1 (a + (2 ^ 32 - b)) (omega arith) refl (omega (arith, ints))) ∙
    ap (λ (k : ℕ). Ok (pos k)) (omega arith)

in_range : (n : ℕ) → n < 2 ^ 32 → InRange UInt (pos n)
in_range n h = record { low = omega (arith, ints); high = omega (arith, ints) }

-- an operation on the bits of two numbers
pub bits_of_naturals : (f : ℕ → ℕ → ℕ) (a b : ℕ) → a < 2 ^ 32 → b < 2 ^ 32 → f a b < 2 ^ 32 → bitwise f UInt (pos a) (pos b) ≡ pos (f a b)
unfolding bitwise
bits_of_naturals f a b h k l =
    ap (λ (n : ℕ). value_of UInt (f n (pattern_of UInt (pos b)))) (pattern_pos UInt a (in_range a h)) ∙
    (ap (λ (n : ℕ). value_of UInt (f a n)) (pattern_pos UInt b (in_range b k)) ∙
    reduced_keeps UInt (pos (f a b)) (in_range (f a b) l))

pub common_below : (a b : ℕ) → a < 2 ^ 32 → bit_and a b < 2 ^ 32
common_below a b h = let low : bit_and a b ≤ a = and_le_l a b in omega arith
