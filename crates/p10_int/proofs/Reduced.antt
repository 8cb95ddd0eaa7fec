-- What an unsigned and a signed type make of an exact result.
use Rattle.std.proofs.Common.{◌≡◌, ℕ, ◌%◌, ◌^◌, ◌<◌, true, false, ℤ, pos, ◌+ℤ◌, ◌-ℤ◌, arith, ap, ◌∙◌, if◌then◌else◌, Ok, Err}
use Rattle.std.proofs.lemmas.Int.{ints}
use Rattle.std.proofs.lemmas.Nat.{mod_below, pow_pos}
use Rattle.p10_int.specs.declared.types.IntType.{IntType}
use Rattle.p10_int.specs.declared.operators.Stop.{Stop}
use Rattle.p10_int.specs.Types.{is_signed_of, width_of, modulus_of, holds}
use Rattle.p10_int.specs.Conversion.{residue, reduced}
use Rattle.p10_int.specs.Operators.{fitted}
use Rattle.p10_int.proofs.Ranges.{least_unsigned, modulus_small}

pub fitted_unsigned : (t : IntType) (stop : Stop) (z : ℤ) → is_signed_of t ≡ false → fitted t stop z ≡ Ok (reduced t z)
unfolding fitted
fitted_unsigned t stop z s = ap (λ b. if b then (if holds t z then Ok z else Err stop) else Ok (reduced t z)) s

pub fitted_signed : (t : IntType) (stop : Stop) (z : ℤ) → is_signed_of t ≡ true → fitted t stop z ≡ (if holds t z then Ok z else Err stop)
unfolding fitted
fitted_signed t stop z s = ap (λ b. if b then (if holds t z then Ok z else Err stop) else Ok (reduced t z)) s

less_zero : (z : ℤ) → z -ℤ pos 0 ≡ z
less_zero z = omega (arith, ints)

pub reduced_unsigned : (t : IntType) (z : ℤ) → is_signed_of t ≡ false → reduced t z ≡ pos (residue z (modulus_of t))
unfolding reduced
reduced_unsigned t z s =
    ap (λ (l : ℤ). l +ℤ pos (residue (z -ℤ l) (modulus_of t))) (least_unsigned t s)
    ∙ ap (λ (y : ℤ). pos 0 +ℤ pos (residue y (modulus_of t))) (less_zero z) ∙ zero_plus (residue z (modulus_of t))
  where
    zero_plus : (n : ℕ) → pos 0 +ℤ pos n ≡ pos n
    zero_plus n = omega (arith, ints)

pub residue_small : (t : IntType) (n : ℕ) → n % modulus_of t < 2 ^ 127
residue_small t n = let m = modulus_small t in let p = pow_pos (width_of t) in omega (arith, mod_below n (modulus_of t) p)
