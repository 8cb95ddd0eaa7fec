-- Products of values.
use Rattle.std.proofs.Common.{◌≡◌, ◌-◌, ◌*◌, ◌%◌, ◌^◌, true, false, ℤ, pos, negsuc, ◌≤ℤ◌, ◌*ℤ◌, arith, ap, sym, ◌∙◌, FitsSigned, to_z, of_z, lit<, Fits, Result, Ok}
use Rattle.std.proofs.lemmas.Int.{ints, fits_signed_mul, to_z-of_z, to_z_pos}
use Rattle.std.proofs.lemmas.Nat.{mul-le}
use Rattle.std.specs.Prelude.{unsigned_abs}
use Rattle.std.specs.Int.{w128}
use Rattle.p10_int.specs.declared.types.IntType.{IntType}
use Rattle.p10_int.specs.declared.operators.Stop.{Stop}
use Rattle.p10_int.specs.declared.operators.Stop.TheVariants.{U1}
use Rattle.p10_int.specs.Types.{InRange, is_signed_of, modulus_of}
use Rattle.p10_int.specs.Operators.{fitted}
use Rattle.p10_int.proofs.Reduced.{fitted_unsigned, reduced_unsigned, residue_small}
use Rattle.p10_int.proofs.Ranges.{wide_in, abs_of_wide, abs_signed, not_negative}

-- a product of two values of a signed type fits
pub signed_fits : (t : IntType) (a b : ℤ) → is_signed_of t ≡ true → InRange t a → InRange t b → FitsSigned w128 (a *ℤ b)
signed_fits t a b s r q = fits_signed_mul w128 a b (2 ^ 63) (2 ^ 63) (abs_signed t a s r) (abs_signed t b s q) (lit< tt)

-- a product that fits is handed on whole
pub carried_product : (t : IntType) (stop : Stop) (a b : ℤ) (r : Result ℤ Stop) → FitsSigned w128 a → FitsSigned w128 b → FitsSigned w128 (a *ℤ b)
    → r ≡ fitted t stop (to_z w128 (of_z w128 (to_z w128 (of_z w128 a) *ℤ to_z w128 (of_z w128 b)))) → r ≡ fitted t stop (a *ℤ b)
carried_product t stop a b r f g h e =
    e ∙ rw (to_z-of_z w128 a f, to_z-of_z w128 b g) (ap (fitted t stop) (to_z-of_z w128 (a *ℤ b) h))

-- a product of an unsigned type, reduced before it is signed
unsigned_plain : (t : IntType) (a b m : ℤ) → is_signed_of t ≡ false → pos 0 ≤ℤ a → pos 0 ≤ℤ b → m ≡ pos (modulus_of t)
    → ◌≡◌ {A = Result ℤ Stop} (Ok (to_z w128 (unsigned_abs a * unsigned_abs b % unsigned_abs m))) (fitted t U1 (a *ℤ b))
unsigned_plain t (negsuc i) b m s l k e = absurd (omega (arith, ints, l))
unsigned_plain t (pos i) (negsuc j) m s l k e = absurd (omega (arith, ints, k))
unsigned_plain t (pos i) (pos j) m s l k e =
    ap (λ (d : ℤ). Ok (to_z w128 (i * j % unsigned_abs d))) e
    ∙ ap Ok (to_z_pos w128 (i * j % modulus_of t) (residue_small t (i * j)))
    ∙ sym (fitted_unsigned t U1 (pos (i * j)) s ∙ ap Ok (reduced_unsigned t (pos (i * j)) s))

pub unsigned_product : (t : IntType) (a b m : ℤ) → FitsSigned w128 a → FitsSigned w128 b → FitsSigned w128 m → is_signed_of t ≡ false → InRange t a → InRange t b → m ≡ pos (modulus_of t)
    → ◌≡◌ {A = Result ℤ Stop} (Ok (to_z w128 (unsigned_abs (to_z w128 (of_z w128 a)) * unsigned_abs (to_z w128 (of_z w128 b)) % unsigned_abs (to_z w128 (of_z w128 m))))) (fitted t U1 (a *ℤ b))
unsigned_product t a b m f g h s r q e =
    rw (to_z-of_z w128 a f, to_z-of_z w128 b g, to_z-of_z w128 m h)
    (unsigned_plain t a b m s (not_negative t a s r) (not_negative t b s q) e)

pub carried_signed_fits : (t : IntType) (a b : ℤ) → FitsSigned w128 a → FitsSigned w128 b → is_signed_of t ≡ true → InRange t a → InRange t b
    → FitsSigned w128 (to_z w128 (of_z w128 a) *ℤ to_z w128 (of_z w128 b))
carried_signed_fits t a b f g s i j = rw (to_z-of_z w128 a f, to_z-of_z w128 b g) (signed_fits t a b s i j)

pub carried_unsigned_fits : (t : IntType) (a b : ℤ) → FitsSigned w128 a → FitsSigned w128 b → InRange t a → InRange t b
    → Fits w128 (unsigned_abs (to_z w128 (of_z w128 a)) * unsigned_abs (to_z w128 (of_z w128 b)))
carried_unsigned_fits t a b f g i j =
    rw (to_z-of_z w128 a f, to_z-of_z w128 b g)
    (let m = mul-le (unsigned_abs a) (unsigned_abs b) (2 ^ 64 - 1) (2 ^ 64 - 1) (abs_of_wide a (wide_in t a i)) (abs_of_wide b (wide_in t b j)) in omega arith)
