-- Numbers of elements.
use Rattle.std.specs.Prelude.{◌≡◌, ℕ, ◌≤◌, ◌<◌, ℤ, pos, negsuc, ◌≤ℤ◌, Bool, nat_le, unsigned_abs, Option, Some, None, if◌then◌else◌, refl}
use Rattle.std.proofs.Common.{ap, sym, arith, FitsSigned, to_z, of_z}
use Rattle.std.proofs.lemmas.Int.{ints, to_z-of_z}
use Rattle.std.proofs.lemmas.Bool.{le-leb, lt-leb, and_from, and_left, and_right}
use Rattle.std.specs.Int.{w128}
use Rattle.p10_core.specs.WholePrograms.{most_bytes}
use Rattle.p10_elabx.specs.TypeNames.{array_length}

counted : ℕ → Bool → Option ℕ
counted n b = if b then Some n else None

-- a number below 1 counts no elements
pub too_few : (z : ℤ) → z ≤ℤ pos 0 → None ≡ array_length z
unfolding counted
too_few (pos n) h = let few : n < 1 = omega (arith, ints, h) in ap (counted n) (sym (and_left (nat_le 1 n) (nat_le n most_bytes) (lt-leb 1 n few)))
too_few (negsuc n) h = refl

-- nor does one that is too large
pub too_many : (z : ℤ) → pos 1099511627777 ≤ℤ z → None ≡ array_length z
unfolding counted most_bytes
too_many (pos n) h =
    let many : 1099511627776 < n = omega (arith, ints, h) in
    ap (counted n) (sym (and_right (nat_le 1 n) (nat_le n most_bytes) (lt-leb n 1099511627776 many)))
too_many (negsuc n) h = refl

-- a number between
pub counts : (z : ℤ) → FitsSigned w128 z → pos 1 ≤ℤ z → z ≤ℤ pos 1099511627776 → Some (unsigned_abs (to_z w128 (of_z w128 z))) ≡ array_length z
unfolding counted most_bytes
counts z f low high = rw (to_z-of_z w128 z f) (natural z low high)
  where
    natural : (z : ℤ) → pos 1 ≤ℤ z → z ≤ℤ pos 1099511627776 → Some (unsigned_abs z) ≡ array_length z
    natural (pos n) low high =
        let a : 1 ≤ n = omega (arith, ints, low) in
        let b : n ≤ 1099511627776 = omega (arith, ints, high) in
        ap (counted n) (sym (and_from (nat_le 1 n) (nat_le n most_bytes) (le-leb 1 n a) (le-leb n 1099511627776 b)))
    natural (negsuc n) low high = absurd (omega (arith, ints, low))
