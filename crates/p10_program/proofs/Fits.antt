-- Sizes that fit together.
use Rattle.std.proofs.Common.{◌≡◌, ℕ, ◌+◌, ◌-◌, ◌<◌, ◌≤◌, nat_le, false, arith}
use Rattle.std.proofs.lemmas.Bool.Decides.{nat_tests}

-- the rest fits into what is left
pub fits_rest : (b r left : ℕ) → b ≤ left → nat_le (b + r) left ≡ nat_le r (left - b)
fits_rest b r left h = grind (arith, nat_tests)

-- something that doesn't fit alone doesn't fit with the rest
pub fits_not : (b r left : ℕ) → left < b → nat_le (b + r) left ≡ false
fits_not b r left h = grind (arith, nat_tests)
