-- Conversion of whole numbers to a type, and the bits of a value.
use Rattle.std.specs.Prelude.{ℕ, ℤ, pos, ◌+ℤ◌, ◌-ℤ◌, unsigned_abs, if◌then◌else◌}
use Rattle.std.specs.Int.{int_rem_euclid}
use Rattle.std.specs.Ordering.{int_eq}
use Rattle.p10_int.specs.declared.types.IntType.{IntType}
use Rattle.p10_int.specs.declared.types.IntType.TheVariants.{Bool}
use Rattle.p10_int.specs.Types.{least_of, modulus_of}

-- what is left of z modulo m: from 0 to m - 1
abbrev pub residue : ℤ → ℕ → ℕ
residue z m = unsigned_abs (int_rem_euclid z (pos m))

-- z reduced modulo 2 ^ w into the type's range (C99 6.3.1.3; so too for a signed type that doesn't hold z)
unfoldable pub reduced : IntType → ℤ → ℤ
reduced t z = least_of t +ℤ pos (residue (z -ℤ least_of t) (modulus_of t))

-- z converted to the type (C99 6.3.1.2 for `_Bool`, else 6.3.1.3)
abbrev pub converted : IntType → ℤ → ℤ
converted Bool z = if int_eq z (pos 0) then pos 0 else pos 1
converted t z = reduced t z

-- the bits of a value as a number from 0 to 2 ^ w - 1: two's complement (C99 6.2.6.2)
abbrev pub pattern_of : IntType → ℤ → ℕ
pattern_of t z = residue z (modulus_of t)

-- the value that has the bits
abbrev pub value_of : IntType → ℕ → ℤ
value_of t bits = reduced t (pos bits)
