-- Reduction into a type's range, and conversion.
use Rattle.std.proofs.Common.{◌≡◌, ℕ, zero, suc, ◌<◌, true, false, ℤ, pos, negsuc, ◌+ℤ◌, ◌-ℤ◌, ◌*ℤ◌, ◌≤ℤ◌, ◌<ℤ◌, arith, refl, ap}
use Rattle.std.proofs.lemmas.Int.{ints}
use Rattle.std.proofs.lemmas.Nat.{mod_below, pow_pos, div-add-mod'}
use Rattle.std.proofs.Math.Nat.{mod-eq_of_lt}
use Rattle.std.specs.Prelude.{if◌then◌else◌}
use Rattle.std.specs.Int.Signed.{le_z_yes}
use Rattle.std.specs.Ordering.{int_eq}
use Rattle.std.specs.Int.{int_div_euclid}
use Rattle.p10_int.specs.declared.types.IntType.{IntType}
use Rattle.p10_int.specs.declared.types.IntType.TheVariants.{Bool, Char, SChar, UChar, Short, UShort, Int, UInt, Long, ULong, LLong, ULLong}
use Rattle.p10_int.specs.Types.{InRange, least_of, greatest_of, width_of, modulus_of}
use Rattle.p10_int.specs.Conversion.{residue, reduced, converted}
use Rattle.p10_int.specs.Laws.{IsReduction}

-- ---- residues
pub residue_below : (z : ℤ) (m : ℕ) → 0 < m → residue z m < m
residue_below (pos a) m h = mod_below a m h
residue_below (negsuc a) m h = let r = mod_below a m h in omega arith

pub residue_keeps : (z : ℤ) (m : ℕ) → pos 0 ≤ℤ z → z <ℤ pos m → pos (residue z m) ≡ z
residue_keeps (pos a) m l h = ap pos (mod-eq_of_lt (omega (arith, ints)))
residue_keeps (negsuc a) m l h = absurd (omega (arith, ints))

residue_turns : (z : ℤ) (m : ℕ) → 0 < m → z ≡ pos (residue z m) +ℤ int_div_euclid z (pos m) *ℤ pos m
residue_turns (pos a) m h = ap pos (omega (arith, div-add-mod' a m))
residue_turns (negsuc a) m h = let r = mod_below a m h in omega (arith, ints, div-add-mod' a m)

-- ---- ranges
pub modulus_positive : (t : IntType) → 0 < modulus_of t
modulus_positive t = pow_pos (width_of t)

-- the range has 2 ^ w values
pub span : (t : IntType) → least_of t +ℤ pos (modulus_of t) ≡ greatest_of t +ℤ pos 1
span Bool = refl
span Char = refl
span SChar = refl
span UChar = refl
span Short = refl
span UShort = refl
span Int = refl
span UInt = refl
span Long = refl
span ULong = refl
span LLong = refl
span ULLong = refl

pub zero_in : (t : IntType) → InRange t (pos 0)
zero_in Bool = record { low = le_z_yes tt; high = le_z_yes tt }
zero_in Char = record { low = le_z_yes tt; high = le_z_yes tt }
zero_in SChar = record { low = le_z_yes tt; high = le_z_yes tt }
zero_in UChar = record { low = le_z_yes tt; high = le_z_yes tt }
zero_in Short = record { low = le_z_yes tt; high = le_z_yes tt }
zero_in UShort = record { low = le_z_yes tt; high = le_z_yes tt }
zero_in Int = record { low = le_z_yes tt; high = le_z_yes tt }
zero_in UInt = record { low = le_z_yes tt; high = le_z_yes tt }
zero_in Long = record { low = le_z_yes tt; high = le_z_yes tt }
zero_in ULong = record { low = le_z_yes tt; high = le_z_yes tt }
zero_in LLong = record { low = le_z_yes tt; high = le_z_yes tt }
zero_in ULLong = record { low = le_z_yes tt; high = le_z_yes tt }

pub one_in : (t : IntType) → InRange t (pos 1)
one_in Bool = record { low = le_z_yes tt; high = le_z_yes tt }
one_in Char = record { low = le_z_yes tt; high = le_z_yes tt }
one_in SChar = record { low = le_z_yes tt; high = le_z_yes tt }
one_in UChar = record { low = le_z_yes tt; high = le_z_yes tt }
one_in Short = record { low = le_z_yes tt; high = le_z_yes tt }
one_in UShort = record { low = le_z_yes tt; high = le_z_yes tt }
one_in Int = record { low = le_z_yes tt; high = le_z_yes tt }
one_in UInt = record { low = le_z_yes tt; high = le_z_yes tt }
one_in Long = record { low = le_z_yes tt; high = le_z_yes tt }
one_in ULong = record { low = le_z_yes tt; high = le_z_yes tt }
one_in LLong = record { low = le_z_yes tt; high = le_z_yes tt }
one_in ULLong = record { low = le_z_yes tt; high = le_z_yes tt }

placed : (l g : ℤ) (m r : ℕ) → l +ℤ pos m ≡ g +ℤ pos 1 → r < m → (l ≤ℤ (l +ℤ pos r)) × ((l +ℤ pos r) ≤ℤ g)
placed l g m r e h = (omega (arith, ints), omega (arith, ints))

pub reduced_in : (t : IntType) (z : ℤ) → InRange t (reduced t z)
unfolding reduced
reduced_in t z =
    let p = placed (least_of t) (greatest_of t) (modulus_of t) (residue (z -ℤ least_of t) (modulus_of t)) (span t) (residue_below (z -ℤ least_of t) (modulus_of t) (modulus_positive t)) in
    record { low = p.0; high = p.1 }

-- a sum of a least value and the way to z is z
back : (l z : ℤ) (r : ℕ) → pos r ≡ z -ℤ l → l +ℤ pos r ≡ z
back l z r e = omega (arith, ints)

ahead : (l g z : ℤ) (m : ℕ) → l +ℤ pos m ≡ g +ℤ pos 1 → l ≤ℤ z → z ≤ℤ g → (pos 0 ≤ℤ (z -ℤ l)) × ((z -ℤ l) <ℤ pos m)
ahead l g z m e lo hi = (omega (arith, ints), omega (arith, ints))

pub reduced_keeps : (t : IntType) (z : ℤ) → InRange t z → reduced t z ≡ z
unfolding reduced
reduced_keeps t z r =
    let p = ahead (least_of t) (greatest_of t) z (modulus_of t) (span t) r.low r.high in
    back (least_of t) z (residue (z -ℤ least_of t) (modulus_of t)) (residue_keeps (z -ℤ least_of t) (modulus_of t) p.0 p.1)

turned : (l z k : ℤ) (r m : ℕ) → z -ℤ l ≡ pos r +ℤ k → z ≡ (l +ℤ pos r) +ℤ k
turned l z k r m e = omega (arith, ints)

pub reduces : (t : IntType) (z : ℤ) → IsReduction t z (reduced t z)
unfolding reduced
reduces t z = record {
  within = reduced_in t z;
  turns = int_div_euclid (z -ℤ least_of t) (pos (modulus_of t));
  congruent = turned (least_of t) z _ (residue (z -ℤ least_of t) (modulus_of t)) (modulus_of t) (residue_turns (z -ℤ least_of t) (modulus_of t) (modulus_positive t));
}

-- ---- conversion
bool_in : (z : ℤ) → InRange Bool (converted Bool z)
bool_in z = elim (int_eq z (pos 0)) as (λ b. InRange Bool (if b then pos 0 else pos 1)) [ true ↦ zero_in Bool | false ↦ one_in Bool ]

pub converted_in : (t : IntType) (z : ℤ) → InRange t (converted t z)
converted_in Bool z = bool_in z
converted_in Char z = reduced_in Char z
converted_in SChar z = reduced_in SChar z
converted_in UChar z = reduced_in UChar z
converted_in Short z = reduced_in Short z
converted_in UShort z = reduced_in UShort z
converted_in Int z = reduced_in Int z
converted_in UInt z = reduced_in UInt z
converted_in Long z = reduced_in Long z
converted_in ULong z = reduced_in ULong z
converted_in LLong z = reduced_in LLong z
converted_in ULLong z = reduced_in ULLong z

bool_keeps : (z : ℤ) → InRange Bool z → converted Bool z ≡ z
bool_keeps (pos zero) r = refl
bool_keeps (pos (suc zero)) r = refl
bool_keeps (pos (suc (suc n))) r = let h = r.high in absurd (omega (arith, ints))
bool_keeps (negsuc n) r = let l = r.low in absurd (omega (arith, ints))

pub converted_keeps : (t : IntType) (z : ℤ) → InRange t z → converted t z ≡ z
converted_keeps Bool z r = bool_keeps z r
converted_keeps Char z r = reduced_keeps Char z r
converted_keeps SChar z r = reduced_keeps SChar z r
converted_keeps UChar z r = reduced_keeps UChar z r
converted_keeps Short z r = reduced_keeps Short z r
converted_keeps UShort z r = reduced_keeps UShort z r
converted_keeps Int z r = reduced_keeps Int z r
converted_keeps UInt z r = reduced_keeps UInt z r
converted_keeps Long z r = reduced_keeps Long z r
converted_keeps ULong z r = reduced_keeps ULong z r
converted_keeps LLong z r = reduced_keeps LLong z r
converted_keeps ULLong z r = reduced_keeps ULLong z r

-- except for `_Bool`, conversion is reduction
pub converted_other : (t : IntType) (z : ℤ) → ¬ (t ≡ Bool) → reduced t z ≡ converted t z
converted_other Bool z n = absurd (n refl)
converted_other Char z n = refl
converted_other SChar z n = refl
converted_other UChar z n = refl
converted_other Short z n = refl
converted_other UShort z n = refl
converted_other Int z n = refl
converted_other UInt z n = refl
converted_other Long z n = refl
converted_other ULong z n = refl
converted_other LLong z n = refl
converted_other ULLong z n = refl
