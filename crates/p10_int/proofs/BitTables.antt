-- The bitwise operators by their tables on single bits.
use Rattle.std.proofs.Common.{◌≡◌, ℕ, zero, suc, ◌+◌, ◌-◌, ◌/◌, ◌%◌, ◌^◌, ◌<◌, ◌≤◌, min, max, ◌⊎◌, inl, inr, ℤ, pos, negsuc, neg_ℤ, ◌+ℤ◌, ◌*ℤ◌, ◌<ℤ◌, arith, refl, ap, sym, ◌∙◌, subst, pow-suc}
use Rattle.std.proofs.lemmas.Int.{ints, int_rem_euclid_is}
use Rattle.std.proofs.lemmas.Nat.{or_lt, xor_lt, and_le_l}
use Rattle.std.proofs.lemmas.Nat.Bits.{bit_at-lt, bit_at_and, bit_at_or, bit_at_xor, bit_at_lowest, bit_at-suc}
use Rattle.std.proofs.Math.Nat.{mod-eq_of_lt}
use Rattle.std.specs.Prelude.{◌↔◌, bit_and, bit_or, bit_xor, unsigned_abs}
use Rattle.std.specs.Int.{bit_at}
use Rattle.p10_int.specs.declared.types.IntType.{IntType}
use Rattle.p10_int.specs.Types.{width_of, modulus_of}
use Rattle.p10_int.specs.Conversion.{residue, pattern_of, value_of}
use Rattle.p10_int.specs.Operators.{bitwise, complement}
use Rattle.p10_int.specs.Laws.{IsSet, BitwiseByBits}
use Rattle.p10_int.proofs.Conversions.{reduces, span, zero_in, residue_below, modulus_positive}

-- a residue is known from one number that differs by a multiple
pub residue_is : (z k : ℤ) (p m : ℕ) → p < m → z <ℤ pos m → neg_ℤ (pos m) <ℤ z → pos p ≡ z +ℤ k *ℤ pos m → residue z m ≡ p
residue_is z (pos zero) p m h hi lo e =
    let same : z ≡ pos p = omega (arith, ints) in ap (λ (y : ℤ). residue y m) same ∙ mod-eq_of_lt h
residue_is z (pos (suc zero)) p m h hi lo e =
    ap unsigned_abs (int_rem_euclid_is z (pos m) m 1 p (omega arith) refl (sym e)) ∙ mod-eq_of_lt h
residue_is z (pos (suc (suc n))) p m h hi lo e = absurd (omega (arith, ints))
residue_is z (negsuc n) p m h hi lo e = absurd (omega (arith, ints))

-- the pattern of a pattern's value
pub pattern_back : (t : IntType) (p : ℕ) → p < modulus_of t → pattern_of t (value_of t p) ≡ p
pattern_back t p h =
    let r = reduces t (pos p) in
    let z = zero_in t in
    let s = span t in
    residue_is (value_of t p) r.turns p (modulus_of t) h (omega (arith, ints, r.within.high, z.low, s)) (omega (arith, ints, r.within.low, z.high, s)) r.congruent

-- ---- tables of two bits
both_table : (x y : ℕ) → x < 2 → y < 2 → (min x y ≡ 1) ↔ ((x ≡ 1) × (y ≡ 1))
both_table x y h k = (λ e. (omega arith, omega arith), λ p. let a = p.0 in let b = p.1 in omega arith)

either_table : (x y : ℕ) → x < 2 → y < 2 → (max x y ≡ 1) ↔ ((x ≡ 1) ⊎ (y ≡ 1))
either_table zero zero h k = (λ e. absurd (omega arith), λ p. elim p [ inl a ↦ absurd (omega arith) | inr b ↦ absurd (omega arith) ])
either_table zero (suc zero) h k = (λ e. inr refl, λ p. refl)
either_table (suc zero) y h k = (λ e. inl refl, λ p. omega arith)
either_table zero (suc (suc y)) h k = absurd (omega arith)
either_table (suc (suc x)) y h k = absurd (omega arith)

one_table : (x y : ℕ) → x < 2 → y < 2 → ((x + y) % 2 ≡ 1) ↔ (((x ≡ 1) × ¬ (y ≡ 1)) ⊎ (¬ (x ≡ 1) × (y ≡ 1)))
one_table zero zero h k = (λ e. absurd (omega arith), λ p. elim p [ inl a ↦ absurd (omega (arith, a.0)) | inr b ↦ absurd (omega (arith, b.1)) ])
one_table zero (suc zero) h k = (λ e. inr ((λ z. omega arith), refl), λ p. refl)
one_table (suc zero) zero h k = (λ e. inl (refl, (λ z. omega arith)), λ p. refl)
one_table (suc zero) (suc zero) h k = (λ e. absurd (omega arith), λ p. elim p [ inl a ↦ absurd (a.1 refl) | inr b ↦ absurd (b.0 refl) ])
one_table zero (suc (suc y)) h k = absurd (omega arith)
one_table (suc zero) (suc (suc y)) h k = absurd (omega arith)
one_table (suc (suc x)) y h k = absurd (omega arith)

not_table : (x y : ℕ) → x ≡ 1 - y → y < 2 → (x ≡ 1) ↔ ¬ (y ≡ 1)
not_table x y e h = (λ s q. omega arith, λ n. let m : ¬ (y ≡ 1) = n in omega arith)

-- the bits of 2 ^ k - 1 - n
turned_bit : (k n i : ℕ) → n < 2 ^ k → i < k → bit_at (2 ^ k - 1 - n) i ≡ 1 - bit_at n i
turned_bit zero n i h l = absurd (omega arith)
turned_bit (suc k) n zero h l = omega (arith, bit_at_lowest (2 ^ suc k - 1 - n), bit_at_lowest n, pow-suc 2 k)
turned_bit (suc k) n (suc i) h l =
    let half : (2 ^ suc k - 1 - n) / 2 ≡ 2 ^ k - 1 - n / 2 = omega (arith, pow-suc 2 k) in
    bit_at-suc _ i ∙ ap (λ x. bit_at x i) half ∙ turned_bit k (n / 2) i (omega (arith, pow-suc 2 k)) (omega arith) ∙ ap (λ d. 1 - d) (sym (bit_at-suc n i))

-- ---- the operators
through : (t : IntType) (p i : ℕ) (P : Type 0) → p < modulus_of t → (bit_at p i ≡ 1) ↔ P → IsSet t (value_of t p) i ↔ P
through t p i P h q = subst (λ (n : ℕ). (bit_at n i ≡ 1) ↔ P) (sym (pattern_back t p h)) q

pattern_below : (t : IntType) (a : ℤ) → pattern_of t a < modulus_of t
pattern_below t a = residue_below a (modulus_of t) (modulus_positive t)

pub bits_by_table : (t : IntType) (a b : ℤ) (i : ℕ) → i < width_of t → BitwiseByBits t a b i
unfolding bitwise complement
bits_by_table t a b i l =
    let x = pattern_of t a in
    let y = pattern_of t b in
    let hx : x < modulus_of t = pattern_below t a in
    let hy : y < modulus_of t = pattern_below t b in
    let low : bit_and x y ≤ x = and_le_l x y in
    record {
      and_bits = through t (bit_and x y) i _ (omega arith)
          (subst (λ (n : ℕ). (n ≡ 1) ↔ ((bit_at x i ≡ 1) × (bit_at y i ≡ 1))) (sym (bit_at_and x y i)) (both_table (bit_at x i) (bit_at y i) (bit_at-lt x i) (bit_at-lt y i)));
      or_bits = through t (bit_or x y) i _ (or_lt (width_of t) x y hx hy)
          (subst (λ (n : ℕ). (n ≡ 1) ↔ ((bit_at x i ≡ 1) ⊎ (bit_at y i ≡ 1))) (sym (bit_at_or x y i)) (either_table (bit_at x i) (bit_at y i) (bit_at-lt x i) (bit_at-lt y i)));
      xor_bits = through t (bit_xor x y) i _ (xor_lt (width_of t) x y hx hy)
          (subst (λ (n : ℕ). (n ≡ 1) ↔ (((bit_at x i ≡ 1) × ¬ (bit_at y i ≡ 1)) ⊎ (¬ (bit_at x i ≡ 1) × (bit_at y i ≡ 1)))) (sym (bit_at_xor x y i)) (one_table (bit_at x i) (bit_at y i) (bit_at-lt x i) (bit_at-lt y i)));
      complement_bits = through t (modulus_of t - 1 - x) i _ (omega arith)
          (not_table (bit_at (modulus_of t - 1 - x) i) (bit_at x i) (turned_bit (width_of t) x i hx l) (bit_at-lt x i));
    }
