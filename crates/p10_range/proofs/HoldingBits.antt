-- The rows of bits and of tests have each result on numbers of the operands.
use Rattle.std.proofs.Common.{◌≡◌, ℕ, ◌-◌, ◌^◌, ◌<◌, ◌≤◌, true, false, Bool as Flag, ap, sym, ◌∙◌, arith, ℤ, pos, negsuc, ◌≤ℤ◌, ◌<ℤ◌, ◌+ℤ◌, ◌-ℤ◌, refl, subst}
use Rattle.std.proofs.lemmas.Int.{ints, clamps}
use Rattle.std.proofs.lemmas.Nat.{and_le_l, and_le_r, pow_pos}
use Rattle.std.specs.Prelude.{◌&&◌, ◌||◌, if◌then◌else◌, int_lt, bit_and}
use Rattle.std.specs.Ordering.{int_eq}
use Rattle.std.specs.Int.{int_min, int_max}
use Rattle.p10_int.specs.declared.types.IntType.{IntType}
use Rattle.p10_int.specs.declared.types.IntType.TheVariants.{Bool, Char, SChar, UChar, Short, UShort, Int, UInt, Long, ULong, LLong, ULLong}
use Rattle.p10_int.specs.Types.{InRange, least_of, greatest_of}
use Rattle.p10_int.specs.Conversion.{pattern_of, value_of}
use Rattle.p10_int.specs.Operators.{bitwise, complement, truth_of}
use Rattle.p10_int.proofs.Conversions.{reduced_in, reduced_keeps, zero_in}
use Rattle.p10_int.proofs.Complements.{pattern_pos, complement_signed, complement_unsigned}
use Rattle.p10_range.specs.Ranges.{Interval, from_to, IsMember}
use Rattle.p10_range.specs.private.Small.{IsSmall}
use Rattle.p10_range.specs.Rows.{values_of, has_no_negative, conjunctions, binary_digits, up_to_digits, disjunctions, complements, tested, can_be_less, can_be_at_most, can_be_equal, can_differ}
use Rattle.p10_range.proofs.Signs.{le_true, lt_true, of_le, of_lt, of_not_lt}
use Rattle.p10_range.proofs.Digits.{below_power}
use Rattle.p10_range.proofs.Holding.{value_member}

-- ---- conjunctions
pub natural_in : (t : IntType) (n m : ℕ) → InRange t (pos n) → m ≤ n → InRange t (pos m)
natural_in t n m i h = let z = zero_in t in record { low = omega (arith, ints, z.low); high = omega (arith, ints, i.high) }

and_left : (t : IntType) (n : ℕ) (y : ℤ) → InRange t (pos n) → (m : ℕ) × (bitwise bit_and t (pos n) y ≡ pos m) × (m ≤ n)
unfolding bitwise
and_left t n y i =
    let p = pattern_of t y in
    let l = and_le_l n p in
    (bit_and n p, ap (λ (k : ℕ). value_of t (bit_and k p)) (pattern_pos t n i) ∙ reduced_keeps t (pos (bit_and n p)) (natural_in t n (bit_and n p) i l), l)

and_right : (t : IntType) (x : ℤ) (n : ℕ) → InRange t (pos n) → (m : ℕ) × (bitwise bit_and t x (pos n) ≡ pos m) × (m ≤ n)
unfolding bitwise
and_right t x n i =
    let p = pattern_of t x in
    let l = and_le_r p n in
    (bit_and p n, ap (λ (k : ℕ). value_of t (bit_and p k)) (pattern_pos t n i) ∙ reduced_keeps t (pos (bit_and p n)) (natural_in t n (bit_and p n) i l), l)

and_both : (t : IntType) (n k : ℕ) → InRange t (pos n) → InRange t (pos k) → (m : ℕ) × (bitwise bit_and t (pos n) (pos k) ≡ pos m) × (m ≤ n) × (m ≤ k)
unfolding bitwise
and_both t n k i j =
    let l = and_le_l n k in (
      bit_and n k,
      ap (λ (d : ℕ). value_of t (bit_and d (pattern_of t (pos k)))) (pattern_pos t n i) ∙ ap (λ (d : ℕ). value_of t (bit_and n d)) (pattern_pos t k j)
          ∙ reduced_keeps t (pos (bit_and n k)) (natural_in t n (bit_and n k) i l),
      l,
      and_le_r n k,
    )

bits_in : (f : ℕ → ℕ → ℕ) (t : IntType) (x y : ℤ) → InRange t (bitwise f t x y)
unfolding bitwise
bits_in f t x y = reduced_in t (pos (f (pattern_of t x) (pattern_of t y)))

pub conjunctions_have : (t : IntType) (a b : Interval) (x y : ℤ) → InRange t x → InRange t y → IsMember a x → IsMember b y → IsMember (conjunctions t a b) (bitwise bit_and t x y)
unfolding conjunctions
conjunctions_have t a b x y i j p q = by_signs (has_no_negative a) (has_no_negative b) refl refl x y i j p q
  where
    by_signs : (c d : Flag) → has_no_negative a ≡ c → has_no_negative b ≡ d → (x y : ℤ) → InRange t x → InRange t y → IsMember a x → IsMember b y
        → IsMember (if c then from_to (pos 0) (if d then int_min a.high b.high else a.high) else (if d then from_to (pos 0) b.high else values_of t)) (bitwise bit_and t x y)
    by_signs true true c d (pos n) (pos k) i j p q =
        let m = and_both t n k i j in
        record { above = omega (arith, ints, m.1); below = omega (arith, ints, clamps, m.1, m.2, m.3, p.below, q.below) }
    by_signs true true c d (negsuc n) y i j p q = let l = of_le (pos 0) a.low c in absurd (omega (arith, ints, l, p.above))
    by_signs true true c d (pos n) (negsuc k) i j p q = let l = of_le (pos 0) b.low d in absurd (omega (arith, ints, l, q.above))
    by_signs true false c d (pos n) y i j p q = let m = and_left t n y i in record { above = omega (arith, ints, m.1); below = omega (arith, ints, m.1, m.2, p.below) }
    by_signs true false c d (negsuc n) y i j p q = let l = of_le (pos 0) a.low c in absurd (omega (arith, ints, l, p.above))
    by_signs false true c d x (pos k) i j p q = let m = and_right t x k j in record { above = omega (arith, ints, m.1); below = omega (arith, ints, m.1, m.2, q.below) }
    by_signs false true c d x (negsuc k) i j p q = let l = of_le (pos 0) b.low d in absurd (omega (arith, ints, l, q.above))
    by_signs false false c d x y i j p q = value_member t _ (bits_in bit_and t x y)

-- ---- disjunctions
-- the greatest value of a type is one less than a power of two
pub greatest_power : (t : IntType) → (k : ℕ) × (greatest_of t ≡ pos (2 ^ k - 1))
greatest_power Bool = (1, refl)
greatest_power Char = (7, refl)
greatest_power SChar = (7, refl)
greatest_power UChar = (8, refl)
greatest_power Short = (15, refl)
greatest_power UShort = (16, refl)
greatest_power Int = (31, refl)
greatest_power UInt = (32, refl)
greatest_power Long = (63, refl)
greatest_power ULong = (64, refl)
greatest_power LLong = (63, refl)
greatest_power ULLong = (64, refl)

-- an operation on bits gives no longer numbers than it is given
abbrev pub KeepsLength : (ℕ → ℕ → ℕ) → Type 0
KeepsLength f = (k a b : ℕ) → a < 2 ^ k → b < 2 ^ k → f a b < 2 ^ k

disjoined : (f : ℕ → ℕ → ℕ) (t : IntType) (n k : ℕ) → KeepsLength f → InRange t (pos n) → InRange t (pos k) → bitwise f t (pos n) (pos k) ≡ pos (f n k)
unfolding bitwise
disjoined f t n k keeps i j =
    let g = greatest_power t in
    let w = pow_pos g.0 in
    let l = keeps g.0 n k (omega (arith, ints, g.1, i.high, w)) (omega (arith, ints, g.1, j.high, w)) in
    let z = zero_in t in
    ap (λ (d : ℕ). value_of t (f d (pattern_of t (pos k)))) (pattern_pos t n i) ∙ ap (λ (d : ℕ). value_of t (f n d)) (pattern_pos t k j)
    ∙ reduced_keeps t (pos (f n k)) (record { low = omega (arith, ints, z.low); high = omega (arith, ints, g.1, l) })

digits_have : (f : ℕ → ℕ → ℕ) (h : ℤ) (n k : ℕ) → KeepsLength f → pos n ≤ℤ h → pos k ≤ℤ h → h ≤ℤ pos (2 ^ 64 - 1) → IsMember (up_to_digits h) (pos (f n k))
digits_have f (pos h) n k keeps p q s =
    let w = below_power h (omega (arith, ints, s)) in
    let l = keeps (binary_digits (pos h)) n k (omega (arith, ints, p, w)) (omega (arith, ints, q, w)) in
    record { above = omega (arith, ints); below = omega (arith, ints, l) }
digits_have f (negsuc h) n k keeps p q s = absurd (omega (arith, ints, p))

pub disjunctions_have : (f : ℕ → ℕ → ℕ) (t : IntType) (a b : Interval) (x y : ℤ) → KeepsLength f → IsSmall a → IsSmall b → InRange t x → InRange t y → IsMember a x → IsMember b y
    → IsMember (disjunctions t a b) (bitwise f t x y)
unfolding disjunctions
disjunctions_have f t a b x y keeps v w i j p q = by_signs (has_no_negative a) (has_no_negative b) refl refl x y i j p q
  where
    by_signs : (c d : Flag) → has_no_negative a ≡ c → has_no_negative b ≡ d → (x y : ℤ) → InRange t x → InRange t y → IsMember a x → IsMember b y
        → IsMember (if c && d then up_to_digits (int_max a.high b.high) else values_of t) (bitwise f t x y)
    by_signs true true c d (pos n) (pos k) i j p q =
        subst (IsMember (up_to_digits (int_max a.high b.high))) (sym (disjoined f t n k keeps i j))
        (digits_have f (int_max a.high b.high) n k keeps (omega (arith, ints, clamps, p.below)) (omega (arith, ints, clamps, q.below)) (omega (arith, ints, clamps, v.small_high, w.small_high)))
    by_signs true true c d (negsuc n) y i j p q = let l = of_le (pos 0) a.low c in absurd (omega (arith, ints, l, p.above))
    by_signs true true c d (pos n) (negsuc k) i j p q = let l = of_le (pos 0) b.low d in absurd (omega (arith, ints, l, q.above))
    by_signs true false c d x y i j p q = value_member t _ (bits_in f t x y)
    by_signs false d c e x y i j p q = value_member t _ (bits_in f t x y)

-- ---- complements
complement_is : (t : IntType) (x : ℤ) → InRange t x → complement t x ≡ (least_of t +ℤ greatest_of t) -ℤ x
complement_is Bool x i = complement_unsigned Bool x i refl ∙ omega (arith, ints)
complement_is Char x i = complement_signed Char x i refl ∙ omega (arith, ints)
complement_is SChar x i = complement_signed SChar x i refl ∙ omega (arith, ints)
complement_is UChar x i = complement_unsigned UChar x i refl ∙ omega (arith, ints)
complement_is Short x i = complement_signed Short x i refl ∙ omega (arith, ints)
complement_is UShort x i = complement_unsigned UShort x i refl ∙ omega (arith, ints)
complement_is Int x i = complement_signed Int x i refl ∙ omega (arith, ints)
complement_is UInt x i = complement_unsigned UInt x i refl ∙ omega (arith, ints)
complement_is Long x i = complement_signed Long x i refl ∙ omega (arith, ints)
complement_is ULong x i = complement_unsigned ULong x i refl ∙ omega (arith, ints)
complement_is LLong x i = complement_signed LLong x i refl ∙ omega (arith, ints)
complement_is ULLong x i = complement_unsigned ULLong x i refl ∙ omega (arith, ints)

pub complements_have : (t : IntType) (a : Interval) (x : ℤ) → InRange t x → IsMember a x → IsMember (complements t a) (complement t x)
complements_have t a x i p = subst (IsMember (complements t a)) (sym (complement_is t x i)) (record { above = omega (arith, ints, p.below); below = omega (arith, ints, p.above) })

-- ---- tests
pub tested_has : (itself contrary r : Flag) → (r ≡ true → itself ≡ true) → (r ≡ false → contrary ≡ true) → IsMember (tested itself contrary) (truth_of r)
tested_has true true true p q = record { above = omega (arith, ints); below = omega (arith, ints) }
tested_has true true false p q = record { above = omega (arith, ints); below = omega (arith, ints) }
tested_has true false true p q = record { above = omega (arith, ints); below = omega (arith, ints) }
tested_has true false false p q = let e = q refl in absurd cc
tested_has false true true p q = let e = p refl in absurd cc
tested_has false true false p q = record { above = omega (arith, ints); below = omega (arith, ints) }
tested_has false false true p q = let e = p refl in absurd cc
tested_has false false false p q = let e = q refl in absurd cc

pub can_less : (a b : Interval) (x y : ℤ) → IsMember a x → IsMember b y → x <ℤ y → can_be_less a b ≡ true
can_less a b x y p q h = lt_true a.low b.high (omega (arith, ints, p.above, q.below, h))

pub can_at_most : (a b : Interval) (x y : ℤ) → IsMember a x → IsMember b y → x ≤ℤ y → can_be_at_most a b ≡ true
can_at_most a b x y p q h = le_true a.low b.high (omega (arith, ints, p.above, q.below, h))

pub can_equal : (a b : Interval) (x y : ℤ) → IsMember a x → IsMember b y → int_eq x y ≡ true → can_be_equal a b ≡ true
can_equal a b x y p q e = by_order (int_lt x y) (int_lt y x) refl refl e
  where
    by_order : (l g : Flag) → int_lt x y ≡ l → int_lt y x ≡ g → int_eq x y ≡ true → can_be_equal a b ≡ true
    by_order false false l g e =
        let s = of_not_lt x y l in
        let r = of_not_lt y x g in
        both (can_be_at_most a b) (can_be_at_most b a) (can_at_most a b x y p q r) (can_at_most b a y x q p s)
      where
        both : (c d : Flag) → c ≡ true → d ≡ true → c && d ≡ true
        both true true c d = refl
        both true false c d = absurd cc
        both false d c e = absurd cc
    by_order true g l h e = absurd cc
    by_order false true l h e = absurd cc

pub can_be_other : (a b : Interval) (x y : ℤ) → IsMember a x → IsMember b y → int_eq x y ≡ false → can_differ a b ≡ true
can_be_other a b x y p q e = by_order (int_lt x y) (int_lt y x) refl refl e
  where
    right : (c d : Flag) → d ≡ true → c || d ≡ true
    right true d e = refl
    right false d e = e

    by_order : (l g : Flag) → int_lt x y ≡ l → int_lt y x ≡ g → int_eq x y ≡ false → can_differ a b ≡ true
    by_order true g l h e = ap (λ (c : Flag). c || can_be_less b a) (can_less a b x y p q (of_lt x y l))
    by_order false true l g e = right (can_be_less a b) (can_be_less b a) (can_less b a y x q p (of_lt y x g))
    by_order false false l g e = absurd cc
