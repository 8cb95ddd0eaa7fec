-- The rows of arithmetic have each result on numbers of the operands.
use Rattle.std.proofs.Common.{◌≡◌, ℕ, zero, suc, ◌-◌, ◌^◌, ◌%◌, ◌/◌, ◌<◌, ◌≤◌, true, false, Bool as Flag, ap, sym, ◌∙◌, arith, ℤ, pos, negsuc, neg_ℤ, ◌≤ℤ◌, ◌+ℤ◌, ◌-ℤ◌, ◌*ℤ◌, refl, subst, Option, Some, None, Result, Ok, Err}
use Rattle.std.proofs.lemmas.Int.{ints, clamps}
use Rattle.std.proofs.Math.Nat.{div-le_self, mod-le}
use Rattle.std.specs.Prelude.{◌&&◌, if◌then◌else◌, unsigned_abs, int_div, int_rem, int_le, int_lt}
use Rattle.std.specs.Option.{option_map, option_and_then}
use Rattle.std.specs.Ordering.{int_eq}
use Rattle.std.specs.Int.{int_min, int_max, int_div_euclid}
use Rattle.p10_int.specs.declared.types.IntType.{IntType}
use Rattle.p10_int.specs.declared.operators.Stop.{Stop}
use Rattle.p10_int.specs.declared.operators.Stop.TheVariants.{U1, U2, U3, U4}
use Rattle.p10_int.specs.declared.operators.BinOp.TheVariants.{Div}
use Rattle.p10_int.specs.Types.{InRange, is_signed_of, least_of, greatest_of, width_of, promoted, holds}
use Rattle.p10_int.specs.Conversion.{reduced}
use Rattle.p10_int.specs.Operators.{fitted, quotient, remainder, is_shift_count, shifted_left, shifted_right}
use Rattle.p10_int.proofs.InRange.{holds_in, operate_in}
use Rattle.p10_int.proofs.Conversions.{reduced_in, reduced_keeps}
use Rattle.p10_int.proofs.Ranges.{least_unsigned}
use Rattle.p10_int.proofs.Reduced.{fitted_signed, fitted_unsigned}
use Rattle.p10_int.proofs.Remainders.{small}
use Rattle.p10_int.proofs.Quotients.{rest_stands}
use Rattle.p10_range.specs.Ranges.{Interval, from_to, IsMember, is_within, inhabited_of, meet_of, not_negative}
use Rattle.p10_range.specs.Rows.{values_of, clipped, exact_or_all, fitted_interval, sums, differences, products, negatives, magnitude, up_to_magnitude, quotients, quotients_at_ends, rests, remainders, shift_counts, halved, doubled, shifted_by, shifts_left, shifts_right, at_ends}
use Rattle.p10_range.specs.Laws.{HasNumber}
use Rattle.p10_range.proofs.Signs.{le_true, of_le, of_lt, of_not_lt}
use Rattle.p10_range.proofs.Ends.{ends_have, products_monotone, quotients_monotone, halves_monotone, Any, Positive, Natural}
use Rattle.p10_range.proofs.Corners.{doubled_le}

-- ---- meeting and fitting
pub inhabited_is : (i : Interval) (z : ℤ) → IsMember i z → inhabited_of i ≡ Some i
inhabited_is i z m = ap (λ (b : Flag). if b then Some i else None) (le_true i.low i.high (omega (arith, ints, m.above, m.below)))

-- the numbers of both
abbrev pub met : Interval → Interval → Interval
met i j = from_to (int_max i.low j.low) (int_min i.high j.high)

pub met_has : (i j : Interval) (z : ℤ) → IsMember i z → IsMember j z → IsMember (met i j) z
met_has i j z m n = record { above = omega (arith, ints, clamps, m.above, n.above); below = omega (arith, ints, clamps, m.below, n.below) }

pub meet_is : (i j : Interval) (z : ℤ) → IsMember i z → IsMember j z → meet_of i j ≡ Some (met i j)
meet_is i j z m n = inhabited_is (met i j) z (met_has i j z m n)

pub has_some : (o : Option Interval) (i : Interval) (z : ℤ) → o ≡ Some i → IsMember i z → HasNumber o z
has_some o i z e m = subst (λ p. HasNumber p z) (sym e) m

pub value_member : (t : IntType) (z : ℤ) → InRange t z → IsMember (values_of t) z
value_member t z i = record { above = i.low; below = i.high }

pub clipped_has : (t : IntType) (i : Interval) (z : ℤ) → InRange t z → IsMember i z → HasNumber (clipped t i) z
clipped_has t i z v m = has_some (clipped t i) (met i (values_of t)) z (meet_is i (values_of t) z m (value_member t z v)) (met_has i (values_of t) z m (value_member t z v))

inside : (t : IntType) (i : Interval) (z : ℤ) → int_le (values_of t).low i.low && int_le i.high (values_of t).high ≡ true → IsMember i z → InRange t z
inside t i z e m = both (int_le (least_of t) i.low) (int_le i.high (greatest_of t)) refl refl e
  where
    both : (b d : Flag) → int_le (least_of t) i.low ≡ b → int_le i.high (greatest_of t) ≡ d → b && d ≡ true → InRange t z
    both true true l h e =
        let low = of_le (least_of t) i.low l in
        let high = of_le i.high (greatest_of t) h in
        record { low = omega (arith, ints, low, m.above); high = omega (arith, ints, high, m.below) }
    both true false l h e = absurd cc
    both false d l h e = absurd cc

-- what a number of an exact interval reduces to
pub exact_has : (t : IntType) (i : Interval) (x : ℤ) → IsMember i x → IsMember (exact_or_all t i) (reduced t x)
exact_has t i x m = by_test (is_within i (values_of t)) refl
  where
    by_test : (b : Flag) → is_within i (values_of t) ≡ b → IsMember (if b then i else values_of t) (reduced t x)
    by_test true e = subst (IsMember i) (sym (reduced_keeps t x (inside t i x e m))) m
    by_test false e = value_member t (reduced t x) (reduced_in t x)

pub fitted_has : (t : IntType) (stop : Stop) (i : Interval) (x z : ℤ) → IsMember i x → fitted t stop x ≡ Ok z → HasNumber (fitted_interval t i) z
unfolding fitted_interval
fitted_has t stop i x z m e = by_sign (is_signed_of t) refl
  where
    held : (h : Flag) → holds t x ≡ h → (if h then Ok x else Err stop) ≡ Ok z → HasNumber (clipped t i) z
    held true h f = let same : x ≡ z = cc in subst (HasNumber (clipped t i)) same (clipped_has t i x (holds_in t x h) m)
    held false h f = absurd cc

    by_sign : (s : Flag) → is_signed_of t ≡ s → HasNumber (if s then clipped t i else Some (exact_or_all t i)) z
    by_sign true s = held (holds t x) refl (sym (fitted_signed t stop x s) ∙ e)
    by_sign false s = let f = sym (fitted_unsigned t stop x s) ∙ e in let same : reduced t x ≡ z = cc in subst (IsMember (exact_or_all t i)) same (exact_has t i x m)

-- ---- sums and products
pub sums_have : (a b : Interval) (x y : ℤ) → IsMember a x → IsMember b y → IsMember (sums a b) (x +ℤ y)
sums_have a b x y p q = record { above = omega (arith, ints, p.above, q.above); below = omega (arith, ints, p.below, q.below) }

pub differences_have : (a b : Interval) (x y : ℤ) → IsMember a x → IsMember b y → IsMember (differences a b) (x -ℤ y)
differences_have a b x y p q = record { above = omega (arith, ints, p.above, q.below); below = omega (arith, ints, p.below, q.above) }

pub products_have : (a b : Interval) (x y : ℤ) → IsMember a x → IsMember b y → IsMember (products a b) (x *ℤ y)
products_have a b x y p q = ends_have (λ x y. x *ℤ y) Any a b x y products_monotone tt p q

pub negatives_have : (a : Interval) (x : ℤ) → IsMember a x → IsMember (negatives a) (neg_ℤ x)
negatives_have a x p = record { above = omega (arith, ints, p.below); below = omega (arith, ints, p.above) }

-- ---- quotients
abs_neg : (n : ℕ) → unsigned_abs (neg_ℤ (pos n)) ≡ n
abs_neg zero = refl
abs_neg (suc n) = refl

abs_quotient : (a b : ℤ) → unsigned_abs (int_div a b) ≤ unsigned_abs a
abs_quotient (pos n) (pos m) = div-le_self n m
abs_quotient (pos n) (negsuc m) = rw (abs_neg (n / suc m)) (div-le_self n (suc m))
abs_quotient (negsuc n) (pos m) = rw (abs_neg (suc n / m)) (div-le_self (suc n) m)
abs_quotient (negsuc n) (negsuc m) = div-le_self (suc n) (suc m)

-- the size of a number is that of one of the ends, or less
pub abs_up_to : (a : Interval) (x : ℤ) → IsMember a x → pos (unsigned_abs x) ≤ℤ magnitude a
abs_up_to a (pos n) m = omega (arith, ints, clamps, m.below)
abs_up_to a (negsuc n) m = omega (arith, ints, clamps, m.above)

sized : (q : ℤ) (m : ℤ) → pos (unsigned_abs q) ≤ℤ m → ((pos 0 -ℤ m) ≤ℤ q) × (q ≤ℤ m)
sized (pos n) m h = (omega (arith, ints, h), omega (arith, ints, h))
sized (negsuc n) m h = (omega (arith, ints, h), omega (arith, ints, h))

pub magnitudes_have : (a : Interval) (x y : ℤ) → IsMember a x → IsMember (up_to_magnitude a) (int_div x y)
magnitudes_have a x y m =
    let s = sized (int_div x y) (magnitude a) (let l = abs_quotient x y in let h = abs_up_to a x m in omega (arith, ints, l, h)) in
    record { above = s.0; below = s.1 }

quotient_in : (t : IntType) (a b : ℤ) → least_of t ≡ pos 0 → InRange t a → InRange t b → InRange t (int_div a b)
quotient_in t (pos n) (pos m) z i j = let d = div-le_self n m in record { low = omega (arith, ints, z); high = omega (arith, ints, i.high) }
quotient_in t (pos n) (negsuc m) z i j = absurd (omega (arith, ints, z, j.low))
quotient_in t (negsuc n) b z i j = absurd (omega (arith, ints, z, i.low))

-- an exact result that an unsigned type has is handed on
fitted_keeps : (t : IntType) (stop : Stop) (z r : ℤ) → (is_signed_of t ≡ false → InRange t z) → fitted t stop z ≡ Ok r → r ≡ z
fitted_keeps t stop z r u e = by_sign (is_signed_of t) refl
  where
    held : (h : Flag) → (if h then Ok z else Err stop) ≡ Ok r → r ≡ z
    held true f = cc
    held false f = absurd cc

    by_sign : (s : Flag) → is_signed_of t ≡ s → r ≡ z
    by_sign true s = held (holds t z) (sym (fitted_signed t stop z s) ∙ e)
    by_sign false s = let f = sym (fitted_unsigned t stop z s) ∙ e in let k : reduced t z ≡ r = cc in sym k ∙ reduced_keeps t z (u s)

quotient_is : (t : IntType) (a b q : ℤ) → InRange t a → InRange t b → quotient t a b ≡ Ok q → q ≡ int_div a b
unfolding quotient
quotient_is t a b q i j e = by_zero (int_eq b (pos 0)) e
  where
    by_zero : (z : Flag) → (if z then Err U2 else fitted t U1 (int_div a b)) ≡ Ok q → q ≡ int_div a b
    by_zero true e = absurd cc
    by_zero false e = fitted_keeps t U1 (int_div a b) q (λ s. quotient_in t a b (least_unsigned t s) i j) e

divisor_not_zero : (t : IntType) (x z : ℤ) → quotient t x (pos 0) ≡ Ok z → ⊥
unfolding quotient
divisor_not_zero t x z e = cc

positive : (t : IntType) (x y z : ℤ) → pos 0 ≤ℤ y → quotient t x y ≡ Ok z → pos 1 ≤ℤ y
positive t x (pos zero) z h e = absurd (divisor_not_zero t x z e)
positive t x (pos (suc n)) z h e = omega (arith, ints)
positive t x (negsuc n) z h e = absurd (omega (arith, ints, h))

pub quotients_have : (t : IntType) (a b : Interval) (x y z : ℤ) → InRange t x → InRange t y → IsMember a x → IsMember b y → quotient t x y ≡ Ok z → HasNumber (quotients t a b) z
unfolding quotients
quotients_have t a b x y z i j p q e = by_sign (int_lt b.low (pos 0)) refl
  where
    is : z ≡ int_div x y
    is = quotient_is t x y z i j e

    over : (n : Flag) → int_le b.high (pos 0) ≡ n → int_lt b.low (pos 0) ≡ false → HasNumber (if n then None else Some (quotients_at_ends a b)) z
    over true n s =
        let one = positive t x y z (let l = of_not_lt b.low (pos 0) s in omega (arith, ints, l, q.above)) e in
        let none = of_le b.high (pos 0) n in
        absurd (omega (arith, ints, one, none, q.below))
    over false n s =
        let one = positive t x y z (let l = of_not_lt b.low (pos 0) s in omega (arith, ints, l, q.above)) e in
        subst (IsMember (quotients_at_ends a b)) (sym is)
        (ends_have int_div Positive a (from_to (int_max b.low (pos 1)) b.high) x y quotients_monotone (omega (arith, ints, clamps)) p
        (record { above = omega (arith, ints, clamps, one, q.above); below = q.below }))

    by_sign : (s : Flag) → int_lt b.low (pos 0) ≡ s → HasNumber (if s then clipped t (up_to_magnitude a) else (if int_le b.high (pos 0) then None else Some (quotients_at_ends a b))) z
    by_sign true s = subst (HasNumber (clipped t (up_to_magnitude a))) (sym is) (clipped_has t (up_to_magnitude a) (int_div x y) (subst (InRange t) is (operate_in Div t x y z i e)) (magnitudes_have a x y p))
    by_sign false s = over (int_le b.high (pos 0)) refl s

-- ---- remainders
rest_size : (x y : ℤ) → unsigned_abs (int_rem x y) ≤ unsigned_abs x
rest_size (pos n) y = mod-le n (unsigned_abs y)
rest_size (negsuc n) y = rw (abs_neg (suc n % unsigned_abs y)) (mod-le (suc n) (unsigned_abs y))

rest_is : (t : IntType) (x y z : ℤ) → remainder t x y ≡ Ok z → z ≡ int_rem x y
unfolding remainder
rest_is t x y z e = given (quotient t x y) refl
  where
    given : (o : Result ℤ Stop) → quotient t x y ≡ o → z ≡ int_rem x y
    given (Ok q) f = let s = rest_stands t x y q (sym f) in cc
    given (Err stop) f = absurd (never f)
      where
        never : quotient t x y ≡ Err stop → ⊥
        never f = cc

rests_of : (a : Interval) (m x y z : ℤ) → IsMember a x → pos (unsigned_abs y) ≤ℤ m → z ≡ int_rem x y → unsigned_abs z < unsigned_abs y
    → (pos 0 ≤ℤ x → pos 0 ≤ℤ z) → (x ≤ℤ pos 0 → z ≤ℤ pos 0) → IsMember (rests a m) z
rests_of a m x y z p h is less natural not_positive =
    let size = subst (λ (r : ℤ). unsigned_abs r ≤ unsigned_abs x) (sym is) (rest_size x y) in
    by_signs x z p size natural not_positive less
  where
    by_signs : (x z : ℤ) → IsMember a x → unsigned_abs z ≤ unsigned_abs x → (pos 0 ≤ℤ x → pos 0 ≤ℤ z) → (x ≤ℤ pos 0 → z ≤ℤ pos 0) → unsigned_abs z < unsigned_abs y → IsMember (rests a m) z
    by_signs (pos x) (pos z) p s n q l = record { above = omega (arith, ints, clamps, p.above, s, l, h); below = omega (arith, ints, clamps, p.below, s, l, h) }
    by_signs (pos x) (negsuc z) p s n q l = absurd (let w = n (omega (arith, ints)) in omega (arith, ints, w))
    by_signs (negsuc x) (pos z) p s n q l = let w = q (omega (arith, ints)) in record { above = omega (arith, ints, clamps, w, p.above, h); below = omega (arith, ints, clamps, w, p.below, h) }
    by_signs (negsuc x) (negsuc z) p s n q l = record { above = omega (arith, ints, clamps, p.above, s, l, h); below = omega (arith, ints, clamps, p.below, s, l, h) }

pub remainders_have : (t : IntType) (a b : Interval) (x y z : ℤ) → IsMember a x → IsMember b y → remainder t x y ≡ Ok z → HasNumber (remainders a b) z
unfolding remainders
remainders_have t a b x y z p q e = by_test (int_le (magnitude b) (pos 0)) refl
  where
    up_to : pos (unsigned_abs y) ≤ℤ magnitude b
    up_to = abs_up_to b y q

    less : unsigned_abs z < unsigned_abs y
    less = (small t x y z e).smaller

    by_test : (n : Flag) → int_le (magnitude b) (pos 0) ≡ n → HasNumber (if n then None else Some (rests a (magnitude b))) z
    by_test true n = let none = of_le (magnitude b) (pos 0) n in absurd (omega (arith, ints, none, up_to, less))
    by_test false n = rests_of a (magnitude b) x y z p up_to (rest_is t x y z e) less (small t x y z e).not_negative (small t x y z e).not_positive

-- ---- shifts
-- a count by which a value may be shifted is one of the counts
count_member : (t : IntType) (n : ℤ) → is_shift_count t n ≡ true → IsMember (from_to (pos 0) (pos (width_of (promoted t) - 1))) n
count_member t n e = both (int_le (pos 0) n) (int_lt n (pos (width_of (promoted t)))) refl refl e
  where
    both : (b d : Flag) → int_le (pos 0) n ≡ b → int_lt n (pos (width_of (promoted t))) ≡ d → b && d ≡ true → IsMember (from_to (pos 0) (pos (width_of (promoted t) - 1))) n
    both true true l h e = let low = of_le (pos 0) n l in let high = of_lt n _ h in record { above = low; below = omega (arith, ints, high, low) }
    both true false l h e = absurd cc
    both false d l h e = absurd cc

counts : IntType → Interval
counts t = from_to (pos 0) (pos (width_of (promoted t) - 1))

pub shifts_right_have : (t : IntType) (a b : Interval) (x n z : ℤ) → IsMember a x → IsMember b n → shifted_right t x n ≡ Ok z → HasNumber (shifts_right t a b) z
unfolding shifts_right shifted_right counts
shifts_right_have t a b x n z p q e = by_count (is_shift_count t n) refl e
  where
    by_count : (c : Flag) → is_shift_count t n ≡ c → (if c then Ok (int_div_euclid x (pos (2 ^ unsigned_abs n))) else Err U3) ≡ Ok z → HasNumber (option_map (at_ends halved a) (shift_counts t b)) z
    by_count true c e =
        let m = count_member t n c in
        let same : halved x n ≡ z = cc in
        has_some _ (at_ends halved a (met b (counts t))) z
        (ap (option_map (at_ends halved a)) (meet_is b (counts t) n q m))
        (subst (IsMember (at_ends halved a (met b (counts t)))) same (ends_have halved Natural a (met b (counts t)) x n halves_monotone (omega (arith, ints, clamps)) p (met_has b (counts t) n q m)))
    by_count false c e = absurd cc

natural : Interval → Interval
natural a = from_to (int_max a.low (pos 0)) a.high

natural_has : (a : Interval) (x : ℤ) → IsMember a x → pos 0 ≤ℤ x → IsMember (natural a) x
unfolding natural
natural_has a x m h = record { above = omega (arith, ints, clamps, m.above, h); below = m.below }

not_negative_is : (a : Interval) (x : ℤ) → IsMember a x → pos 0 ≤ℤ x → not_negative a ≡ Some (natural a)
unfolding natural
not_negative_is a x m h = inhabited_is (natural a) x (natural_has a x m h)

shifted_has : (a n : Interval) (x k : ℤ) → pos 0 ≤ℤ a.low → pos 0 ≤ℤ n.low → IsMember a x → IsMember n k → IsMember (shifted_by n a) (doubled x k)
shifted_has a n x k p q m c = record {
  above = doubled_le a.low x n.low k p m.above q c.above;
  below = doubled_le x a.high k n.high (omega (arith, ints, p, m.above)) m.below (omega (arith, ints, q, c.above)) c.below;
}

pub shifts_left_have : (t : IntType) (a b : Interval) (x n z : ℤ) → IsMember a x → IsMember b n → shifted_left t x n ≡ Ok z → HasNumber (shifts_left t a b) z
unfolding shifts_left shifted_left counts natural
shifts_left_have t a b x n z p q e = by_count (is_shift_count t n) (int_lt x (pos 0)) refl refl e
  where
    by_count : (c s : Flag) → is_shift_count t n ≡ c → int_lt x (pos 0) ≡ s
        → (if c then (if s then Err U4 else fitted t U4 (doubled x n)) else Err U3) ≡ Ok z
        → HasNumber (option_and_then (λ n. option_and_then (λ a. fitted_interval t (shifted_by n a)) (not_negative a)) (shift_counts t b)) z
    by_count true false c s e =
        let m = count_member t n c in
        let zero = of_not_lt x (pos 0) s in
        subst (λ o. HasNumber o z)
        (sym (ap (option_and_then (λ n. option_and_then (λ a. fitted_interval t (shifted_by n a)) (not_negative a))) (meet_is b (counts t) n q m)
        ∙ ap (option_and_then (λ a. fitted_interval t (shifted_by (met b (counts t)) a))) (not_negative_is a x p zero)))
        (fitted_has t U4 (shifted_by (met b (counts t)) (natural a)) (doubled x n) z
        (shifted_has (natural a) (met b (counts t)) x n (omega (arith, ints, clamps)) (omega (arith, ints, clamps)) (natural_has a x p zero) (met_has b (counts t) n q m)) e)
    by_count true true c s e = absurd cc
    by_count false s c g e = absurd cc
