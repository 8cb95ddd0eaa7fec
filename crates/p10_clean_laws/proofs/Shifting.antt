-- Shifts that stop at no ends stop nowhere.
use Rattle.std.proofs.Common.{◌≡◌, ◌^◌, true, false, Bool, ap, sym, ◌∙◌, arith, ℤ, pos, ◌≤ℤ◌, ◌<ℤ◌, ◌*ℤ◌, refl, subst, Result, Ok, Err}
use Rattle.std.proofs.lemmas.Int.{ints}
use Rattle.std.specs.Prelude.{◌&&◌, ◌||◌, ◌↔◌, not, if◌then◌else◌, unsigned_abs, int_le, int_lt, is_err}
use Rattle.std.specs.Int.{int_div_euclid}
use Rattle.p10_int.specs.declared.types.IntType.{IntType}
use Rattle.p10_int.specs.declared.operators.Stop.{Stop}
use Rattle.p10_int.specs.declared.operators.Stop.TheVariants.{U3, U4}
use Rattle.p10_int.specs.declared.operators.BinOp.TheVariants.{Shl, Shr}
use Rattle.p10_int.specs.Types.{InRange, is_signed_of, width_of, holds, promoted}
use Rattle.p10_int.specs.Conversion.{reduced}
use Rattle.p10_int.specs.Operators.{fitted, is_shift_count, shifted_left, shifted_right}
use Rattle.p10_int.proofs.Conversions.{zero_in}
use Rattle.p10_int.proofs.Reduced.{fitted_unsigned}
use Rattle.p10_range.specs.Ranges.{Interval, IsInhabited, IsMember, IsWithin}
use Rattle.p10_range.specs.Rows.{values_of, doubled}
use Rattle.p10_range.proofs.Signs.{le_true, lt_true, lt_false, of_le, of_lt, of_not_lt}
use Rattle.p10_range.proofs.Corners.{product_le, doubled_le}
use Rattle.p10_range.proofs.Pairs.{fitted_goes, lowest, highest}
use Rattle.p10_clean.specs.Operations.{shift_at, misshifts}
use Rattle.p10_clean_laws.specs.Exact.{AlwaysGoes, CleanShiftsGo}
use Rattle.p10_clean_laws.proofs.Testing.{in_holds, none_of_four, four_none, none_of_two, two_none, fitted_exact}

value : (t : IntType) (a : Interval) (x : ℤ) → IsWithin a (values_of t) → IsMember a x → InRange t x
value t a x w m = record { low = omega (arith, ints, w.from_low, m.above); high = omega (arith, ints, w.to_high, m.below) }

-- ## Counts

both : (c d : Bool) → c ≡ true → d ≡ true → c && d ≡ true
both true true c d = refl
both true false c d = absurd cc
both false d c e = absurd cc

parts : (c d : Bool) → c && d ≡ true → (c ≡ true) × (d ≡ true)
parts true true e = (refl, refl)
parts true false e = absurd cc
parts false d e = absurd cc

-- what lies between two counts is one
count_between : (t : IntType) (l n h : ℤ) → is_shift_count t l ≡ true → is_shift_count t h ≡ true → l ≤ℤ n → n ≤ℤ h → is_shift_count t n ≡ true
count_between t l n h c d p q =
    let low = of_le (pos 0) l (parts (int_le (pos 0) l) (int_lt l (pos (width_of (promoted t)))) c).0 in
    let high = of_lt h (pos (width_of (promoted t))) (parts (int_le (pos 0) h) (int_lt h (pos (width_of (promoted t)))) d).1 in
    both _ _ (le_true (pos 0) n (omega (arith, ints, low, p))) (lt_true n (pos (width_of (promoted t))) (omega (arith, ints, high, q)))

count_natural : (t : IntType) (n : ℤ) → is_shift_count t n ≡ true → pos 0 ≤ℤ n
count_natural t n c = of_le (pos 0) n (parts (int_le (pos 0) n) (int_lt n (pos (width_of (promoted t)))) c).0

goes_on : {A : Type 0} (r : Result A Stop) (z : A) → r ≡ Ok z → is_err r ≡ false
goes_on r z e = ap is_err e

-- ## To the right

right_count : (t : IntType) (x n : ℤ) → is_err (shifted_right t x n) ≡ false → is_shift_count t n ≡ true
unfolding shifted_right
right_count t x n e = by_count (is_shift_count t n) refl e
  where
    by_count : (c : Bool) → is_shift_count t n ≡ c → is_err (if c then Ok (int_div_euclid x (pos (2 ^ unsigned_abs n))) else Err U3) ≡ false → is_shift_count t n ≡ true
    by_count true c e = c
    by_count false c e = absurd cc

right_goes : (t : IntType) (x n : ℤ) → is_shift_count t n ≡ true → shifted_right t x n ≡ Ok (int_div_euclid x (pos (2 ^ unsigned_abs n)))
unfolding shifted_right
right_goes t x n c = ap (λ (b : Bool). if b then Ok (int_div_euclid x (pos (2 ^ unsigned_abs n))) else Err U3) c

-- what a test at one pair says
tested : (t : IntType) (x : ℤ) (b : Bool) → not (holds t x) || b ≡ false → b ≡ false
tested t x b e = (none_of_two (not (holds t x)) b e).1

testing : (t : IntType) (x : ℤ) (b : Bool) → InRange t x → b ≡ false → not (holds t x) || b ≡ false
testing t x b i e = two_none (not (holds t x)) b (ap not (in_holds t x i)) e

clean_right : (t : IntType) (a b : Interval) → misshifts Shr t a b ≡ false → AlwaysGoes Shr t a b
clean_right t a b e x n m k =
    let f = none_of_four (shift_at Shr t a.low b.low) (shift_at Shr t a.low b.high) (shift_at Shr t a.high b.low) (shift_at Shr t a.high b.high) e in
    let l = right_count t a.low b.low (tested t a.low (is_err (shifted_right t a.low b.low)) f.0) in
    let h = right_count t a.low b.high (tested t a.low (is_err (shifted_right t a.low b.high)) f.1) in
    (int_div_euclid x (pos (2 ^ unsigned_abs n)), right_goes t x n (count_between t b.low n b.high l h k.above k.below))

right_clean : (t : IntType) (a b : Interval) → IsInhabited a → IsInhabited b → IsWithin a (values_of t) → AlwaysGoes Shr t a b → misshifts Shr t a b ≡ false
right_clean t a b i j w h =
    four_none (shift_at Shr t a.low b.low) (shift_at Shr t a.low b.high) (shift_at Shr t a.high b.low) (shift_at Shr t a.high b.high)
    (at a.low b.low (lowest a i) (lowest b j)) (at a.low b.high (lowest a i) (highest b j)) (at a.high b.low (highest a i) (lowest b j)) (at a.high b.high (highest a i) (highest b j))
  where
    at : (x n : ℤ) → IsMember a x → IsMember b n → not (holds t x) || is_err (shifted_right t x n) ≡ false
    at x n m k = let z = h x n m k in testing t x (is_err (shifted_right t x n)) (value t a x w m) (goes_on (shifted_right t x n) z.0 z.1)

-- ## To the left

record LeftParts (t : IntType) (x n : ℤ) : Type 0 where
  count : is_shift_count t n ≡ true
  natural : int_lt x (pos 0) ≡ false
  result : is_err (fitted t U4 (doubled x n)) ≡ false

left_parts : (t : IntType) (x n : ℤ) → is_err (shifted_left t x n) ≡ false → LeftParts t x n
unfolding shifted_left
left_parts t x n e = by_tests (is_shift_count t n) (int_lt x (pos 0)) refl refl e
  where
    by_tests : (c s : Bool) → is_shift_count t n ≡ c → int_lt x (pos 0) ≡ s → is_err (if c then (if s then Err U4 else fitted t U4 (doubled x n)) else Err U3) ≡ false → LeftParts t x n
    by_tests true true c s e = absurd cc
    by_tests true false c s e = record { count = c; natural = s; result = e }
    by_tests false s c d e = absurd cc

left_goes : (t : IntType) (x n z : ℤ) → is_shift_count t n ≡ true → pos 0 ≤ℤ x → fitted t U4 (doubled x n) ≡ Ok z → shifted_left t x n ≡ Ok z
unfolding shifted_left
left_goes t x n z c h e =
    ap (λ (b : Bool). if b then (if int_lt x (pos 0) then Err U4 else fitted t U4 (doubled x n)) else Err U3) c
    ∙ (ap (λ (b : Bool). if b then Err U4 else fitted t U4 (doubled x n)) (lt_false x (pos 0) h) ∙ e)

zero_doubled : (x n : ℤ) → pos 0 ≤ℤ x → pos 0 ≤ℤ doubled x n
zero_doubled (pos x) n h = omega (arith, ints)
zero_doubled x n h = product_le (pos 0) x (pos 0) (pos (2 ^ unsigned_abs n)) (omega (arith, ints)) h (omega (arith, ints)) (omega (arith, ints))

clean_left : (t : IntType) (a b : Interval) → misshifts Shl t a b ≡ false → AlwaysGoes Shl t a b
clean_left t a b e x n m k =
    let f = none_of_four (shift_at Shl t a.low b.low) (shift_at Shl t a.low b.high) (shift_at Shl t a.high b.low) (shift_at Shl t a.high b.high) e in
    let l = left_parts t a.low b.low (tested t a.low (is_err (shifted_left t a.low b.low)) f.0) in
    let h = left_parts t a.high b.high (tested t a.high (is_err (shifted_left t a.high b.high)) f.3) in
    let c = count_between t b.low n b.high l.count h.count k.above k.below in
    let zero : pos 0 ≤ℤ a.low = of_not_lt a.low (pos 0) l.natural in
    let some : pos 0 ≤ℤ x = omega (arith, ints, zero, m.above) in
    by_sign c some h.result (doubled_le x a.high n b.high some m.below (count_natural t n c) k.below) (is_signed_of t) refl
  where
    by_sign : is_shift_count t n ≡ true → pos 0 ≤ℤ x → is_err (fitted t U4 (doubled a.high b.high)) ≡ false → doubled x n ≤ℤ doubled a.high b.high → (s : Bool) → is_signed_of t ≡ s → (z : ℤ) × (shifted_left t x n ≡ Ok z)
    by_sign c p r q true g =
        let top = fitted_exact t U4 (doubled a.high b.high) g r in
        let z = zero_in t in
        let least = zero_doubled x n p in
        (doubled x n, left_goes t x n (doubled x n) c p (fitted_goes t U4 (doubled x n) (record { low = omega (arith, ints, z.low, least); high = omega (arith, ints, top.high, q) })))
    by_sign c p r q false g = (reduced t (doubled x n), left_goes t x n (reduced t (doubled x n)) c p (fitted_unsigned t U4 (doubled x n) g))

left_clean : (t : IntType) (a b : Interval) → IsInhabited a → IsInhabited b → IsWithin a (values_of t) → AlwaysGoes Shl t a b → misshifts Shl t a b ≡ false
left_clean t a b i j w h =
    four_none (shift_at Shl t a.low b.low) (shift_at Shl t a.low b.high) (shift_at Shl t a.high b.low) (shift_at Shl t a.high b.high)
    (at a.low b.low (lowest a i) (lowest b j)) (at a.low b.high (lowest a i) (highest b j)) (at a.high b.low (highest a i) (lowest b j)) (at a.high b.high (highest a i) (highest b j))
  where
    at : (x n : ℤ) → IsMember a x → IsMember b n → not (holds t x) || is_err (shifted_left t x n) ≡ false
    at x n m k = let z = h x n m k in testing t x (is_err (shifted_left t x n)) (value t a x w m) (goes_on (shifted_left t x n) z.0 z.1)

pub clean_shifts_go : CleanShiftsGo
clean_shifts_go = record {
  left = λ t a b i j w. (clean_left t a b, left_clean t a b i j w);
  right = λ t a b i j w. (clean_right t a b, right_clean t a b i j w);
}
