-- Operators on integers stop exactly where they are undefined.
use Rattle.std.proofs.Common.{◌≡◌, ℕ, zero, suc, ◌^◌, ◌/◌, ◌≤◌, true, false, Bool as Flag, ap, sym, ◌∙◌, arith, ℤ, pos, negsuc, neg_ℤ, ◌<ℤ◌, ◌+ℤ◌, ◌-ℤ◌, ◌*ℤ◌, refl, subst, Result, Ok, Err}
use Rattle.std.proofs.lemmas.Int.{ints, by_lt_z}
use Rattle.std.proofs.Math.Nat.{div-le_self, div-mul-le_self}
use Rattle.std.specs.Prelude.{◌&&◌, if◌then◌else◌, unsigned_abs, int_div, int_rem, int_le, int_lt}
use Rattle.std.specs.Ordering.{int_eq}
use Rattle.std.specs.Int.{int_div_euclid}
use Rattle.p10_int.specs.declared.types.IntType.{IntType}
use Rattle.p10_int.specs.declared.types.IntType.TheVariants.{Bool, Char, SChar, UChar, Short, UShort, Int, UInt, Long, ULong, LLong, ULLong}
use Rattle.p10_int.specs.declared.operators.Stop.{Stop}
use Rattle.p10_int.specs.declared.operators.Stop.TheVariants.{U1, U2, U3, U4}
use Rattle.p10_int.specs.declared.operators.BinOp.{BinOp}
use Rattle.p10_int.specs.declared.operators.BinOp.TheVariants.{Add, Sub, Mul, Div, Rem, Shl, Shr, And, Or, Xor, Lt, Gt, Le, Ge, Eq, Ne}
use Rattle.p10_int.specs.declared.operators.UnOp.TheVariants.{Plus, Neg, Not, Com}
use Rattle.p10_int.specs.Types.{InRange, is_signed_of, least_of, greatest_of, width_of, holds, promoted}
use Rattle.p10_int.specs.Operators.{fitted, quotient, remainder, unless_stopped, is_shift_count, shifted_left, shifted_right, operate}
use Rattle.p10_int.proofs.InRange.{holds_in}
use Rattle.p10_int.proofs.Conversions.{zero_in, one_in}
use Rattle.p10_int.proofs.Reduced.{fitted_signed, fitted_unsigned}
use Rattle.p10_range.proofs.Signs.{le_true, of_le, of_lt, of_not_le, of_not_lt, div_falls}
use Rattle.p10_stop_laws.specs.Operators.{Overflows, LacksQuotient, IsWrongCount, negative_count, large_count, CannotShift, negative_value, lacked, IsUndefined, sum, difference, product, quotient as divided, quotient_by_zero, remainder as modulo, remainder_by_zero, left_count, left, right_count, OperatorsStopThen, IsUndefinedUnary, negation, UnaryOperatorsStopThen}

-- ---- exact results
in_holds : (t : IntType) (z : ℤ) → InRange t z → holds t z ≡ true
in_holds t z i = both (int_le (least_of t) z) (int_le z (greatest_of t)) (le_true _ _ i.low) (le_true _ _ i.high)
  where
    both : (c d : Flag) → c ≡ true → d ≡ true → c && d ≡ true
    both true true c d = refl
    both true false c d = absurd cc
    both false d c e = absurd cc

-- a fitted result stops where the type lacks it
pub fitted_stops : (t : IntType) (stop s : Stop) (z : ℤ) → fitted t stop z ≡ Err s → (s ≡ stop) × Overflows t z
fitted_stops t stop s z e = by_sign (is_signed_of t) refl
  where
    by_holds : is_signed_of t ≡ true → (h : Flag) → holds t z ≡ h → (if h then Ok z else Err stop) ≡ Err s → (s ≡ stop) × Overflows t z
    by_holds g true h f = absurd cc
    by_holds g false h f = (cc, record { signed = g; lacks = λ i. let k = in_holds t z i in absurd cc })

    by_sign : (g : Flag) → is_signed_of t ≡ g → (s ≡ stop) × Overflows t z
    by_sign true g = by_holds g (holds t z) refl (sym (fitted_signed t stop z g) ∙ e)
    by_sign false g = let f = sym (fitted_unsigned t stop z g) ∙ e in absurd cc

stops_fitted : (t : IntType) (stop : Stop) (z : ℤ) → Overflows t z → fitted t stop z ≡ Err stop
stops_fitted t stop z o = fitted_signed t stop z o.signed ∙ by_holds (holds t z) refl
  where
    by_holds : (h : Flag) → holds t z ≡ h → (if h then Ok z else Err stop) ≡ Err stop
    by_holds true h = absurd (o.lacks (holds_in t z h))
    by_holds false h = refl

-- ---- quotients
-- the ends of a signed type
mirrored : (t : IntType) → is_signed_of t ≡ true → least_of t +ℤ greatest_of t ≡ negsuc 0
mirrored Bool s = absurd cc
mirrored Char s = refl
mirrored SChar s = refl
mirrored UChar s = absurd cc
mirrored Short s = refl
mirrored UShort s = absurd cc
mirrored Int s = refl
mirrored UInt s = absurd cc
mirrored Long s = refl
mirrored ULong s = absurd cc
mirrored LLong s = refl
mirrored ULLong s = absurd cc

by_one : (n : ℕ) → n / 1 ≡ n
by_one n = grind arith

-- the negated numbers of a signed type, but for that of its least value
negated_in : (t : IntType) (a : ℤ) → is_signed_of t ≡ true → InRange t a → least_of t <ℤ a → InRange t (neg_ℤ a)
negated_in t a s i h = let e = mirrored t s in record { low = omega (arith, ints, e, i.high); high = omega (arith, ints, e, h) }

least_negated : (t : IntType) → is_signed_of t ≡ true → ¬ InRange t (neg_ℤ (least_of t))
least_negated t s i = let e = mirrored t s in absurd (omega (arith, ints, e, i.high))

by_minus_one : (a : ℤ) → int_div a (negsuc 0) ≡ neg_ℤ a
by_minus_one (pos n) = let e = by_one n in omega (arith, ints)
by_minus_one (negsuc n) = let e = by_one (suc n) in omega (arith, ints)

-- by -2 and below, a quotient is at most half as large
halved_in : (t : IntType) (a : ℤ) (m : ℕ) → is_signed_of t ≡ true → InRange t a → 1 ≤ m → InRange t (int_div a (negsuc m))
halved_in t (pos n) m s i h =
    let d = div-le_self n (suc m) in
    let e = mirrored t s in
    let z = zero_in t in
    record { low = omega (arith, ints, d, e, i.high); high = omega (arith, ints, z.high) }
halved_in t (negsuc n) m s i h =
    let d = div_falls (suc n) 2 (suc m) (omega arith) (omega (arith, h)) in
    let k = div-mul-le_self (suc n) 2 in
    let e = mirrored t s in
    let u = one_in t in
    let z = zero_in t in
    record { low = omega (arith, ints, z.low); high = omega (arith, ints, d, k, e, i.low, u.high) }

-- toward zero a value stays one
forward_in : (t : IntType) (a : ℤ) (m : ℕ) → InRange t a → InRange t (int_div a (pos m))
forward_in t (pos n) m i = let d = div-le_self n m in let z = zero_in t in record { low = omega (arith, ints, z.low); high = omega (arith, ints, i.high, d) }
forward_in t (negsuc n) m i = let d = div-le_self (suc n) m in let z = zero_in t in record { low = omega (arith, ints, i.low, d); high = omega (arith, ints, z.high) }

-- a quotient that the type lacks is that of its least value by -1
lacked_quotient : (t : IntType) (a b : ℤ) → InRange t a → Overflows t (int_div a b) → LacksQuotient t a b
lacked_quotient t a (pos n) i o = absurd (o.lacks (forward_in t a n i))
lacked_quotient t a (negsuc zero) i o =
    by_lt_z (least_of t) a
    (λ h. absurd (o.lacks (subst (InRange t) (sym (by_minus_one a)) (negated_in t a o.signed i h))))
    (λ h. record { signed = o.signed; least = omega (arith, ints, h, i.low); minus_one = refl })
lacked_quotient t a (negsuc (suc m)) i o = absurd (o.lacks (halved_in t a (suc m) o.signed i (omega arith)))

lacks_quotient : (t : IntType) (a b : ℤ) → LacksQuotient t a b → Overflows t (int_div a b)
lacks_quotient t a b m =
    record {
      signed = m.signed;
      lacks = λ i. least_negated t m.signed (subst (InRange t) (by_minus_one (least_of t)) (subst (λ (y : ℤ). InRange t (int_div (least_of t) y)) m.minus_one (subst (λ (x : ℤ). InRange t (int_div x b)) m.least i)));
    }

not_zero : (b : ℤ) → b ≡ negsuc 0 → int_eq b (pos 0) ≡ false
not_zero b e = subst (λ (y : ℤ). int_eq y (pos 0) ≡ false) (sym e) refl

is_zero : (b : ℤ) → int_eq b (pos 0) ≡ true → b ≡ pos 0
is_zero b e = grind (arith, ints)

zero_is : (b : ℤ) → b ≡ pos 0 → int_eq b (pos 0) ≡ true
zero_is b e = grind (arith, ints)

-- how `/` stops
data Divides (t : IntType) (a b : ℤ) (s : Stop) : Type 0 where
  by_nothing : b ≡ pos 0 → s ≡ U2 → Divides t a b s
  overflowing : LacksQuotient t a b → s ≡ U1 → Divides t a b s

quotient_stops : (t : IntType) (a b : ℤ) (s : Stop) → InRange t a → quotient t a b ≡ Err s → Divides t a b s
unfolding quotient
quotient_stops t a b s i e = by_test (int_eq b (pos 0)) refl e
  where
    by_test : (z : Flag) → int_eq b (pos 0) ≡ z → (if z then Err U2 else fitted t U1 (int_div a b)) ≡ Err s → Divides t a b s
    by_test true z e = by_nothing (is_zero b z) cc
    by_test false z e = let f = fitted_stops t U1 s (int_div a b) e in overflowing (lacked_quotient t a b i f.1) f.0

stops_by_zero : (t : IntType) (a b : ℤ) → b ≡ pos 0 → quotient t a b ≡ Err U2
unfolding quotient
stops_by_zero t a b e = ap (λ (z : Flag). if z then Err U2 else fitted t U1 (int_div a b)) (zero_is b e)

stops_at_least : (t : IntType) (a b : ℤ) → LacksQuotient t a b → quotient t a b ≡ Err U1
unfolding quotient
stops_at_least t a b m = ap (λ (z : Flag). if z then Err U2 else fitted t U1 (int_div a b)) (not_zero b m.minus_one) ∙ stops_fitted t U1 (int_div a b) (lacks_quotient t a b m)

remainder_stops : (t : IntType) (a b : ℤ) (s : Stop) → remainder t a b ≡ Err s → quotient t a b ≡ Err s
unfolding remainder
remainder_stops t a b s e = of (quotient t a b) e
  where
    of : (q : Result ℤ Stop) → unless_stopped q (int_rem a b) ≡ Err s → q ≡ Err s
    of (Ok z) e = absurd cc
    of (Err stop) e = e

stops_remainder : (t : IntType) (a b : ℤ) (s : Stop) → quotient t a b ≡ Err s → remainder t a b ≡ Err s
unfolding remainder
stops_remainder t a b s e = ap (λ (q : Result ℤ Stop). unless_stopped q (int_rem a b)) e

-- ---- shifts
right_count_is : (t : IntType) (n : ℤ) → is_shift_count t n ≡ true → ¬ IsWrongCount t n
right_count_is t n e w = by_tests (int_le (pos 0) n) (int_lt n (pos (width_of (promoted t)))) refl refl e
  where
    by_tests : (c d : Flag) → int_le (pos 0) n ≡ c → int_lt n (pos (width_of (promoted t))) ≡ d → c && d ≡ true → ⊥
    by_tests true true c d e =
        let l = of_le (pos 0) n c in
        let h = of_lt n (pos (width_of (promoted t))) d in
        elim w [ negative_count k ↦ omega (arith, ints, k, l) | large_count k ↦ omega (arith, ints, k, h) ]
    by_tests true false c d e = absurd cc
    by_tests false d c e f = absurd cc

wrong_count_is : (t : IntType) (n : ℤ) → is_shift_count t n ≡ false → IsWrongCount t n
wrong_count_is t n e = by_tests (int_le (pos 0) n) (int_lt n (pos (width_of (promoted t)))) refl refl e
  where
    by_tests : (c d : Flag) → int_le (pos 0) n ≡ c → int_lt n (pos (width_of (promoted t))) ≡ d → c && d ≡ false → IsWrongCount t n
    by_tests true true c d e = absurd cc
    by_tests true false c d e = large_count (of_not_lt n (pos (width_of (promoted t))) d)
    by_tests false d c e f = negative_count (of_not_le (pos 0) n c)

wrong_is : (t : IntType) (n : ℤ) → IsWrongCount t n → is_shift_count t n ≡ false
wrong_is t n w = by_test (is_shift_count t n) refl
  where
    by_test : (c : Flag) → is_shift_count t n ≡ c → is_shift_count t n ≡ false
    by_test true e = absurd (right_count_is t n e w)
    by_test false e = e

right_is : (t : IntType) (n : ℤ) → ¬ IsWrongCount t n → is_shift_count t n ≡ true
right_is t n w = by_test (is_shift_count t n) refl
  where
    by_test : (c : Flag) → is_shift_count t n ≡ c → is_shift_count t n ≡ true
    by_test true e = e
    by_test false e = absurd (w (wrong_count_is t n e))

doubled : ℤ → ℤ → ℤ
doubled a n = a *ℤ pos (2 ^ unsigned_abs n)

left_stops : (t : IntType) (a n : ℤ) (s : Stop) → shifted_left t a n ≡ Err s → IsUndefined t a n Shl s
unfolding shifted_left
left_stops t a n s e = by_count (is_shift_count t n) refl e
  where
    by_sign : is_shift_count t n ≡ true → (m : Flag) → int_lt a (pos 0) ≡ m → (if m then Err U4 else fitted t U4 (a *ℤ pos (2 ^ unsigned_abs n))) ≡ Err s → IsUndefined t a n Shl s
    by_sign c true m e = let same : U4 ≡ s = cc in subst (IsUndefined t a n Shl) same (left (right_count_is t n c) (negative_value (of_lt a (pos 0) m)))
    by_sign c false m e =
        let f = fitted_stops t U4 s (a *ℤ pos (2 ^ unsigned_abs n)) e in
        subst (IsUndefined t a n Shl) (sym f.0) (left (right_count_is t n c) (lacked f.1))

    by_count : (c : Flag) → is_shift_count t n ≡ c →
        (if c then (if int_lt a (pos 0) then Err U4 else fitted t U4 (a *ℤ pos (2 ^ unsigned_abs n))) else Err U3) ≡ Err s → IsUndefined t a n Shl s
    by_count true c e = by_sign c (int_lt a (pos 0)) refl e
    by_count false c e = let same : U3 ≡ s = cc in subst (IsUndefined t a n Shl) same (left_count (wrong_count_is t n c))

stops_left_count : (t : IntType) (a n : ℤ) → IsWrongCount t n → shifted_left t a n ≡ Err U3
unfolding shifted_left
stops_left_count t a n w = ap (λ (c : Flag). if c then (if int_lt a (pos 0) then Err U4 else fitted t U4 (a *ℤ pos (2 ^ unsigned_abs n))) else Err U3) (wrong_is t n w)

stops_left : (t : IntType) (a n : ℤ) → ¬ IsWrongCount t n → CannotShift t a n → shifted_left t a n ≡ Err U4
unfolding shifted_left
stops_left t a n w k =
    ap (λ (c : Flag). if c then (if int_lt a (pos 0) then Err U4 else fitted t U4 (a *ℤ pos (2 ^ unsigned_abs n))) else Err U3) (right_is t n w)
    ∙ by_sign (int_lt a (pos 0)) refl k
  where
    by_sign : (m : Flag) → int_lt a (pos 0) ≡ m → CannotShift t a n → (if m then Err U4 else fitted t U4 (a *ℤ pos (2 ^ unsigned_abs n))) ≡ Err U4
    by_sign true m k = refl
    by_sign false m (negative_value h) = let l = of_not_lt a (pos 0) m in absurd (omega (arith, ints, h, l))
    by_sign false m (lacked o) = stops_fitted t U4 (a *ℤ pos (2 ^ unsigned_abs n)) o

right_stops : (t : IntType) (a n : ℤ) (s : Stop) → shifted_right t a n ≡ Err s → IsUndefined t a n Shr s
unfolding shifted_right
right_stops t a n s e = by_count (is_shift_count t n) refl e
  where
    by_count : (c : Flag) → is_shift_count t n ≡ c → (if c then Ok (int_div_euclid a (pos (2 ^ unsigned_abs n))) else Err U3) ≡ Err s → IsUndefined t a n Shr s
    by_count true c e = absurd cc
    by_count false c e = let same : U3 ≡ s = cc in subst (IsUndefined t a n Shr) same (right_count (wrong_count_is t n c))

stops_right : (t : IntType) (a n : ℤ) → IsWrongCount t n → shifted_right t a n ≡ Err U3
unfolding shifted_right
stops_right t a n w = ap (λ (c : Flag). if c then Ok (int_div_euclid a (pos (2 ^ unsigned_abs n))) else Err U3) (wrong_is t n w)

-- ---- the table
pub stops : (op : BinOp) (t : IntType) (a b : ℤ) (s : Stop) → InRange t a → operate op t a b ≡ Err s → IsUndefined t a b op s
stops Add t a b s i e = let f = fitted_stops t U1 s (a +ℤ b) e in subst (IsUndefined t a b Add) (sym f.0) (sum f.1)
stops Sub t a b s i e = let f = fitted_stops t U1 s (a -ℤ b) e in subst (IsUndefined t a b Sub) (sym f.0) (difference f.1)
stops Mul t a b s i e = let f = fitted_stops t U1 s (a *ℤ b) e in subst (IsUndefined t a b Mul) (sym f.0) (product f.1)
stops Div t a b s i e =
    elim (quotient_stops t a b s i e) [
      | by_nothing z f ↦ subst (IsUndefined t a b Div) (sym f) (quotient_by_zero z)
      | overflowing m f ↦ subst (IsUndefined t a b Div) (sym f) (divided m)
    ]
stops Rem t a b s i e =
    elim (quotient_stops t a b s i (remainder_stops t a b s e)) [
      | by_nothing z f ↦ subst (IsUndefined t a b Rem) (sym f) (remainder_by_zero z)
      | overflowing m f ↦ subst (IsUndefined t a b Rem) (sym f) (modulo m)
    ]
stops Shl t a b s i e = left_stops t a b s e
stops Shr t a b s i e = right_stops t a b s e
stops And t a b s i e = absurd cc
stops Or t a b s i e = absurd cc
stops Xor t a b s i e = absurd cc
stops Lt t a b s i e = absurd cc
stops Gt t a b s i e = absurd cc
stops Le t a b s i e = absurd cc
stops Ge t a b s i e = absurd cc
stops Eq t a b s i e = absurd cc
stops Ne t a b s i e = absurd cc

undefined_stops : (op : BinOp) (t : IntType) (a b : ℤ) (s : Stop) → IsUndefined t a b op s → operate op t a b ≡ Err s
undefined_stops op t a b s (sum o) = stops_fitted t U1 (a +ℤ b) o
undefined_stops op t a b s (difference o) = stops_fitted t U1 (a -ℤ b) o
undefined_stops op t a b s (product o) = stops_fitted t U1 (a *ℤ b) o
undefined_stops op t a b s (divided m) = stops_at_least t a b m
undefined_stops op t a b s (quotient_by_zero z) = stops_by_zero t a b z
undefined_stops op t a b s (modulo m) = stops_remainder t a b U1 (stops_at_least t a b m)
undefined_stops op t a b s (remainder_by_zero z) = stops_remainder t a b U2 (stops_by_zero t a b z)
undefined_stops op t a b s (left_count w) = stops_left_count t a b w
undefined_stops op t a b s (left w k) = stops_left t a b w k
undefined_stops op t a b s (right_count w) = stops_right t a b w

pub operators_stop_then : OperatorsStopThen
operators_stop_then op t a b s i j = (stops op t a b s i, undefined_stops op t a b s)

unary_stops : (t : IntType) (a : ℤ) (s : Stop) → InRange t a → fitted t U1 (neg_ℤ a) ≡ Err s → IsUndefinedUnary t a Neg s
unary_stops t a s i e =
    let f = fitted_stops t U1 s (neg_ℤ a) e in
    by_lt_z (least_of t) a
    (λ h. absurd (f.1.lacks (negated_in t a f.1.signed i h)))
    (λ h. subst (IsUndefinedUnary t a Neg) (sym f.0) (negation f.1.signed (omega (arith, ints, h, i.low))))

stops_unary : (t : IntType) (a : ℤ) → is_signed_of t ≡ true → a ≡ least_of t → fitted t U1 (neg_ℤ a) ≡ Err U1
stops_unary t a g e = stops_fitted t U1 (neg_ℤ a) (record { signed = g; lacks = λ i. least_negated t g (subst (λ (x : ℤ). InRange t (neg_ℤ x)) e i) })

pub unary_operators_stop_then : UnaryOperatorsStopThen
unary_operators_stop_then Plus t a s i = (λ e. absurd cc, λ u. absurd (none u))
  where
    none : IsUndefinedUnary t a Plus s → ⊥
    none u = elim u [ ]
unary_operators_stop_then Neg t a s i = (unary_stops t a s i, back s)
  where
    back : (s : Stop) → IsUndefinedUnary t a Neg s → fitted t U1 (neg_ℤ a) ≡ Err s
    back s (negation g e) = stops_unary t a g e
unary_operators_stop_then Not t a s i = (λ e. absurd cc, λ u. absurd (none u))
  where
    none : IsUndefinedUnary t a Not s → ⊥
    none u = elim u [ ]
unary_operators_stop_then Com t a s i = (λ e. absurd cc, λ u. absurd (none u))
  where
    none : IsUndefinedUnary t a Com s → ⊥
    none u = elim u [ ]
