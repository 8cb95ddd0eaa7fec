-- What an operator gives is a value of the type.
use Rattle.std.proofs.Common.{◌≡◌, ℕ, suc, ◌/◌, ◌%◌, ◌^◌, ◌≤◌, true, false, Bool as Flag, ℤ, pos, negsuc, neg_ℤ, ◌+ℤ◌, ◌-ℤ◌, ◌*ℤ◌, arith, refl, subst, Result, Ok, Err}
use Rattle.std.proofs.lemmas.Int.{ints}
use Rattle.std.proofs.lemmas.Bool.{and_parts}
use Rattle.std.proofs.Math.Nat.{mod-le, div-le_self}
use Rattle.std.specs.Prelude.{if◌then◌else◌, int_le, int_lt, int_div, int_rem, unsigned_abs, not, bit_and, bit_or, bit_xor}
use Rattle.std.specs.Bool.{passes}
use Rattle.std.specs.Int.Signed.{le_z_yes}
use Rattle.std.specs.Ordering.{int_eq}
use Rattle.std.specs.Int.{int_div_euclid}
use Rattle.p10_int.specs.declared.types.IntType.{IntType}
use Rattle.p10_int.specs.declared.operators.Stop.{Stop}
use Rattle.p10_int.specs.declared.operators.Stop.TheVariants.{U1, U2, U3, U4}
use Rattle.p10_int.specs.declared.operators.BinOp.{BinOp}
use Rattle.p10_int.specs.declared.operators.BinOp.TheVariants.{Add, Sub, Mul, Div, Rem, Shl, Shr, And, Or, Xor, Lt, Gt, Le, Ge, Eq, Ne}
use Rattle.p10_int.specs.declared.operators.UnOp.{UnOp}
use Rattle.p10_int.specs.declared.operators.UnOp.TheVariants.{Plus, Neg, Not, Com}
use Rattle.p10_int.specs.Types.{InRange, least_of, greatest_of, is_signed_of, holds}
use Rattle.p10_int.specs.Conversion.{reduced, pattern_of}
use Rattle.p10_int.specs.Operators.{fitted, truth_of, quotient, remainder, unless_stopped, is_shift_count, shifted_left, shifted_right, bitwise, complement, operate, operate_unary}
use Rattle.p10_int.proofs.Conversions.{zero_in, one_in, reduced_in}

-- r is a value, if it is one
Lands : IntType → Result ℤ Stop → Type 0
Lands t o = (r : ℤ) → o ≡ Ok r → InRange t r

pub holds_in : (t : IntType) (z : ℤ) → holds t z ≡ true → InRange t z
holds_in t z e =
    let p = and_parts (int_le (least_of t) z) (int_le z (greatest_of t)) e in
    record { low = le_z_yes (passes _ p.0); high = le_z_yes (passes _ p.1) }

lands_ok : (t : IntType) (z : ℤ) → InRange t z → Lands t (Ok z)
unfolding Lands
lands_ok t z i r e = let same : z ≡ r = cc in subst (InRange t) same i

lands_err : (t : IntType) (stop : Stop) → Lands t (Err stop)
unfolding Lands
lands_err t stop r e = absurd cc

lands_if : (t : IntType) (b : Flag) (x y : Result ℤ Stop) → (b ≡ true → Lands t x) → (b ≡ false → Lands t y) → Lands t (if b then x else y)
lands_if t true x y p q = p refl
lands_if t false x y p q = q refl

fitted_lands : (t : IntType) (stop : Stop) (z : ℤ) → Lands t (fitted t stop z)
unfolding fitted
fitted_lands t stop z =
    lands_if t (is_signed_of t) _ _
    (λ s. lands_if t (holds t z) _ _ (λ h. lands_ok t z (holds_in t z h)) (λ h. lands_err t stop))
    (λ s. lands_ok t (reduced t z) (reduced_in t z))

quotient_lands : (t : IntType) (a b : ℤ) → Lands t (quotient t a b)
unfolding quotient
quotient_lands t a b = lands_if t (int_eq b (pos 0)) _ _ (λ z. lands_err t U2) (λ z. fitted_lands t U1 (int_div a b))

-- between a value and 0, or between 0 and a value
above_zero : (t : IntType) (n m : ℕ) → InRange t (pos n) → m ≤ n → InRange t (pos m)
above_zero t n m i h = let z = zero_in t in record { low = omega (arith, ints, z.low); high = omega (arith, ints, i.high) }

below_zero : (t : IntType) (n m : ℕ) → InRange t (negsuc n) → m ≤ suc n → InRange t (neg_ℤ (pos m))
below_zero t n m i h = let z = zero_in t in record { low = omega (arith, ints, i.low); high = omega (arith, ints, z.high) }

rest_in : (t : IntType) (a b : ℤ) → InRange t a → InRange t (int_rem a b)
rest_in t (pos n) b i = above_zero t n (n % unsigned_abs b) i (mod-le n (unsigned_abs b))
rest_in t (negsuc n) b i = below_zero t n (suc n % unsigned_abs b) i (mod-le (suc n) (unsigned_abs b))

unless_lands : (t : IntType) (o : Result ℤ Stop) (z : ℤ) → InRange t z → Lands t (unless_stopped o z)
unless_lands t (Ok q) z i = lands_ok t z i
unless_lands t (Err stop) z i = lands_err t stop

remainder_lands : (t : IntType) (a b : ℤ) → InRange t a → Lands t (remainder t a b)
unfolding remainder
remainder_lands t a b i = unless_lands t (quotient t a b) (int_rem a b) (rest_in t a b i)

left_lands : (t : IntType) (a n : ℤ) → Lands t (shifted_left t a n)
unfolding shifted_left
left_lands t a n =
    lands_if t (is_shift_count t n) _ _
    (λ c. lands_if t (int_lt a (pos 0)) _ _ (λ s. lands_err t U4) (λ s. fitted_lands t U4 (a *ℤ pos (2 ^ unsigned_abs n))))
    (λ c. lands_err t U3)

floor_in : (t : IntType) (a : ℤ) (m : ℕ) → InRange t a → InRange t (int_div_euclid a (pos m))
floor_in t (pos n) m i = above_zero t n (n / m) i (div-le_self n m)
floor_in t (negsuc n) m i = let h = div-le_self n m in let z = zero_in t in record { low = omega (arith, ints, i.low); high = omega (arith, ints, z.high) }

right_lands : (t : IntType) (a n : ℤ) → InRange t a → Lands t (shifted_right t a n)
unfolding shifted_right
right_lands t a n i =
    lands_if t (is_shift_count t n) _ _ (λ c. lands_ok t _ (floor_in t a (2 ^ unsigned_abs n) i)) (λ c. lands_err t U3)

bitwise_in : (t : IntType) (f : ℕ → ℕ → ℕ) (a b : ℤ) → InRange t (bitwise f t a b)
unfolding bitwise
bitwise_in t f a b = reduced_in t (pos (f (pattern_of t a) (pattern_of t b)))

complement_in : (t : IntType) (a : ℤ) → InRange t (complement t a)
unfolding complement
complement_in t a = reduced_in t _

truth_in : (t : IntType) (b : Flag) → InRange t (truth_of b)
truth_in t true = one_in t
truth_in t false = zero_in t

lands : (op : BinOp) (t : IntType) (a b : ℤ) → InRange t a → Lands t (operate op t a b)
lands Add t a b i = fitted_lands t U1 (a +ℤ b)
lands Sub t a b i = fitted_lands t U1 (a -ℤ b)
lands Mul t a b i = fitted_lands t U1 (a *ℤ b)
lands Div t a b i = quotient_lands t a b
lands Rem t a b i = remainder_lands t a b i
lands Shl t a b i = left_lands t a b
lands Shr t a b i = right_lands t a b i
lands And t a b i = lands_ok t _ (bitwise_in t bit_and a b)
lands Or t a b i = lands_ok t _ (bitwise_in t bit_or a b)
lands Xor t a b i = lands_ok t _ (bitwise_in t bit_xor a b)
lands Lt t a b i = lands_ok t _ (truth_in t (int_lt a b))
lands Gt t a b i = lands_ok t _ (truth_in t (int_lt b a))
lands Le t a b i = lands_ok t _ (truth_in t (int_le a b))
lands Ge t a b i = lands_ok t _ (truth_in t (int_le b a))
lands Eq t a b i = lands_ok t _ (truth_in t (int_eq a b))
lands Ne t a b i = lands_ok t _ (truth_in t (not (int_eq a b)))

pub operate_in : (op : BinOp) (t : IntType) (a b r : ℤ) → InRange t a → operate op t a b ≡ Ok r → InRange t r
unfolding Lands
operate_in op t a b r i e = lands op t a b i r e

unary_lands : (op : UnOp) (t : IntType) (a : ℤ) → InRange t a → Lands t (operate_unary op t a)
unary_lands Plus t a i = lands_ok t a i
unary_lands Neg t a i = fitted_lands t U1 (neg_ℤ a)
unary_lands Not t a i = lands_ok t _ (truth_in t (int_eq a (pos 0)))
unary_lands Com t a i = lands_ok t _ (complement_in t a)

pub unary_in : (op : UnOp) (t : IntType) (a r : ℤ) → InRange t a → operate_unary op t a ≡ Ok r → InRange t r
unfolding Lands
unary_in op t a r i e = unary_lands op t a i r e
