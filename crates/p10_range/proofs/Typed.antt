-- Rows are intervals of values of the type.
use Rattle.std.proofs.Common.{◌≡◌, ℕ, true, false, Bool as Flag, sym, arith, ℤ, pos, negsuc, refl, subst, Option, Some, None}
use Rattle.std.proofs.lemmas.Int.{ints, clamps}
use Rattle.std.proofs.Math.Nat.{div-le_self}
use Rattle.std.specs.Prelude.{◌&&◌, if◌then◌else◌, IfSome, int_le, int_lt}
use Rattle.std.specs.Option.{option_map, option_and_then}
use Rattle.std.specs.Int.{int_min, int_max, int_div_euclid}
use Rattle.p10_int.specs.declared.types.IntType.{IntType}
use Rattle.p10_int.specs.declared.types.IntType.TheVariants.{Bool, Char, SChar, UChar, Short, UShort, Int, UInt, Long, ULong, LLong, ULLong}
use Rattle.p10_int.specs.declared.operators.BinOp.TheVariants.{Add, Sub, Mul, Div, Rem, Shl, Shr, And, Or, Xor, Lt, Gt, Le, Ge, Eq, Ne}
use Rattle.p10_int.specs.declared.operators.UnOp.TheVariants.{Plus, Neg, Not, Com}
use Rattle.p10_int.specs.Types.{InRange, is_signed_of, least_of, greatest_of}
use Rattle.p10_int.proofs.Conversions.{zero_in, one_in}
use Rattle.p10_range.specs.Ranges.{Interval, from_to, IsInhabited, IsMember, IsWithin, between}
use Rattle.p10_range.specs.private.Small.{IsSmall}
use Rattle.p10_range.specs.Rows.{values_of, clipped, exact_or_all, fitted_interval, sums, differences, products, negatives, magnitude, up_to_magnitude, quotients, quotients_at_ends, rests, remainders, shift_counts, halved, shifted_by, shifts_left, shifts_right, at_ends, has_no_negative, conjunctions, disjunctions, up_to_digits, tested}
use Rattle.p10_range.specs.Laws.{IsOfType, RowsAreOfType, UnaryRowsAreOfType, ConversionRowsAreOfType}
use Rattle.p10_range.proofs.Small.{small_in, member_in}
use Rattle.p10_range.proofs.Signs.{of_le, of_not_le}
use Rattle.p10_range.proofs.Ends.{between_least, hull_least}
use Rattle.p10_range.proofs.Holding.{met, value_member}
use Rattle.p10_range.proofs.Growing.{within_itself, four, products_inhabited, quotients_inhabited, quotients_in, quotient_member, inhabited_gives, counts_natural, natural_gives, shifted_inhabited}
use Rattle.p10_range.proofs.GrowingBits.{zero_below, digits_of_type}

pub if_some : (o : Option Interval) (P : Interval → Type 0) → ((r : Interval) → o ≡ Some r → P r) → IfSome o P
if_some None P h = tt
if_some (Some r) P h = h r refl

all_inhabited : (t : IntType) → IsInhabited (values_of t)
all_inhabited t = let z = zero_in t in omega (arith, ints, z.low, z.high)

clipped_typed : (t : IntType) (i : Interval) → IfSome (clipped t i) (IsOfType t)
clipped_typed t i =
    if_some (clipped t i) (IsOfType t)
    (λ r e. let g = inhabited_gives (met i (values_of t)) r e in
    (g.1, subst (λ (s : Interval). IsWithin s (values_of t)) (sym g.0) (record { from_low = omega (arith, ints, clamps); to_high = omega (arith, ints, clamps) })))

exact_typed : (t : IntType) (i : Interval) → IsInhabited i → IsOfType t (exact_or_all t i)
exact_typed t i o = by_tests (int_le (least_of t) i.low) (int_le i.high (greatest_of t)) refl refl
  where
    by_tests : (b c : Flag) → int_le (least_of t) i.low ≡ b → int_le i.high (greatest_of t) ≡ c → IsOfType t (if b && c then i else values_of t)
    by_tests true true b c = (o, record { from_low = of_le _ _ b; to_high = of_le _ _ c })
    by_tests true false b c = (all_inhabited t, within_itself (values_of t))
    by_tests false x b c = (all_inhabited t, within_itself (values_of t))

fitted_typed : (t : IntType) (i : Interval) → IsInhabited i → IfSome (fitted_interval t i) (IsOfType t)
unfolding fitted_interval
fitted_typed t i o = by_sign (is_signed_of t)
  where
    by_sign : (s : Flag) → IfSome (if s then clipped t i else Some (exact_or_all t i)) (IsOfType t)
    by_sign true = clipped_typed t i
    by_sign false = exact_typed t i o

quotients_typed : (t : IntType) (a b : Interval) → IsInhabited a → IsWithin a (values_of t) → IfSome (quotients t a b) (IsOfType t)
unfolding quotients
quotients_typed t a b i w = by_tests (int_lt b.low (pos 0)) (int_le b.high (pos 0)) refl
  where
    by_tests : (n o : Flag) → int_le b.high (pos 0) ≡ o → IfSome (if n then clipped t (up_to_magnitude a) else (if o then None else Some (quotients_at_ends a b))) (IsOfType t)
    by_tests true o e = clipped_typed t (up_to_magnitude a)
    by_tests false true e = tt
    by_tests false false e =
        let high = of_not_le b.high (pos 0) e in
        (quotients_inhabited a b, quotients_in a b (values_of t) (λ x y m h. quotient_member t x y (member_in t a x w m) h) i (omega (arith, ints, high)))

remainders_typed : (t : IntType) (a b : Interval) → IsWithin a (values_of t) → IfSome (remainders a b) (IsOfType t)
unfolding remainders
remainders_typed t a b w = by_test (int_le (magnitude b) (pos 0))
  where
    z : InRange t (pos 0)
    z = zero_in t

    rests_typed : (m : ℤ) → IsOfType t (rests a m)
    rests_typed m = (
      omega (arith, ints, clamps),
      record { from_low = omega (arith, ints, clamps, z.low, w.from_low); to_high = omega (arith, ints, clamps, z.high, w.to_high) },
    )

    by_test : (o : Flag) → IfSome (if o then None else Some (rests a (magnitude b))) (IsOfType t)
    by_test true = tt
    by_test false = rests_typed (magnitude b)

halved_in : (t : IntType) (x : ℤ) (m : ℕ) → InRange t x → InRange t (int_div_euclid x (pos m))
halved_in t (pos n) m i = let h = div-le_self n m in let z = zero_in t in record { low = omega (arith, ints, z.low); high = omega (arith, ints, i.high, h) }
halved_in t (negsuc n) m i = let h = div-le_self n m in let z = zero_in t in record { low = omega (arith, ints, i.low, h); high = omega (arith, ints, z.high) }

shifts_right_typed : (t : IntType) (a b : Interval) → IsInhabited a → IsWithin a (values_of t) → IfSome (shifts_right t a b) (IsOfType t)
unfolding shifts_right
shifts_right_typed t a b i w = by_counts (shift_counts t b)
  where
    half : (x n : ℤ) → IsMember a x → IsMember (values_of t) (halved x n)
    half x n m = value_member t _ (halved_in t x _ (member_in t a x w m))

    al : IsMember a a.low
    al = record { above = omega (arith, ints); below = i }

    ah : IsMember a a.high
    ah = record { above = i; below = omega (arith, ints) }

    by_counts : (o : Option Interval) → IfSome (option_map (at_ends halved a) o) (IsOfType t)
    by_counts None = tt
    by_counts (Some n) = (
      four (halved a.low n.low) (halved a.low n.high) (halved a.high n.low) (halved a.high n.high),
      hull_least (between (halved a.low n.low) (halved a.low n.high)) (between (halved a.high n.low) (halved a.high n.high)) (values_of t)
          (between_least _ _ (values_of t) (half a.low n.low al) (half a.low n.high al)) (between_least _ _ (values_of t) (half a.high n.low ah) (half a.high n.high ah)),
    )

shifts_left_typed : (t : IntType) (a b : Interval) → IfSome (shifts_left t a b) (IsOfType t)
unfolding shifts_left
shifts_left_typed t a b =
    then_typed (shift_counts t b) _
    (λ n e. let k = counts_natural t b n e in
    then_typed _ _ (λ x f. let p = natural_gives a x f in fitted_typed t (shifted_by n x) (shifted_inhabited n x k.0 k.1 p.0 p.1)))
  where
    then_typed : (o : Option Interval) (f : Interval → Option Interval) → ((r : Interval) → o ≡ Some r → IfSome (f r) (IsOfType t)) → IfSome (option_and_then f o) (IsOfType t)
    then_typed None f h = tt
    then_typed (Some r) f h = h r refl

conjunctions_typed : (t : IntType) (a b : Interval) → IsInhabited a → IsInhabited b → IsWithin a (values_of t) → IsWithin b (values_of t) → IsOfType t (conjunctions t a b)
unfolding conjunctions
conjunctions_typed t a b i j w v = by_signs (has_no_negative a) (has_no_negative b) refl refl
  where
    by_signs : (c d : Flag) → has_no_negative a ≡ c → has_no_negative b ≡ d
        → IsOfType t (if c then from_to (pos 0) (if d then int_min a.high b.high else a.high) else (if d then from_to (pos 0) b.high else values_of t))
    by_signs true true c d =
        let l = of_le (pos 0) a.low c in let m = of_le (pos 0) b.low d in
        (omega (arith, ints, clamps, l, m, i, j), record { from_low = zero_below t; to_high = omega (arith, ints, clamps, w.to_high) })
    by_signs true false c d = let l = of_le (pos 0) a.low c in (omega (arith, ints, l, i), record { from_low = zero_below t; to_high = w.to_high })
    by_signs false true c d = let l = of_le (pos 0) b.low d in (omega (arith, ints, l, j), record { from_low = zero_below t; to_high = v.to_high })
    by_signs false false c d = (all_inhabited t, within_itself (values_of t))

disjunctions_typed : (t : IntType) (a b : Interval) → IsInhabited a → IsInhabited b → IsWithin a (values_of t) → IsWithin b (values_of t) → IsOfType t (disjunctions t a b)
unfolding disjunctions
disjunctions_typed t a b i j w v = by_signs (has_no_negative a) (has_no_negative b) refl
  where
    small_a : IsSmall a
    small_a = small_in t a w

    small_b : IsSmall b
    small_b = small_in t b v

    by_signs : (c d : Flag) → has_no_negative a ≡ c → IsOfType t (if c && d then up_to_digits (int_max a.high b.high) else values_of t)
    by_signs true true c =
        let l = of_le (pos 0) a.low c in (
          omega (arith, ints),
          digits_of_type t (int_max a.high b.high) (omega (arith, ints, clamps, l, i)) (omega (arith, ints, clamps, w.to_high, v.to_high)) (omega (arith, ints, clamps, small_a.small_high, small_b.small_high)),
        )
    by_signs true false c = (all_inhabited t, within_itself (values_of t))
    by_signs false d c = (all_inhabited t, within_itself (values_of t))

tested_typed : (t : IntType) (i c : Flag) → IsOfType t (tested i c)
tested_typed t true true = let o = one_in t in (omega (arith, ints), record { from_low = zero_below t; to_high = o.high })
tested_typed t false true = let z = zero_in t in (omega (arith, ints), record { from_low = z.low; to_high = z.high })
tested_typed t i false = let o = one_in t in (omega (arith, ints), record { from_low = o.low; to_high = o.high })

pub typed : RowsAreOfType
typed Add t a b i j w v = fitted_typed t (sums a b) (omega (arith, ints, i, j))
typed Sub t a b i j w v = fitted_typed t (differences a b) (omega (arith, ints, i, j))
typed Mul t a b i j w v = fitted_typed t (products a b) (products_inhabited a b)
typed Div t a b i j w v = quotients_typed t a b i w
typed Rem t a b i j w v = remainders_typed t a b w
typed Shl t a b i j w v = shifts_left_typed t a b
typed Shr t a b i j w v = shifts_right_typed t a b i w
typed And t a b i j w v = conjunctions_typed t a b i j w v
typed Or t a b i j w v = disjunctions_typed t a b i j w v
typed Xor t a b i j w v = disjunctions_typed t a b i j w v
typed Lt t a b i j w v = tested_typed t _ _
typed Gt t a b i j w v = tested_typed t _ _
typed Le t a b i j w v = tested_typed t _ _
typed Ge t a b i j w v = tested_typed t _ _
typed Eq t a b i j w v = tested_typed t _ _
typed Ne t a b i j w v = tested_typed t _ _

pub typed_unary : UnaryRowsAreOfType
typed_unary Plus t a i w = (i, w)
typed_unary Neg t a i w = fitted_typed t (negatives a) (omega (arith, ints, i))
typed_unary Not t a i w = tested_typed t _ _
typed_unary Com t a i w = (omega (arith, ints, i), record { from_low = omega (arith, ints, w.to_high); to_high = omega (arith, ints, w.from_low) })

pub typed_conversion : ConversionRowsAreOfType
typed_conversion Bool a i = tested_typed Bool _ _
typed_conversion Char a i = exact_typed Char a i
typed_conversion SChar a i = exact_typed SChar a i
typed_conversion UChar a i = exact_typed UChar a i
typed_conversion Short a i = exact_typed Short a i
typed_conversion UShort a i = exact_typed UShort a i
typed_conversion Int a i = exact_typed Int a i
typed_conversion UInt a i = exact_typed UInt a i
typed_conversion Long a i = exact_typed Long a i
typed_conversion ULong a i = exact_typed ULong a i
typed_conversion LLong a i = exact_typed LLong a i
typed_conversion ULLong a i = exact_typed ULLong a i
