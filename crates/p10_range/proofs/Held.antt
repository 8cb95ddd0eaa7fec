-- Every row has each result on numbers of its operands.
use Rattle.std.proofs.Common.{◌≡◌, true, false, Bool as Flag, arith, ℤ, pos, refl, Result, Ok, Err}
use Rattle.std.proofs.lemmas.Int.{ints}
use Rattle.std.proofs.lemmas.Nat.{or_lt, xor_lt}
use Rattle.std.specs.Prelude.{IfOk, if◌then◌else◌, int_lt, not, bit_or, bit_xor}
use Rattle.std.specs.Ordering.{int_eq}
use Rattle.p10_int.specs.declared.types.IntType.TheVariants.{Bool, Char, SChar, UChar, Short, UShort, Int, UInt, Long, ULong, LLong, ULLong}
use Rattle.p10_int.specs.declared.operators.Stop.{Stop}
use Rattle.p10_int.specs.declared.operators.Stop.TheVariants.{U1}
use Rattle.p10_int.specs.declared.operators.BinOp.TheVariants.{Add, Sub, Mul, Div, Rem, Shl, Shr, And, Or, Xor, Lt, Gt, Le, Ge, Eq, Ne}
use Rattle.p10_int.specs.declared.operators.UnOp.TheVariants.{Plus, Neg, Not, Com}
use Rattle.p10_int.specs.Conversion.{converted}
use Rattle.p10_int.specs.Operators.{truth_of}
use Rattle.p10_range.specs.Ranges.{Interval, IsMember}
use Rattle.p10_range.specs.Rows.{conversion_row_of, sums, differences, products, negatives, only_zero, can_be_equal, can_differ, tested}
use Rattle.p10_range.specs.Laws.{HoldsResults, HoldsUnaryResults, HoldsConversions}
use Rattle.p10_range.proofs.Small.{small_in, member_in}
use Rattle.p10_range.proofs.Signs.{of_lt, of_not_lt, of_le, of_not_le}
use Rattle.p10_range.proofs.Holding.{fitted_has, exact_has, sums_have, differences_have, products_have, negatives_have, quotients_have, remainders_have, shifts_left_have, shifts_right_have}
use Rattle.p10_range.proofs.HoldingBits.{conjunctions_have, disjunctions_have, complements_have, tested_has, can_less, can_at_most, can_equal, can_be_other}

pub if_ok : (o : Result ℤ Stop) (P : ℤ → Type 0) → ((z : ℤ) → o ≡ Ok z → P z) → IfOk o P
if_ok (Ok z) P h = h z refl
if_ok (Err stop) P h = tt

zero_member : IsMember only_zero (pos 0)
zero_member = record { above = omega (arith, ints); below = omega (arith, ints) }

-- the outcomes of a test and of its contrary
turned_true : (r : Flag) → not r ≡ true → r ≡ false
turned_true true e = absurd cc
turned_true false e = refl

turned_false : (r : Flag) → not r ≡ false → r ≡ true
turned_false true e = refl
turned_false false e = absurd cc

equals_have : (a b : Interval) (x y : ℤ) → IsMember a x → IsMember b y → IsMember (tested (can_be_equal a b) (can_differ a b)) (truth_of (int_eq x y))
equals_have a b x y p q = tested_has _ _ (int_eq x y) (can_equal a b x y p q) (can_be_other a b x y p q)

unequals_have : (a b : Interval) (x y : ℤ) → IsMember a x → IsMember b y → IsMember (tested (can_differ a b) (can_be_equal a b)) (truth_of (not (int_eq x y)))
unequals_have a b x y p q =
    tested_has _ _ (not (int_eq x y)) (λ e. can_be_other a b x y p q (turned_true (int_eq x y) e)) (λ e. can_equal a b x y p q (turned_false (int_eq x y) e))

pub held : HoldsResults
held Add t a b x y w v p q = if_ok _ _ (λ z e. fitted_has t U1 (sums a b) _ z (sums_have a b x y p q) e)
held Sub t a b x y w v p q = if_ok _ _ (λ z e. fitted_has t U1 (differences a b) _ z (differences_have a b x y p q) e)
held Mul t a b x y w v p q = if_ok _ _ (λ z e. fitted_has t U1 (products a b) _ z (products_have a b x y p q) e)
held Div t a b x y w v p q = if_ok _ _ (λ z e. quotients_have t a b x y z (member_in t a x w p) (member_in t b y v q) p q e)
held Rem t a b x y w v p q = if_ok _ _ (λ z e. remainders_have t a b x y z p q e)
held Shl t a b x y w v p q = if_ok _ _ (λ z e. shifts_left_have t a b x y z p q e)
held Shr t a b x y w v p q = if_ok _ _ (λ z e. shifts_right_have t a b x y z p q e)
held And t a b x y w v p q = conjunctions_have t a b x y (member_in t a x w p) (member_in t b y v q) p q
held Or t a b x y w v p q = disjunctions_have bit_or t a b x y or_lt (small_in t a w) (small_in t b v) (member_in t a x w p) (member_in t b y v q) p q
held Xor t a b x y w v p q = disjunctions_have bit_xor t a b x y xor_lt (small_in t a w) (small_in t b v) (member_in t a x w p) (member_in t b y v q) p q
held Lt t a b x y w v p q = tested_has _ _ (int_lt x y) (λ e. can_less a b x y p q (of_lt x y e)) (λ e. can_at_most b a y x q p (of_not_lt x y e))
held Gt t a b x y w v p q = tested_has _ _ (int_lt y x) (λ e. can_less b a y x q p (of_lt y x e)) (λ e. can_at_most a b x y p q (of_not_lt y x e))
held Le t a b x y w v p q = tested_has _ _ _ (λ e. can_at_most a b x y p q (of_le x y e)) (λ e. can_less b a y x q p (of_not_le x y e))
held Ge t a b x y w v p q = tested_has _ _ _ (λ e. can_at_most b a y x q p (of_le y x e)) (λ e. can_less a b x y p q (of_not_le y x e))
held Eq t a b x y w v p q = equals_have a b x y p q
held Ne t a b x y w v p q = unequals_have a b x y p q

pub held_unary : HoldsUnaryResults
held_unary Plus t a x w p = p
held_unary Neg t a x w p = if_ok _ _ (λ z e. fitted_has t U1 (negatives a) _ z (negatives_have a x p) e)
held_unary Not t a x w p = equals_have a only_zero x (pos 0) p zero_member
held_unary Com t a x w p = complements_have t a x (member_in t a x w p) p

bool_has : (a : Interval) (x : ℤ) → IsMember a x → IsMember (conversion_row_of Bool a) (converted Bool x)
bool_has a x p = by_zero (int_eq x (pos 0)) refl
  where
    by_zero : (z : Flag) → int_eq x (pos 0) ≡ z → IsMember (tested (can_differ a only_zero) (can_be_equal a only_zero)) (if z then pos 0 else pos 1)
    by_zero true e = tested_has _ _ false (λ f. absurd cc) (λ f. can_equal a only_zero x (pos 0) p zero_member e)
    by_zero false e = tested_has _ _ true (λ f. can_be_other a only_zero x (pos 0) p zero_member e) (λ f. absurd cc)

pub held_conversion : HoldsConversions
held_conversion Bool a x p = bool_has a x p
held_conversion Char a x p = exact_has Char a x p
held_conversion SChar a x p = exact_has SChar a x p
held_conversion UChar a x p = exact_has UChar a x p
held_conversion Short a x p = exact_has Short a x p
held_conversion UShort a x p = exact_has UShort a x p
held_conversion Int a x p = exact_has Int a x p
held_conversion UInt a x p = exact_has UInt a x p
held_conversion Long a x p = exact_has Long a x p
held_conversion ULong a x p = exact_has ULong a x p
held_conversion LLong a x p = exact_has LLong a x p
held_conversion ULLong a x p = exact_has ULLong a x p
