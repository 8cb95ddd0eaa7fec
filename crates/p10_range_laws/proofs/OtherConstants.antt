-- Rows of one number each: those that have one number, and some that have more.
use Rattle.std.proofs.Common.{◌≡◌, ◌-◌, ◌^◌, true, false, Bool as Flag, ap, sym, ◌∙◌, subst, arith, ℤ, pos, ◌≤ℤ◌, ◌<ℤ◌, ◌*ℤ◌, refl, Option, Some, None, Ok, Err, Result}
use Rattle.std.proofs.lemmas.Int.{ints, clamps}
use Rattle.std.specs.Prelude.{◌+ℤ◌, ◌-ℤ◌, if◌then◌else◌, int_lt, IfOk, IfSome}
use Rattle.std.specs.Int.{int_max}
use Rattle.std.specs.Option.{option_and_then}
use Rattle.p10_int.specs.declared.types.IntType.{IntType}
use Rattle.p10_int.specs.declared.operators.Stop.{Stop}
use Rattle.p10_int.specs.declared.operators.Stop.TheVariants.{U3, U4}
use Rattle.p10_int.specs.declared.operators.BinOp.TheVariants.{Div, Shl, Eq}
use Rattle.p10_int.specs.Types.{InRange, width_of, promoted}
use Rattle.p10_int.specs.Conversion.{reduced}
use Rattle.p10_int.specs.Operators.{fitted, quotient, remainder, is_shift_count, shifted_left, bitwise, complement, operate}
use Rattle.p10_range.specs.Ranges.{Interval, from_to, IsMember, IsWithin, not_negative, inhabited_of}
use Rattle.p10_range.specs.Rows.{values_of, fitted_interval, quotients, remainders, shift_counts, doubled, shifted_by, shifts_left, conjunctions, binary_digits, disjunctions, complements, row_of}
use Rattle.p10_range.specs.Laws.{HasNumber}
use Rattle.p10_range.proofs.Carried.{both}
use Rattle.p10_range.proofs.Signs.{le_true, of_not_lt}
use Rattle.p10_range.proofs.Holding.{meet_is}
use Rattle.p10_range.proofs.HoldingBits.{complements_have}
use Rattle.p10_range.proofs.Pairs.{fitted_goes}
use Rattle.p10_range.proofs.Held.{held}
use Rattle.p10_range_laws.specs.Tight.{Attains}
use Rattle.p10_range_laws.specs.Constants.{single}
use Rattle.p10_range_laws.specs.OtherConstants.{OtherConstantsGiveConstants, ConstantsGiveRanges}
use Rattle.p10_range_laws.proofs.Constants.{itself, met_single, fitted_single, count_member, constants_give_constants}
use Rattle.p10_range_laws.proofs.Quotients.{quotients_are_tight}

same_ends : (r : Interval) (z : ℤ) → r.low ≡ z → r.high ≡ z → r ≡ single z
same_ends r z e f = both r.low r.high z z e f

only_member : (x y : ℤ) → IsMember (single x) y → y ≡ x
only_member x y m = omega (arith, ints, m.above, m.below)

ok_same : (x z : ℤ) → ◌≡◌ {A = Result ℤ Stop} (Ok x) (Ok z) → x ≡ z
ok_same x z e = cc

-- ---- quotients

-- what one number each attains is their result
attained : (t : IntType) (x y z w : ℤ) → operate Div t x y ≡ Ok z → Attains Div t (single x) (single y) w → w ≡ z
attained t x y z w e a =
    let at_x : operate Div t x a.y ≡ Ok w = subst (λ (q : ℤ). operate Div t q a.y ≡ Ok w) (only_member x a.x a.left) a.result in
    let at_y : operate Div t x y ≡ Ok w = subst (λ (q : ℤ). operate Div t x q ≡ Ok w) (only_member y a.y a.right) at_x in
    ok_same w z (sym at_y ∙ e)

quotient_single : (t : IntType) (x y z : ℤ) → InRange t x → InRange t y → pos 0 <ℤ y → operate Div t x y ≡ Ok z → row_of Div t (single x) (single y) ≡ Some (single z)
quotient_single t x y z v u p e =
    by_row (row_of Div t (single x) (single y)) (subst (λ (r : Result ℤ Stop). IfOk r (HasNumber (row_of Div t (single x) (single y)))) e (held Div t (single x) (single y) x y left right (itself x) (itself y)))
    (quotients_are_tight t (single x) (single y) (omega (arith, ints)) (omega (arith, ints)) left (omega (arith, ints, p)))
  where
    left : IsWithin (single x) (values_of t)
    left = record { from_low = v.low; to_high = v.high }

    right : IsWithin (single y) (values_of t)
    right = record { from_low = u.low; to_high = u.high }

    by_row : (row : Option Interval) → HasNumber row z → IfSome row (λ r. Attains Div t (single x) (single y) r.low × Attains Div t (single x) (single y) r.high) → row ≡ Some (single z)
    by_row None h a = absurd h
    by_row (Some r) h a = ap Some (same_ends r z (attained t x y z r.low e a.0) (attained t x y z r.high e a.1))

-- ---- shifts to the left
not_negative_single : (x : ℤ) → pos 0 ≤ℤ x → not_negative (single x) ≡ Some (single x)
not_negative_single x l =
    ap inhabited_of (both (int_max x (pos 0)) x x x (omega (arith, ints, clamps, l)) (omega (arith, ints))) ∙ ap (λ (b : Flag). if b then Some (single x) else None) (le_true x x (omega (arith, ints)))

left_shift_single : (t : IntType) (x n z : ℤ) → InRange t (doubled x n) → operate Shl t x n ≡ Ok z → row_of Shl t (single x) (single n) ≡ Some (single z)
unfolding shifts_left shifted_left
left_shift_single t x n z v e = by_count (is_shift_count t n) refl e
  where
    by_sign : (b : Flag) → int_lt x (pos 0) ≡ b → is_shift_count t n ≡ true → (if b then Err U4 else fitted t U4 (doubled x n)) ≡ Ok z →
        option_and_then (λ n. option_and_then (λ a. fitted_interval t (shifted_by n a)) (not_negative (single x))) (shift_counts t (single n)) ≡ Some (single z)
    by_sign true s c e = absurd cc
    by_sign false s c e =
        let m = count_member t n c in
        ap (option_and_then (λ n. option_and_then (λ a. fitted_interval t (shifted_by n a)) (not_negative (single x))))
        (meet_is (single n) (from_to (pos 0) (pos (width_of (promoted t) - 1))) n (itself n) m ∙ ap Some (met_single (from_to (pos 0) (pos (width_of (promoted t) - 1))) n m))
        ∙ (ap (option_and_then (λ a. fitted_interval t (shifted_by (single n) a))) (not_negative_single x (of_not_lt x (pos 0) s))
        ∙ (fitted_single t (doubled x n) v ∙ ap (λ (q : ℤ). Some (single q)) (ok_same (doubled x n) z (sym (fitted_goes t U4 (doubled x n) v) ∙ e))))

    by_count : (c : Flag) → is_shift_count t n ≡ c → (if c then (if int_lt x (pos 0) then Err U4 else fitted t U4 (doubled x n)) else Err U3) ≡ Ok z →
        option_and_then (λ n. option_and_then (λ a. fitted_interval t (shifted_by n a)) (not_negative (single x))) (shift_counts t (single n)) ≡ Some (single z)
    by_count true c e = by_sign (int_lt x (pos 0)) refl c e
    by_count false c e = absurd cc

-- ---- complements
complement_single : (t : IntType) (x z : ℤ) → InRange t x → complement t x ≡ z → complements t (single x) ≡ single z
complement_single t x z v e =
    let m = complements_have t (single x) x v (itself x) in
    same_ends (complements t (single x)) z (omega (arith, ints, m.above, m.below, e)) (omega (arith, ints, m.above, m.below, e))

pub other_constants_give_constants : OtherConstantsGiveConstants
other_constants_give_constants = record {
  quotients = quotient_single;
  left_shifts = left_shift_single;
  complements = λ t x z v e. ap Some (complement_single t x z v (ok_same (complement t x) z e));
  tests = λ t x z e. constants_give_constants.comparisons Eq t x (pos 0) z refl e;
}

-- ---- by computation
pub constants_give_ranges : ConstantsGiveRanges
unfolding fitted_interval quotients remainders shifts_left conjunctions binary_digits disjunctions fitted quotient remainder shifted_left bitwise reduced
constants_give_ranges = record {
  remainder_row = refl;
  remainder = refl;
  quotient_row = refl;
  quotient = refl;
  conjunction_row = refl;
  conjunction = refl;
  disjunction_row = refl;
  disjunction = refl;
  exclusion_row = refl;
  exclusion = refl;
  wrapped_row = refl;
  wrapped = refl;
  shifted_row = refl;
  shifted = refl;
}
