-- Rows of one number each.
use Rattle.std.proofs.Common.{◌≡◌, ◌-◌, ◌^◌, true, false, Bool as Flag, ap, sym, ◌∙◌, arith, ℤ, pos, neg_ℤ, ◌≤ℤ◌, ◌<ℤ◌, ◌+ℤ◌, ◌-ℤ◌, ◌*ℤ◌, refl, Some, Ok, Err}
use Rattle.std.proofs.lemmas.Int.{ints, clamps, by_lt_z}
use Rattle.std.specs.Prelude.{◌&&◌, ◌||◌, not, if◌then◌else◌, unsigned_abs, int_le, int_lt}
use Rattle.std.specs.Option.{option_map}
use Rattle.std.specs.Ordering.{int_eq}
use Rattle.std.specs.Int.{int_div_euclid}
use Rattle.p10_int.specs.declared.types.IntType.{IntType}
use Rattle.p10_int.specs.declared.operators.Stop.TheVariants.{U3}
use Rattle.p10_int.specs.declared.operators.BinOp.{BinOp}
use Rattle.p10_int.specs.declared.operators.BinOp.TheVariants.{Shr, Lt, Gt, Le, Ge, Eq, Ne}
use Rattle.p10_int.specs.Types.{InRange, is_signed_of, least_of, greatest_of, width_of, promoted}
use Rattle.p10_int.specs.Laws.{is_comparison}
use Rattle.p10_int.specs.Operators.{truth_of, is_shift_count, shifted_right, operate}
use Rattle.p10_range.specs.Ranges.{Interval, from_to, IsMember}
use Rattle.p10_range.specs.Rows.{values_of, clipped, exact_or_all, fitted_interval, spread, at_ends, halved, shift_counts, shifts_right, tested, row_of}
use Rattle.p10_range.proofs.Carried.{both}
use Rattle.p10_range.proofs.Signs.{le_true, le_false, lt_true, lt_false, of_le, of_lt}
use Rattle.p10_range.proofs.Holding.{met, meet_is}
use Rattle.p10_range_laws.specs.Constants.{single, ConstantsGiveConstants}

pub itself : (z : ℤ) → IsMember (single z) z
itself z = record { above = omega (arith, ints); below = omega (arith, ints) }

-- one number meets an interval that has it in itself
pub met_single : (i : Interval) (z : ℤ) → IsMember i z → met (single z) i ≡ single z
met_single i z m = both _ _ _ _ (omega (arith, ints, clamps, m.above)) (omega (arith, ints, clamps, m.below))

-- a value of the type stays one number
pub fitted_single : (t : IntType) (z : ℤ) → InRange t z → fitted_interval t (single z) ≡ Some (single z)
unfolding fitted_interval
fitted_single t z v = by_sign (is_signed_of t)
  where
    member : IsMember (values_of t) z
    member = record { above = v.low; below = v.high }

    all_true : (c d : Flag) → c ≡ true → d ≡ true → (if c && d then single z else values_of t) ≡ single z
    all_true true true c d = refl
    all_true true false c d = absurd cc
    all_true false d c e = absurd cc

    by_sign : (s : Flag) → (if s then clipped t (single z) else Some (exact_or_all t (single z))) ≡ Some (single z)
    by_sign true = meet_is (single z) (values_of t) z (itself z) member ∙ ap Some (met_single (values_of t) z member)
    by_sign false = ap Some (all_true (int_le (least_of t) z) (int_le z (greatest_of t)) (le_true _ _ v.low) (le_true _ _ v.high))

spread_single : (p : ℤ) → spread p p p p ≡ single p
spread_single p = both _ _ _ _ (omega (arith, ints, clamps)) (omega (arith, ints, clamps))

negated : (x : ℤ) → pos 0 -ℤ x ≡ neg_ℤ x
negated x = omega (arith, ints)

-- ---- shifts
pub count_member : (t : IntType) (n : ℤ) → is_shift_count t n ≡ true → IsMember (from_to (pos 0) (pos (width_of (promoted t) - 1))) n
count_member t n e = by_tests (int_le (pos 0) n) (int_lt n (pos (width_of (promoted t)))) refl refl e
  where
    by_tests : (b d : Flag) → int_le (pos 0) n ≡ b → int_lt n (pos (width_of (promoted t))) ≡ d → b && d ≡ true → IsMember (from_to (pos 0) (pos (width_of (promoted t) - 1))) n
    by_tests true true l h e = let low = of_le (pos 0) n l in let high = of_lt n _ h in record { above = low; below = omega (arith, ints, high, low) }
    by_tests true false l h e = absurd cc
    by_tests false d l h e = absurd cc

shifts_single : (t : IntType) (x n z : ℤ) → operate Shr t x n ≡ Ok z → row_of Shr t (single x) (single n) ≡ Some (single z)
unfolding shifts_right shifted_right
shifts_single t x n z e = by_count (is_shift_count t n) refl e
  where
    by_count : (c : Flag) → is_shift_count t n ≡ c → (if c then Ok (int_div_euclid x (pos (2 ^ unsigned_abs n))) else Err U3) ≡ Ok z → option_map (at_ends halved (single x)) (shift_counts t (single n)) ≡ Some (single z)
    by_count true c e =
        let m = count_member t n c in
        let same : halved x n ≡ z = cc in
        ap (option_map (at_ends halved (single x))) (meet_is (single n) (from_to (pos 0) (pos (width_of (promoted t) - 1))) n (itself n) m ∙ ap Some (met_single (from_to (pos 0) (pos (width_of (promoted t) - 1))) n m))
        ∙ ap Some (spread_single (halved x n) ∙ ap single same)
    by_count false c e = absurd cc

-- ---- comparisons
tested_single : (i c : Flag) (z : ℤ) → c ≡ not i → truth_of i ≡ z → tested i c ≡ single z
tested_single true true z e f = absurd cc
tested_single true false z e f = ap single f
tested_single false true z e f = ap single f
tested_single false false z e f = absurd cc

le_turned : (x y : ℤ) → int_le y x ≡ not (int_lt x y)
le_turned x y = by_lt_z x y (λ h. le_false y x h ∙ sym (ap not (lt_true x y h))) (λ h. le_true y x h ∙ sym (ap not (lt_false x y h)))

lt_turned : (x y : ℤ) → int_lt y x ≡ not (int_le x y)
lt_turned x y = by_lt_z y x (λ h. lt_true y x h ∙ sym (ap not (le_false x y h))) (λ h. lt_false y x h ∙ sym (ap not (le_true x y h)))

-- three ways in which two numbers stand
data Stands (x y : ℤ) : Type 0 where
  under : int_eq x y ≡ false → int_le x y ≡ true → int_le y x ≡ false → int_lt x y ≡ true → int_lt y x ≡ false → Stands x y
  level : int_eq x y ≡ true → int_le x y ≡ true → int_le y x ≡ true → int_lt x y ≡ false → int_lt y x ≡ false → Stands x y
  over : int_eq x y ≡ false → int_le x y ≡ false → int_le y x ≡ true → int_lt x y ≡ false → int_lt y x ≡ true → Stands x y

apart : (x y : ℤ) → x <ℤ y → int_eq x y ≡ false
apart x y h = grind (arith, ints)

apart_over : (x y : ℤ) → y <ℤ x → int_eq x y ≡ false
apart_over x y h = grind (arith, ints)

alike : (x y : ℤ) → x ≤ℤ y → y ≤ℤ x → int_eq x y ≡ true
alike x y h k = same x y (omega (arith, ints, h, k))
  where
    same : (x y : ℤ) → x ≡ y → int_eq x y ≡ true
    same x y e = grind (arith, ints)

stands : (x y : ℤ) → Stands x y
stands x y =
    by_lt_z x y
    (λ h. let l : x ≤ℤ y = omega (arith, ints, h) in under (apart x y h) (le_true x y l) (le_false y x h) (lt_true x y h) (lt_false y x l))
    (λ k. by_lt_z y x
    (λ h. over (apart_over x y h) (le_false x y h) (le_true y x k) (lt_false x y k) (lt_true y x h))
    (λ h. level (alike x y h k) (le_true x y h) (le_true y x k) (lt_false x y k) (lt_false y x h)))

equal_is : (x y : ℤ) → int_le x y && int_le y x ≡ int_eq x y
equal_is x y = by_stand (stands x y)
  where
    join : (a b c : Flag) → int_le x y ≡ a → int_le y x ≡ b → int_eq x y ≡ c → a && b ≡ c → int_le x y && int_le y x ≡ int_eq x y
    join a b c e f g h = ap (λ (a : Flag). a && int_le y x) e ∙ (ap (λ (b : Flag). a && b) f ∙ (h ∙ sym g))

    by_stand : Stands x y → int_le x y && int_le y x ≡ int_eq x y
    by_stand (under e a b c d) = join true false false a b e refl
    by_stand (level e a b c d) = join true true true a b e refl
    by_stand (over e a b c d) = join false true false a b e refl

differ_is : (x y : ℤ) → int_lt x y || int_lt y x ≡ not (int_eq x y)
differ_is x y = by_stand (stands x y)
  where
    join : (a b c : Flag) → int_lt x y ≡ a → int_lt y x ≡ b → int_eq x y ≡ c → a || b ≡ not c → int_lt x y || int_lt y x ≡ not (int_eq x y)
    join a b c e f g h = ap (λ (a : Flag). a || int_lt y x) e ∙ (ap (λ (b : Flag). a || b) f ∙ (h ∙ sym (ap not g)))

    by_stand : Stands x y → int_lt x y || int_lt y x ≡ not (int_eq x y)
    by_stand (under e a b c d) = join true false false c d e refl
    by_stand (level e a b c d) = join false false true c d e refl
    by_stand (over e a b c d) = join false true false c d e refl

comparison_single : (op : BinOp) (t : IntType) (x y z : ℤ) → is_comparison op ≡ true → operate op t x y ≡ Ok z → row_of op t (single x) (single y) ≡ Some (single z)
comparison_single Lt t x y z c e = ap Some (tested_single (int_lt x y) (int_le y x) z (le_turned x y) cc)
comparison_single Gt t x y z c e = ap Some (tested_single (int_lt y x) (int_le x y) z (le_turned y x) cc)
comparison_single Le t x y z c e = ap Some (tested_single (int_le x y) (int_lt y x) z (lt_turned x y) cc)
comparison_single Ge t x y z c e = ap Some (tested_single (int_le y x) (int_lt x y) z (lt_turned y x) cc)
comparison_single Eq t x y z c e =
    ap Some (tested_single (int_le x y && int_le y x) (int_lt x y || int_lt y x) z (differ_is x y ∙ sym (ap not (equal_is x y))) (ap truth_of (equal_is x y) ∙ (let f : truth_of (int_eq x y) ≡ z = cc in f)))
comparison_single Ne t x y z c e =
    ap Some (tested_single (int_lt x y || int_lt y x) (int_le x y && int_le y x) z (equal_is x y ∙ (twice (int_eq x y) ∙ sym (ap not (differ_is x y)))) (ap truth_of (differ_is x y) ∙ (let f : truth_of (not (int_eq x y)) ≡ z = cc in f)))
  where
    twice : (b : Flag) → b ≡ not (not b)
    twice true = refl
    twice false = refl
comparison_single op t x y z c e = absurd cc

pub constants_give_constants : ConstantsGiveConstants
constants_give_constants = record {
  sums = λ t x y v. fitted_single t (x +ℤ y) v;
  differences = λ t x y v. fitted_single t (x -ℤ y) v;
  products = λ t x y v. ap (fitted_interval t) (spread_single (x *ℤ y)) ∙ fitted_single t (x *ℤ y) v;
  negations = λ t x v. ap (λ (n : ℤ). fitted_interval t (single n)) (negated x) ∙ fitted_single t (neg_ℤ x) v;
  signs = λ t x. refl;
  shifts = shifts_single;
  comparisons = comparison_single;
}
