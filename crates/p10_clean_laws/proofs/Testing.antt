-- Tests at the ends of two ranges, and what they say of a value and of a result.
use Rattle.std.proofs.Common.{◌≡◌, true, false, Bool, ap, sym, ◌∙◌, ℤ, refl, Result, Ok, Err}
use Rattle.std.specs.Prelude.{◌&&◌, ◌||◌, not, if◌then◌else◌, int_le, is_err}
use Rattle.p10_int.specs.declared.types.IntType.{IntType}
use Rattle.p10_int.specs.declared.operators.Stop.{Stop}
use Rattle.p10_int.specs.Types.{InRange, is_signed_of, least_of, greatest_of, holds}
use Rattle.p10_int.specs.Operators.{fitted}
use Rattle.p10_int.proofs.InRange.{holds_in}
use Rattle.p10_int.proofs.Reduced.{fitted_signed}
use Rattle.p10_range.proofs.Signs.{le_true}

pub in_holds : (t : IntType) (z : ℤ) → InRange t z → holds t z ≡ true
in_holds t z i = both (int_le (least_of t) z) (int_le z (greatest_of t)) (le_true _ _ i.low) (le_true _ _ i.high)
  where
    both : (c d : Bool) → c ≡ true → d ≡ true → c && d ≡ true
    both true true c d = refl
    both true false c d = absurd cc
    both false d c e = absurd cc

-- four tests of which none holds
pub none_of_four : (p q r s : Bool) → p || (q || (r || s)) ≡ false → (p ≡ false) × (q ≡ false) × (r ≡ false) × (s ≡ false)
none_of_four false false false false e = (refl, refl, refl, refl)
none_of_four false false false true e = absurd cc
none_of_four false false true s e = absurd cc
none_of_four false true r s e = absurd cc
none_of_four true q r s e = absurd cc

pub four_none : (p q r s : Bool) → p ≡ false → q ≡ false → r ≡ false → s ≡ false → p || (q || (r || s)) ≡ false
four_none false false false false e f g h = refl
four_none false false false true e f g h = absurd cc
four_none false false true s e f g h = absurd cc
four_none false true r s e f g h = absurd cc
four_none true q r s e f g h = absurd cc

pub none_of_two : (p q : Bool) → p || q ≡ false → (p ≡ false) × (q ≡ false)
none_of_two false false e = (refl, refl)
none_of_two false true e = absurd cc
none_of_two true q e = absurd cc

pub two_none : (p q : Bool) → p ≡ false → q ≡ false → p || q ≡ false
two_none false false e f = refl
two_none false true e f = absurd cc
two_none true q e f = absurd cc

-- a result of a signed type that is no stop is exact
pub fitted_exact : (t : IntType) (stop : Stop) (z : ℤ) → is_signed_of t ≡ true → is_err (fitted t stop z) ≡ false → InRange t z
fitted_exact t stop z g e = by_holds (holds t z) refl (sym (ap is_err (fitted_signed t stop z g)) ∙ e)
  where
    by_holds : (h : Bool) → holds t z ≡ h → is_err (if h then Ok z else Err stop) ≡ false → InRange t z
    by_holds true h f = holds_in t z h
    by_holds false h f = absurd cc

pub exact_fitted : (t : IntType) (stop : Stop) (z : ℤ) → is_signed_of t ≡ true → InRange t z → is_err (fitted t stop z) ≡ false
exact_fitted t stop z g i = ap is_err (fitted_signed t stop z g) ∙ ap (λ (h : Bool). is_err (if h then Ok z else Err stop)) (in_holds t z i)
