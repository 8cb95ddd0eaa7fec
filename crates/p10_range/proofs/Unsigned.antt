-- Products that an unsigned type doesn't have.
use Rattle.std.proofs.Common.{◌≡◌, true, false, Bool as Flag, ap, sym, ◌∙◌, arith, ℤ, ◌≤ℤ◌, ◌*ℤ◌, refl, Some, Option, subst}
use Rattle.std.proofs.lemmas.Int.{ints}
use Rattle.std.specs.Prelude.{◌&&◌, ◌↔◌, IsTrue, int_le, if◌then◌else◌}
use Rattle.std.specs.Int.Signed.{le_z_yes}
use Rattle.std.specs.Bool.{passes}
use Rattle.p10_int.specs.declared.types.IntType.{IntType}
use Rattle.p10_int.specs.Types.{is_signed_of, least_of, greatest_of}
use Rattle.p10_int.proofs.Ranges.{least_unsigned}
use Rattle.p10_range.specs.Ranges.{Interval, from_to, IsWithin}
use Rattle.p10_range.specs.Rows.{values_of, fitted_interval, products, exact_or_all, clipped}
use Rattle.p10_range.proofs.Corners.{natural_products}

-- what reaches over an unsigned type gives all of it
pub above_all : (t : IntType) (p q : ℤ) → is_signed_of t ≡ false → int_le q (greatest_of t) ≡ false → fitted_interval t (from_to p q) ≡ Some (values_of t)
unfolding fitted_interval
above_all t p q s e =
    ap (λ (b : Flag). if b then clipped t (from_to p q) else Some (exact_or_all t (from_to p q))) s
    ∙ ap (λ (b : Flag). Some (if (int_le (least_of t) p && b) then from_to p q else values_of t)) e
    ∙ never (int_le (least_of t) p)
  where
    never : (b : Flag) → ◌≡◌ {A = Option Interval} (Some (if (b && false) then from_to p q else values_of t)) (Some (values_of t))
    never true = refl
    never false = refl

not_le : (x y : ℤ) → (x ≤ℤ y → Unit {0} → ⊥) → int_le x y ≡ false
not_le x y n = by_test (int_le x y) refl
  where
    by_test : (b : Flag) → int_le x y ≡ b → b ≡ false
    by_test true e = absurd (n (le_z_yes (passes _ e)) tt)
    by_test false e = refl

untrue : (b : Flag) → b ≡ false → IsTrue b → ⊥
untrue true e h = absurd cc
untrue false e h = absurd cc

pub all_over : (t : IntType) (a b all : Interval) (r : Flag) → is_signed_of t ≡ false → IsWithin a (values_of t) → a.low ≤ℤ a.high → IsWithin b (values_of t) → b.low ≤ℤ b.high
    → all ≡ values_of t → IsTrue r ↔ ((a.high *ℤ b.high) ≤ℤ all.high) → r ≡ false → Some (values_of t) ≡ fitted_interval t (products a b)
all_over t a b all r s w o v p e i f =
    let least = least_unsigned t s in
    let top : all.high ≡ greatest_of t = ap (λ (x : Interval). x.high) e in
    let over : int_le (a.high *ℤ b.high) (greatest_of t) ≡ false = not_le _ _ (λ h u. untrue r f (i.1 (subst (λ (m : ℤ). (a.high *ℤ b.high) ≤ℤ m) (sym top) h))) in
    sym (ap (fitted_interval t) (sym (natural_products a b (omega (arith, ints, w.from_low, least)) o (omega (arith, ints, v.from_low, least)) p))
    ∙ above_all t _ _ s over)
