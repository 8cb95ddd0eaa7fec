-- Numbers that the code carries in 128 bits.
use Rattle.std.proofs.Common.{◌≡◌, ◌-◌, ◌^◌, ap, ◌∙◌, arith, ℤ, pos, negsuc, ◌≤ℤ◌, ◌*ℤ◌, FitsSigned, to_z, of_z, lit<}
use Rattle.std.proofs.lemmas.Int.{ints, to_z-of_z, quot_is, quot_fits, fits_signed_mul}
use Rattle.std.specs.Prelude.{int_div, unsigned_abs}
use Rattle.std.specs.Int.{w128}
use Rattle.p10_range.specs.Ranges.{Interval, from_to, between, hull_of}
use Rattle.p10_range.specs.Rows.{spread, halved, doubled}

pub both : (l h l' h' : ℤ) → l ≡ l' → h ≡ h' → from_to l h ≡ from_to l' h'
both l h l' h' e f = ap (λ (x : ℤ). from_to x h) e ∙ ap (λ (x : ℤ). from_to l' x) f

pub hulls : (i j i' j' : Interval) → i ≡ i' → j ≡ j' → hull_of i j ≡ hull_of i' j'
hulls i j i' j' e f = ap (λ (x : Interval). hull_of x j) e ∙ ap (λ (x : Interval). hull_of i' x) f

pub betweens : (p q p' q' : ℤ) → p ≡ p' → q ≡ q' → between p q ≡ between p' q'
betweens p q p' q' e f = ap (λ (x : ℤ). between x q) e ∙ ap (λ (x : ℤ). between p' x) f

pub spreads : (p q r s p' q' r' s' : ℤ) → p ≡ p' → q ≡ q' → r ≡ r' → s ≡ s' → spread p q r s ≡ spread p' q' r' s'
spreads p q r s p' q' r' s' e f g h = hulls _ _ _ _ (betweens p q p' q' e f) (betweens r s r' s' g h)

pub carried_spread : (p q r s : ℤ) (i j k : Interval) → FitsSigned w128 p → FitsSigned w128 q → FitsSigned w128 r → FitsSigned w128 s
    → i ≡ between (to_z w128 (of_z w128 p)) (to_z w128 (of_z w128 q)) → j ≡ between (to_z w128 (of_z w128 r)) (to_z w128 (of_z w128 s))
    → k ≡ hull_of i j → k ≡ spread p q r s
carried_spread p q r s i j k fp fq fr fs e f g =
    g ∙ hulls _ _ _ _ (e ∙ betweens _ _ _ _ (to_z-of_z w128 p fp) (to_z-of_z w128 q fq)) (f ∙ betweens _ _ _ _ (to_z-of_z w128 r fr) (to_z-of_z w128 s fs))

pub back_product : (x y : ℤ) → FitsSigned w128 x → FitsSigned w128 y → FitsSigned w128 (x *ℤ y)
    → to_z w128 (of_z w128 (to_z w128 (of_z w128 x) *ℤ to_z w128 (of_z w128 y))) ≡ x *ℤ y
back_product x y f g h = rw (to_z-of_z w128 x f, to_z-of_z w128 y g) (to_z-of_z w128 (x *ℤ y) h)

pub carried_product_fits : (x y : ℤ) → FitsSigned w128 x → FitsSigned w128 y → FitsSigned w128 (x *ℤ y) → FitsSigned w128 (to_z w128 (of_z w128 x) *ℤ to_z w128 (of_z w128 y))
carried_product_fits x y f g h = rw (to_z-of_z w128 x f, to_z-of_z w128 y g) h

pub back_quotient : (x y : ℤ) → FitsSigned w128 x → FitsSigned w128 y → pos 1 ≤ℤ y
    → to_z w128 (of_z w128 (int_div (to_z w128 (of_z w128 x)) (to_z w128 (of_z w128 y)))) ≡ int_div x y
back_quotient x y f g p = quot_is w128 x y f g (quot_fits w128 x y f (omega (arith, ints)))

-- a result of a call that is passed on
pub back_half : (h x n : ℤ) → FitsSigned w128 h → FitsSigned w128 x → FitsSigned w128 n → h ≡ halved (to_z w128 (of_z w128 x)) (to_z w128 (of_z w128 n))
    → to_z w128 (of_z w128 h) ≡ halved x n
back_half h x n fh fx fn e = to_z-of_z w128 h fh ∙ (rw (to_z-of_z w128 x fx, to_z-of_z w128 n fn) at e)

pub back_double : (x p n : ℤ) → FitsSigned w128 x → FitsSigned w128 p → FitsSigned w128 n → FitsSigned w128 (x *ℤ p)
    → p ≡ pos (2 ^ unsigned_abs (to_z w128 (of_z w128 n))) → to_z w128 (of_z w128 (to_z w128 (of_z w128 x) *ℤ to_z w128 (of_z w128 p))) ≡ doubled x n
back_double x p n fx fp fn fits e = back_product x p fx fp fits ∙ ap (λ (q : ℤ). x *ℤ q) (rw (to_z-of_z w128 n fn) at e)

pub le_by : (x y x' y' : ℤ) → x ≡ x' → y ≡ y' → x' ≤ℤ y' → x ≤ℤ y
le_by x y x' y' e f h = rw (e, f) h

-- what isn't negative and small, times a power of two below 2 ^ 64, fits
pub double_fits : (x p : ℤ) → pos 0 ≤ℤ x → x ≤ℤ pos (2 ^ 64 - 1) → pos 0 ≤ℤ p → p ≤ℤ pos (2 ^ 63) → FitsSigned w128 (x *ℤ p)
double_fits (pos x) (pos p) h k l m = fits_signed_mul w128 (pos x) (pos p) (2 ^ 64 - 1) (2 ^ 63) (omega (arith, ints, k)) (omega (arith, ints, m)) (lit< tt)
double_fits (negsuc x) p h k l m = absurd (omega (arith, ints, h))
double_fits (pos x) (negsuc p) h k l m = absurd (omega (arith, ints, l))

pub natural_fits : (x y m : ℤ) → pos 0 ≤ℤ (x *ℤ y) → (x *ℤ y) ≤ℤ m → FitsSigned w128 m → FitsSigned w128 (x *ℤ y)
natural_fits x y m h k f = omega (arith, ints, h, k, f.sfits)
