-- The ends of a row of products are products, or ends of the type that a product exceeds.
use Rattle.std.proofs.Common.{◌≡◌, ap, sym, ◌∙◌, arith, ℤ, ◌≤ℤ◌, ◌<ℤ◌, ◌*ℤ◌, refl, subst, inl, inr}
use Rattle.std.proofs.lemmas.Int.{ints, clamps, by_lt_z}
use Rattle.std.specs.Int.{int_min, int_max}
use Rattle.p10_int.specs.declared.types.IntType.{IntType}
use Rattle.p10_int.specs.declared.operators.Stop.TheVariants.{U1}
use Rattle.p10_int.specs.declared.operators.BinOp.TheVariants.{Mul}
use Rattle.p10_int.specs.Types.{InRange, least_of, greatest_of}
use Rattle.p10_int.specs.Operators.{fitted}
use Rattle.p10_range.specs.Ranges.{Interval, IsInhabited, IsMember}
use Rattle.p10_range.specs.Rows.{products, at_ends}
use Rattle.p10_range.proofs.Growing.{products_inhabited}
use Rattle.p10_range.proofs.Typed.{if_some}
use Rattle.p10_range.proofs.Pairs.{fitted_goes, lowest, highest}
use Rattle.p10_range_laws.specs.Tight.{Attains, HasProduct, ProductEnds, ProductsAreTight}
use Rattle.p10_range_laws.proofs.Fitting.{Clips, Fits, clips}

min_is : (P : ℤ → Type 0) (x y : ℤ) → P x → P y → P (int_min x y)
min_is P x y p q = by_lt_z x y (λ h. subst P (omega (arith, ints, clamps, h)) p) (λ h. subst P (omega (arith, ints, clamps, h)) q)

max_is : (P : ℤ → Type 0) (x y : ℤ) → P x → P y → P (int_max x y)
max_is P x y p q = by_lt_z x y (λ h. subst P (omega (arith, ints, clamps, h)) q) (λ h. subst P (omega (arith, ints, clamps, h)) p)

-- what holds of the four results at the ends of two intervals holds of the least and the greatest
pub corners : (P : ℤ → Type 0) (f : ℤ → ℤ → ℤ) (a b : Interval) → P (f a.low b.low) → P (f a.low b.high) → P (f a.high b.low) → P (f a.high b.high) →
    P (at_ends f a b).low × P (at_ends f a b).high
corners P f a b p q r s = (min_is P _ _ (min_is P _ _ p q) (min_is P _ _ r s), max_is P _ _ (max_is P _ _ p q) (max_is P _ _ r s))

-- z is the product of two numbers of the intervals
record IsProduct (a b : Interval) (z : ℤ) : Type 0 where
  x : ℤ
  y : ℤ
  left : IsMember a x
  right : IsMember b y
  is : x *ℤ y ≡ z

product_ends : (a b : Interval) → IsInhabited a → IsInhabited b → IsProduct a b (products a b).low × IsProduct a b (products a b).high
product_ends a b i j =
    corners (IsProduct a b) (λ x y. x *ℤ y) a b
    (record { x = a.low; y = b.low; left = lowest a i; right = lowest b j; is = refl })
    (record { x = a.low; y = b.high; left = lowest a i; right = highest b j; is = refl })
    (record { x = a.high; y = b.low; left = highest a i; right = lowest b j; is = refl })
    (record { x = a.high; y = b.high; left = highest a i; right = highest b j; is = refl })

given : (t : IntType) (a b : Interval) (z : ℤ) → IsProduct a b z → InRange t z → Attains Mul t a b z
given t a b z p v = record { x = p.x; y = p.y; left = p.left; right = p.right; result = ap (fitted t U1) p.is ∙ fitted_goes t U1 z v }

meets : (a b : Interval) (Meets : ℤ → Type 0) (z : ℤ) → IsProduct a b z → Meets z → HasProduct a b Meets
meets a b Meets z p h = record { x = p.x; y = p.y; left = p.left; right = p.right; product = subst Meets (sym p.is) h }

-- the ends of the common part of the products and the type
clipped_ends : (t : IntType) (a b r : Interval) (p q : ℤ) → IsProduct a b p → IsProduct a b q → p ≡ (products a b).low → q ≡ (products a b).high →
    Clips t (products a b) r → ProductEnds t a b r
clipped_ends t a b r p q m n e f c =
    let l : r.low ≡ int_max p (least_of t) = subst (λ (k : ℤ). r.low ≡ int_max k (least_of t)) (sym e) c.low in
    let h : r.high ≡ int_min q (greatest_of t) = subst (λ (k : ℤ). r.high ≡ int_min k (greatest_of t)) (sym f) c.high in
    let o : r.low ≤ℤ r.high = c.inhabited in
    record {
      low =
          by_lt_z p (least_of t)
          (λ s. inr (omega (arith, ints, clamps, l, s), meets a b (λ z. z <ℤ least_of t) p m s))
          (λ s. let same : p ≡ r.low = omega (arith, ints, clamps, l, s) in
          inl (subst (Attains Mul t a b) same (given t a b p m (record { low = s; high = omega (arith, ints, clamps, same, h, o) }))));
      high =
          by_lt_z (greatest_of t) q
          (λ s. inr (omega (arith, ints, clamps, h, s), meets a b (λ z. greatest_of t <ℤ z) q n s))
          (λ s. let same : q ≡ r.high = omega (arith, ints, clamps, h, s) in
          inl (subst (Attains Mul t a b) same (given t a b q n (record { low = omega (arith, ints, clamps, same, l, o); high = s }))));
    }

pub products_are_tight : ProductsAreTight
products_are_tight t a b i j w =
    if_some _ _
    (λ r e.
    let p = product_ends a b i j in
    let fits : Fits t (products a b) = elim w [ inl s ↦ inl s | inr v ↦ inr (valued v p.0, valued v p.1) ] in
    clipped_ends t a b r _ _ p.0 p.1 refl refl (clips t (products a b) r (products_inhabited a b) fits e))
  where
    valued : {z : ℤ} → ((x y : ℤ) → IsMember a x → IsMember b y → InRange t (x *ℤ y)) → IsProduct a b z → InRange t z
    valued v p = subst (InRange t) p.is (v p.x p.y p.left p.right)
