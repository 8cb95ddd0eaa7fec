-- What a type makes of an exact interval where nothing wraps: the numbers of both.
use Rattle.std.proofs.Common.{◌≡◌, true, false, Bool as Flag, ap, sym, arith, refl, subst, Some, ◌⊎◌, inl, inr}
use Rattle.std.proofs.lemmas.Int.{ints, clamps}
use Rattle.std.specs.Prelude.{◌&&◌, if◌then◌else◌}
use Rattle.std.specs.Int.{int_min, int_max}
use Rattle.p10_int.specs.declared.types.IntType.{IntType}
use Rattle.p10_int.specs.Types.{InRange, is_signed_of, least_of, greatest_of}
use Rattle.p10_range.specs.Ranges.{Interval, IsInhabited}
use Rattle.p10_range.specs.Rows.{values_of, clipped, exact_or_all, fitted_interval}
use Rattle.p10_range.proofs.Signs.{le_true}
use Rattle.p10_range.proofs.Holding.{met}
use Rattle.p10_range.proofs.Growing.{inhabited_gives}

-- the row is the common part of an exact interval and the type
pub record Clips (t : IntType) (i r : Interval) : Type 0 where
  pub low : r.low ≡ int_max i.low (least_of t)
  pub high : r.high ≡ int_min i.high (greatest_of t)
  pub inhabited : IsInhabited r

-- the type has both ends, or it is signed
abbrev pub Fits : IntType → Interval → Type 0
Fits t i = (is_signed_of t ≡ true) ⊎ (InRange t i.low × InRange t i.high)

pub clips : (t : IntType) (i r : Interval) → IsInhabited i → Fits t i → fitted_interval t i ≡ Some r → Clips t i r
unfolding fitted_interval
clips t i r o fits e = by_sign (is_signed_of t) refl e
  where
    within : InRange t i.low → InRange t i.high → exact_or_all t i ≡ i
    within p q = ap (λ (b : Flag). if b then i else values_of t) (both _ _ (le_true _ _ p.low) (le_true _ _ q.high))
      where
        both : (c d : Flag) → c ≡ true → d ≡ true → c && d ≡ true
        both true true c d = refl
        both true false c d = absurd cc
        both false d c e = absurd cc

    by_sign : (s : Flag) → is_signed_of t ≡ s → (if s then clipped t i else Some (exact_or_all t i)) ≡ Some r → Clips t i r
    by_sign true s f =
        let g = inhabited_gives (met i (values_of t)) r f in
        record { low = ap (λ (k : Interval). k.low) g.0; high = ap (λ (k : Interval). k.high) g.0; inhabited = g.1 }
    by_sign false s f =
        elim fits [
          | inl signed ↦ absurd cc
          | inr ends ↦
              let same : r ≡ i = cc (within ends.0 ends.1) in
              subst (Clips t i) (sym same)
              (record { low = omega (arith, ints, clamps, ends.0.low); high = omega (arith, ints, clamps, ends.1.high); inhabited = o })
        ]
