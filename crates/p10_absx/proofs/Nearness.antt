-- Tests of ranges, and what they show.
use Rattle.std.proofs.Common.{◌≡◌, refl, true, false, Bool, ℤ, ◌≤ℤ◌, neg_ℤ, arith}
use Rattle.std.specs.Prelude.{◌&&◌, int_le}
use Rattle.std.proofs.lemmas.Int.{ints}
use Rattle.p10_range.specs.Ranges.{Interval, is_within, IsWithin}
use Rattle.p10_absx.specs.Abstract.{farthest, is_near}
use Rattle.p10_absx.specs.private.Nearness.{IsNear}

-- both of two tests hold
pub both_true : (a b : Bool) → a && b ≡ true → (a ≡ true) × (b ≡ true)
both_true true b e = (refl, e)
both_true false b e = absurd cc

pub le_holds : (a b : ℤ) → int_le a b ≡ true → a ≤ℤ b
le_holds a b h = grind (arith, ints, h)

pub near_in : (r : Interval) → is_near r ≡ true → IsNear r
near_in r e =
    let t = both_true (int_le (neg_ℤ farthest) r.low) (int_le r.high farthest) e in
    record { low = le_holds (neg_ℤ farthest) r.low t.0; high = le_holds r.high farthest t.1 }

pub within_in : (r s : Interval) → is_within r s ≡ true → IsWithin r s
within_in r s e =
    let t = both_true (int_le s.low r.low) (int_le r.high s.high) e in
    record { from_low = le_holds s.low r.low t.0; to_high = le_holds r.high s.high t.1 }
