-- Bounds of midpoints, by the parts of the distance that the code finds.
use Rattle.std.proofs.Common.{◌≡◌, ◌∙◌, ℤ, pos, ◌-ℤ◌, Some}
use Rattle.std.specs.Prelude.{unsigned_abs}
use Rattle.std.specs.Int.{int_div_euclid}
use Rattle.p10_diff.specs.declared.ends.Ends.{Ends}
use Rattle.p10_diff.specs.declared.halving.Midpoint.{Midpoint as CodeMidpoint}
use Rattle.p10_diff.specs.Differences.{Name, Pair, Differences}
use Rattle.p10_diff.specs.Halves.{midpoint_by}
use Rattle.p10_diff.specs.private.Ends.{plus_ends, least_ends, named_ends, midpoint_ends}

-- `by`, `near` and `far` are the divisor and both distances as the code has them, and `less` and `more` their parts
pub midpoint_told : (p : Pair) (e : Differences) (m : CodeMidpoint) (w : Name) (by near far less more up down rest left : ℤ) (x y one two ends : Ends) →
    by ≡ m.by → near ≡ m.at_least → far ≡ m.at_most → less ≡ int_div_euclid near (pos (unsigned_abs by)) → more ≡ int_div_euclid far (pos (unsigned_abs by)) → up ≡ more → down ≡ pos 0 -ℤ less → rest ≡ less -ℤ m.at_least → left ≡ m.at_most -ℤ more →
    x ≡ named_ends p e (Some m.way.below) w → y ≡ named_ends p e (Some m.way.above) w → one ≡ plus_ends x (Some up) (Some down) → two ≡ plus_ends y (Some rest) (Some left) → ends ≡ least_ends one two → ends ≡ midpoint_ends p e (midpoint_by m) w
midpoint_told p e m w by near far less more up down rest left x y one two ends by_is near_is far_is less_is more_is up_is down_is rest_is left_is x_is y_is one_is two_is told =
    told ∙ (λ i. least_ends
    ((one_is ∙ (λ k. plus_ends (x_is k) (Some ((up_is ∙ greatest) k)) (Some ((down_is ∙ (λ j. pos 0 -ℤ least j)) k)))) i)
    ((two_is ∙ (λ k. plus_ends (y_is k) (Some ((rest_is ∙ (λ j. least j -ℤ m.at_least)) k)) (Some ((left_is ∙ (λ j. m.at_most -ℤ greatest j)) k)))) i))
  where
    least : less ≡ int_div_euclid m.at_least (pos (unsigned_abs m.by))
    least = less_is ∙ (λ i. int_div_euclid (near_is i) (pos (unsigned_abs (by_is i))))

    greatest : more ≡ int_div_euclid m.at_most (pos (unsigned_abs m.by))
    greatest = more_is ∙ (λ i. int_div_euclid (far_is i) (pos (unsigned_abs (by_is i))))
