-- Calls keep their claims where these allow the sums.
use Rattle.std.proofs.Common.{◌≡◌, ℕ, zero, suc, ◌+◌, ◌<◌, ◌≤◌, max, Bool, true, false, refl, arith, None, slice_get}
use Rattle.p10_meaning.specs.Calling.{call_at}
use Rattle.p10_sums.specs.Counting.{steps_claimed, calls_claimed, bytes_claimed, alloc_claimed, counting_of}
use Rattle.p10_sums.specs.Costs.{cost_of, statements_cost}
use Rattle.p10_sums.specs.Depths.{depth_of, effect_of}
use Rattle.p10_sums.specs.CallLaws.{Allows, CallsKeepTheirClaims}
use Rattle.p10_sums.proofs.Spending.{takes_more}
use Rattle.p10_sums.proofs.Covering.{takes_wider}
use Rattle.p10_sums.proofs.SpendingStatements.{calls_take}

no_effect : (a b : Bool) → (a ≡ true → b ≡ true) → b ≡ false → a ≡ false
no_effect true b h e = absurd (let d : b ≡ true = h refl in cc)
no_effect false b h e = refl

more : (d a b : ℕ) → a ≤ b → d + a ≤ d + b
more d a b h = omega (arith, h)

pub claims_kept : CallsKeepTheirClaims
claims_kept p functions zero depth caller k f xs w e a l body = record {
  taken = record {
    too_few = few w.left (statements_cost (counting_of p functions k f) f.body) (steps_claimed (slice_get functions k)) l a.steps_allowed;
    calls_at_most = least w.calls (depth.calls + calls_claimed (slice_get functions k));
    bytes_at_most = least w.bytes (depth.bytes + bytes_claimed (slice_get functions k));
    quiet = λ e. refl;
  };
}
  where
    few : (l s c : ℕ) → l ≤ 0 → 1 + s ≤ c → l < c
    few l s c h a = omega (arith, h, a)

    least : (x y : ℕ) → x ≤ max x y
    least x y = omega arith
claims_kept p functions (suc n) depth caller k f xs w e a l body =
    takes_more (depth.calls + calls_claimed (slice_get functions k)) (depth.bytes + bytes_claimed (slice_get functions k)) (alloc_claimed (slice_get functions k))
    (cost_of (counting_of p functions k f) None f) (steps_claimed (slice_get functions k)) w (call_at (suc n) p depth k xs w) a.steps_allowed
    (takes_wider (cost_of (counting_of p functions k f) None f) (depth.calls + (depth_of functions f).calls) (depth.bytes + (depth_of functions f).bytes) (effect_of functions f)
    (depth.calls + calls_claimed (slice_get functions k)) (depth.bytes + bytes_claimed (slice_get functions k)) (alloc_claimed (slice_get functions k)) w (call_at (suc n) p depth k xs w)
    (record {
      calls_in = more depth.calls (depth_of functions f).calls (calls_claimed (slice_get functions k)) a.calls_allowed;
      bytes_in = more depth.bytes (depth_of functions f).bytes (bytes_claimed (slice_get functions k)) a.bytes_allowed;
      effect_in = no_effect (effect_of functions f) (alloc_claimed (slice_get functions k)) a.effect_allowed;
    })
    (calls_take p functions n depth k f xs w e l body))
