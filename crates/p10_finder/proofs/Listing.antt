-- Claims with sums, one after the other.
use Rattle.std.proofs.Common.{◌≡◌, ℕ, zero, suc, ◌≤◌, List, [], ◌∷◌, length, Some, None, refl, sym, ap, ◌∙◌, arith}
use Rattle.std.specs.Prelude.{slice_get}
use Rattle.std.proofs.Math.ListN.{set}
use Rattle.p10_cert.specs.Claims.{Func}
use Rattle.p10_sums.specs.declared.sum.FuncSum.{FuncSum}
use Rattle.p10_finder.specs.private.Counting.{with_sum, with_sums}

pub with_sums_at : (fs : List Func) (ss : List FuncSum) (n : ℕ) (f : Func) (s : FuncSum) → slice_get fs n ≡ Some f → slice_get ss n ≡ Some s → slice_get (with_sums fs ss) n ≡ Some (with_sum s f)
with_sums_at [] ss n f s e g = absurd cc
with_sums_at (x ∷ fs) [] n f s e g = absurd cc
with_sums_at (x ∷ fs) (t ∷ ss) zero f s e g =
    let claim : x ≡ f = cc in
    let sum : t ≡ s = cc in
    λ i. Some (with_sum (sum i) (claim i))
with_sums_at (x ∷ fs) (t ∷ ss) (suc n) f s e g = with_sums_at fs ss n f s e g

pub with_sums_length : (fs : List Func) (ss : List FuncSum) → length fs ≤ length ss → length (with_sums fs ss) ≡ length fs
with_sums_length [] ss few = refl
with_sums_length (x ∷ fs) [] few = absurd (omega (arith, few))
with_sums_length (x ∷ fs) (t ∷ ss) few = ap suc (with_sums_length fs ss (omega (arith, few)))

-- claims with no sums are none
no_sums : (fs : List Func) (n : ℕ) → slice_get (with_sums fs []) n ≡ None
no_sums [] n = refl
no_sums (x ∷ fs) n = refl

-- where the sums are the same, the claims are
pub claims_same : (fs : List Func) (ss ts : List FuncSum) (n : ℕ) → slice_get ss n ≡ slice_get ts n → slice_get (with_sums fs ss) n ≡ slice_get (with_sums fs ts) n
claims_same [] ss ts n e = refl
claims_same (x ∷ fs) [] [] n e = refl
claims_same (x ∷ fs) [] (t ∷ ts) zero e = absurd cc
claims_same (x ∷ fs) [] (t ∷ ts) (suc n) e = sym (no_sums fs n) ∙ claims_same fs [] ts n e
claims_same (x ∷ fs) (s ∷ ss) [] zero e = absurd cc
claims_same (x ∷ fs) (s ∷ ss) [] (suc n) e = claims_same fs ss [] n e ∙ no_sums fs n
claims_same (x ∷ fs) (s ∷ ss) (t ∷ ts) zero e = let same : s ≡ t = cc in ap (λ (q : FuncSum). Some (with_sum q x)) same
claims_same (x ∷ fs) (s ∷ ss) (t ∷ ts) (suc n) e = claims_same fs ss ts n e

-- a sum is put among others
pub with_sums_set : (fs : List Func) (ss : List FuncSum) (n : ℕ) (f : Func) (s : FuncSum) → slice_get fs n ≡ Some f → set (with_sums fs ss) n (with_sum s f) ≡ with_sums fs (set ss n s)
with_sums_set [] ss n f s e = absurd cc
with_sums_set (x ∷ fs) [] n f s e = refl
with_sums_set (x ∷ fs) (t ∷ ss) zero f s e = let same : x ≡ f = cc in ap (λ (g : Func). with_sum s g ∷ with_sums fs ss) (sym same)
with_sums_set (x ∷ fs) (t ∷ ss) (suc n) f s e = ap (λ (cs : List Func). with_sum t x ∷ cs) (with_sums_set fs ss n f s e)
