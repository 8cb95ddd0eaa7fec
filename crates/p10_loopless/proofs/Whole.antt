-- One whole claim among claims without loops.
use Rattle.std.proofs.Common.{◌≡◌, ℕ, zero, suc, List, [], ◌∷◌, Option, Some, None, set, refl, sym, ap, ◌∙◌}
use Rattle.std.specs.Prelude.{slice_get, unwrap_or}
use Rattle.p10_cert.specs.Claims.{Func}
use Rattle.p10_loopless.specs.Loopless.{without_loops, all_without_loops, AgreeOn}

-- loops are left out once
pub loopless_twice : (functions : List Func) → all_without_loops (all_without_loops functions) ≡ all_without_loops functions
loopless_twice [] = refl
loopless_twice (g ∷ functions) = ap (λ fs. without_loops g ∷ fs) (loopless_twice functions)

loopless_again : (functions : List Func) (n : ℕ) (claim : Func) → slice_get functions n ≡ Some claim → all_without_loops (set (all_without_loops functions) n claim) ≡ all_without_loops functions
loopless_again [] n claim there = refl
loopless_again (g ∷ functions) zero claim there =
    ap (λ f. without_loops f ∷ all_without_loops (all_without_loops functions)) (sym (ap (λ o. unwrap_or o claim) there)) ∙ ap (λ fs. without_loops g ∷ fs) (loopless_twice functions)
loopless_again (g ∷ functions) (suc n) claim there = ap (λ fs. without_loops g ∷ fs) (loopless_again functions n claim there)

own_again : (functions : List Func) (n : ℕ) (claim : Func) → slice_get functions n ≡ Some claim → slice_get (set (all_without_loops functions) n claim) n ≡ slice_get functions n
own_again [] n claim there = refl
own_again (g ∷ functions) zero claim there = sym there
own_again (g ∷ functions) (suc n) claim there = own_again functions n claim there

pub one_stands_whole : (functions : List Func) (number : ℕ) (claim : Func) → slice_get functions number ≡ Some claim → AgreeOn number (set (all_without_loops functions) number claim) functions
one_stands_whole functions number claim there = record { alike = loopless_again functions number claim there; own = own_again functions number claim there }
