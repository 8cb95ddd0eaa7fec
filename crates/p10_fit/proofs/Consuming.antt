-- Claims that are read one after the other.
use Rattle.std.proofs.Common.{◌≡◌, ℕ, Bool, true, false, List, [], ◌∷◌, ◌++◌, Option, Some, None, if◌then◌else◌, refl}
use Rattle.p10_cert.specs.Claims.{Loop}
use Rattle.p10_core.specs.Typed.{PlainFunction}
use Rattle.p10_fit.specs.Sites.{LoopSite}
use Rattle.p10_fit.specs.Fits.{fits_loop}
use Rattle.p10_fit.specs.private.Following.{claims_after}

-- the claims after further loops
abbrev pub then_after : PlainFunction → Option ℕ → List LoopSite → Option (List Loop) → Option (List Loop)
then_after f task sites None = None
then_after f task sites (Some claims) = claims_after f task sites claims

both_step : (f : PlainFunction) (task : Option ℕ) (b : Bool) (sites others : List LoopSite) (claims : List Loop)
    → claims_after f task (sites ++ others) claims ≡ then_after f task others (claims_after f task sites claims)
    → (if b then claims_after f task (sites ++ others) claims else None) ≡ then_after f task others (if b then claims_after f task sites claims else None)
both_step f task true sites others claims h = h
both_step f task false sites others claims h = refl

-- the claims on loops and then others
pub after_both : (f : PlainFunction) (task : Option ℕ) (sites others : List LoopSite) (claims : List Loop)
    → claims_after f task (sites ++ others) claims ≡ then_after f task others (claims_after f task sites claims)
after_both f task [] others claims = refl
after_both f task (site ∷ sites) others [] = refl
after_both f task (site ∷ sites) others (claim ∷ claims) =
    both_step f task (fits_loop f task site claim) sites others claims (after_both f task sites others claims)
