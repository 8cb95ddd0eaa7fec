-- The claims on the loops to come, as a walk over the loops leaves them.
use Rattle.std.specs.Prelude.{ℕ, ◌+◌, Bool, false, List, [], ◌∷◌, Option, Some, None, if◌then◌else◌}
use Rattle.p10_core.specs.declared.statements.LoopHead.{LoopHead}
use Rattle.p10_cert.specs.Claims.{Loop}
use Rattle.p10_core.specs.Typed.{PlainFunction, PlainStatement}
use Rattle.p10_fit.specs.Sites.{LoopSite, loop_sites_in}
use Rattle.p10_fit.specs.Fits.{fits_loop}

-- the claims that are left after those on these loops; none where one of them doesn't fit or is lacking
abbrev pub claims_after : PlainFunction → Option ℕ → List LoopSite → List Loop → Option (List Loop)
claims_after f task [] claims = Some claims
claims_after f task (site ∷ sites) [] = None
claims_after f task (site ∷ sites) (claim ∷ claims) = if fits_loop f task site claim then claims_after f task sites claims else None

-- the loops in a statement that may be lacking
abbrev pub loop_sites_in_maybe : ℕ → List ℕ → Option PlainStatement → List LoopSite
loop_sites_in_maybe depth scope None = []
loop_sites_in_maybe depth scope (Some s) = loop_sites_in depth scope s

-- a loop in a number of loops, with the variables in scope at it, and the loops in its body
abbrev pub sites_with : ℕ → LoopHead → List ℕ → PlainStatement → List LoopSite
sites_with depth head scope body = record { depth = depth; head = head; scope = scope } ∷ loop_sites_in (depth + 1) scope body

-- whether the next claim is there and may be that on a loop
abbrev pub next_fits : PlainFunction → Option ℕ → LoopSite → List Loop → Bool
next_fits f task site [] = false
next_fits f task site (claim ∷ claims) = fits_loop f task site claim
