-- What certificates of version 2 say of functions.
use Rattle.std.proofs.Common.{◌≡◌, ℕ, zero, suc, List, [], ◌∷◌, map, length, Option, Some, None, ap, refl, arith}
use Rattle.std.specs.Prelude.{slice_get}
use Rattle.p10_base.specs.declared.digest.Digest.{Digest}
use Rattle.p10_cert.specs.declared.claims.FuncClaim.{FuncClaim}
use Rattle.p10_cert.specs.declared.sealed.Cert2.{Cert2}
use Rattle.p10_cert.specs.Claims.{func_of, claims_of}
use Rattle.p10_cert.specs.Sealed.{entries_of, statement_of, HasDigests}
use Rattle.p10_check.specs.Texts.{funcs_in, claims_in}
use Rattle.p10_incr.specs.private.Entries.{entry_at}

none_at : (o : Option FuncClaim) → entry_at o None ≡ None
none_at None = refl
none_at (Some f) = refl

pub entry_there : (funcs : List FuncClaim) (digests : List Digest) (n : ℕ) → entry_at (slice_get funcs n) (slice_get digests n) ≡ slice_get (entries_of funcs digests) n
entry_there [] digests n = refl
entry_there (f ∷ funcs) [] n = none_at (slice_get (f ∷ funcs) n)
entry_there (f ∷ funcs) (d ∷ digests) zero = refl
entry_there (f ∷ funcs) (d ∷ digests) (suc n) = entry_there funcs digests n

funcs_same : (funcs : List FuncClaim) (digests : List Digest) → length digests ≡ length funcs → funcs_in (entries_of funcs digests) ≡ map func_of funcs
funcs_same [] digests same = refl
funcs_same (f ∷ funcs) [] same = let no : ⊥ = omega (arith, same) in absurd no
funcs_same (f ∷ funcs) (d ∷ digests) same = ap (λ rest. func_of f ∷ rest) (funcs_same funcs digests (omega (arith, same)))

-- what is claimed with a digest for each function
pub claims_same : (c : Cert2) → HasDigests c → claims_in (statement_of c) ≡ claims_of c.base
claims_same c has = λ i. record { funcs = funcs_same c.base.funcs c.digests has.each i; total = c.base.total }
