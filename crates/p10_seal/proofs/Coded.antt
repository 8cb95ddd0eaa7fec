-- What the code's certificate of claims and digests says.
use Rattle.std.proofs.Common.{◌≡◌, List, [], ◌∷◌, map, Some, refl, ap}
use Rattle.p10_base.specs.declared.digest.Digest.{Digest}
use Rattle.p10_base.specs.declared.digest.Digests.{Digests}
use Rattle.p10_cert.specs.declared.claims.Cert.{Cert}
use Rattle.p10_cert.specs.declared.claims.FuncClaim.{FuncClaim}
use Rattle.p10_cert.specs.declared.sealed.Section.{Section as CodeSection}
use Rattle.p10_cert.specs.Claims.{func_of, claims_of}
use Rattle.p10_cert.specs.Sealed.{bytes_of, section_of, entry_of, entries_of, statement_of}
use Rattle.p10_front.specs.Digests.{plain_digests}
use Rattle.p10_seal.specs.Sealing.{sealed_with, sealed_entries}

coded_entries : (fs : List FuncClaim) (ds : List Digest) → entries_of fs ds ≡ sealed_entries (map func_of fs) (map (λ d. d.0) ds)
coded_entries [] [] = refl
coded_entries [] (d ∷ ds) = refl
coded_entries (f ∷ fs) [] = refl
coded_entries (f ∷ fs) (d ∷ ds) = ap (λ rest. entry_of f d ∷ rest) (coded_entries fs ds)

pub sealed_is : (claims : Cert) (digests : Digests) (sections : List CodeSection)
    → statement_of (record { base = claims; digests = digests.funcs; outside = digests.outside; sections = sections }) ≡ sealed_with (claims_of claims) (plain_digests digests) (map section_of sections)
sealed_is claims digests sections = λ i. record {
  entries = coded_entries claims.funcs digests.funcs i;
  ending = record { outside = Some (bytes_of digests.outside); total = claims.total; sections = map section_of sections };
}
