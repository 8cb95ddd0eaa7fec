-- What the code's certificates of version 2 say.
use Rattle.std.specs.Prelude.{◌≡◌, ℕ, List, [], ◌∷◌, map, length, Some}
use Rattle.p10_base.specs.declared.digest.Digest.{Digest}
use Rattle.p10_cert.specs.declared.claims.FuncClaim.{FuncClaim}
use Rattle.p10_cert.specs.declared.sealed.Cert2.{Cert2}
use Rattle.p10_cert.specs.declared.sealed.Section.{Section as CodeSection}
use Rattle.p10_cert.specs.Claims.{func_of}
use Rattle.p10_cert.specs.Statements.{Entry, Section, Statement}

-- the bytes of a digest
abbrev pub bytes_of : Digest → List ℕ
bytes_of d = d.0

abbrev pub section_of : CodeSection → Section
section_of s = record { name = s.name; lines = s.lines }

-- a function with its digest
abbrev pub entry_of : FuncClaim → Digest → Entry
entry_of f d = record { func = func_of f; digest = Some (bytes_of d) }

-- functions, each with its digest
abbrev pub entries_of : List FuncClaim → List Digest → List Entry
entries_of (f ∷ funcs) (d ∷ digests) = entry_of f d ∷ entries_of funcs digests
entries_of _ _ = []

abbrev pub statement_of : Cert2 → Statement
statement_of c = record {
  entries = entries_of c.base.funcs c.digests;
  ending = record { outside = Some (bytes_of c.outside); total = c.base.total; sections = map section_of c.sections };
}

-- a certificate of version 2 has one digest for each function
pub record HasDigests (c : Cert2) : Type 0 where
  pub each : length c.digests ≡ length c.base.funcs
