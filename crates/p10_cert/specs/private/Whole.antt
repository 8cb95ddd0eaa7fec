-- What a reader of a whole certificate of version 2 has collected.
use Rattle.std.specs.Prelude.{◌≡◌, ℕ, true, List, map, length, Option, Some}
use Rattle.p10_base.specs.declared.digest.Digest.{Digest}
use Rattle.p10_cert.specs.declared.claims.FuncClaim.{FuncClaim}
use Rattle.p10_cert.specs.Claims.{func_of}
use Rattle.p10_cert.specs.Certificate.{IsCertificate, certificate_text}
use Rattle.p10_cert.specs.Reading.{Fits}
use Rattle.p10_cert.specs.Records.{Progress, statement_from}
use Rattle.p10_cert.specs.Sealed.{bytes_of, entries_of}
use Rattle.p10_cert.specs.Statements.{Ending, IsStatement, statement_text, is_there}

-- a digest that is there
abbrev pub seal_of : Digest → Option (List ℕ)
seal_of d = Some (bytes_of d)

-- all was read of a text of version 1: these are its functions
pub record IsWholeFirst (read : Progress) (funcs : List FuncClaim) : Type 0 where
  pub ending : Ending
  pub over : read.ending ≡ Some ending
  pub fits : Fits read.text
  pub good : IsCertificate (record { funcs = map func_of funcs; total = ending.total })
  pub exact : read.text ≡ certificate_text (record { funcs = map func_of funcs; total = ending.total })

-- all was read of a text of version 2: these are its functions and their digests
pub record IsWhole (read : Progress) (funcs : List FuncClaim) (digests : List Digest) : Type 0 where
  pub ending : Ending
  pub over : read.ending ≡ Some ending
  pub fits : Fits read.text
  pub good : IsStatement (statement_from read.given ending)
  pub exact : read.text ≡ statement_text (statement_from read.given ending)
  pub outside : is_there ending.outside ≡ true
  pub entries : entries_of funcs digests ≡ read.given
  pub each : length digests ≡ length funcs
