-- What holds of claims with digests.
use Rattle.std.specs.Prelude.{◌≡◌, List, [], map, length, Some}
use Rattle.std.specs.List.{AllByRecursion}
use Rattle.p10_cert.specs.Certificate.{IsCertificate}
use Rattle.p10_cert.specs.Claims.{Claims}
use Rattle.p10_cert.specs.Lines.{IsDigest}
use Rattle.p10_cert.specs.Statements.{Section, AreSections, IsStatement}
use Rattle.p10_front.specs.Digests.{PlainDigests, reading_digests}
use Rattle.p10_front.specs.Readings.{PlainReading}
use Rattle.p10_seal.specs.Sealing.{sealed, sealed_with, sealed_text}

-- what is said is what was to be said
pub record SaysAll (c : Claims) (digests : PlainDigests) : Type 0 where
  pub funcs : map (λ e. e.func) (sealed c digests).entries ≡ c.funcs
  pub digests_are : map (λ e. e.digest) (sealed c digests).entries ≡ map Some digests.funcs
  pub outside : (sealed c digests).ending.outside ≡ Some digests.outside
  pub total : (sealed c digests).ending.total ≡ c.total
  pub sections : (sealed c digests).ending.sections ≡ []

-- claims with a digest for each function say these claims and digests, and nothing in sections
abbrev pub SealedSaysTheSame : Type 0
SealedSaysTheSame = (c : Claims) (digests : PlainDigests) → length digests.funcs ≡ length c.funcs → SaysAll c digests

-- digests have the size of digests
pub record AreSized (digests : PlainDigests) : Type 0 where
  pub funcs : AllByRecursion IsDigest digests.funcs
  pub outside : IsDigest digests.outside

-- so have those of the words that are read
abbrev pub ReadingDigestsAreSized : Type 0
ReadingDigestsAreSized = (reading : PlainReading) → AreSized (reading_digests reading)

-- claims that are a certificate's are one with digests
abbrev pub SealedIsCertificate : Type 0
SealedIsCertificate = (c : Claims) (digests : PlainDigests) → IsCertificate c → AreSized digests → IsStatement (sealed c digests)

-- and so with sections that a certificate may have
abbrev pub SealedWithIsCertificate : Type 0
SealedWithIsCertificate = (c : Claims) (digests : PlainDigests) (sections : List Section) → IsCertificate c → AreSized digests → AreSections sections → IsStatement (sealed_with c digests sections)

-- two claims with digests that have one text are the same
pub record AreSame (b c : Claims) (these those : PlainDigests) : Type 0 where
  pub claims : b ≡ c
  pub digests : these ≡ those

-- the text determines claims and digests
abbrev pub SealedTellsAll : Type 0
SealedTellsAll =
    (b c : Claims) (these those : PlainDigests) → IsCertificate b → IsCertificate c → AreSized these → AreSized those → length these.funcs ≡ length b.funcs → length those.funcs ≡ length c.funcs
    → sealed_text b these ≡ sealed_text c those → AreSame b c these those
