-- What is derived is accepted.
use Rattle.std.specs.Prelude.{◌≡◌, Bool}
use Rattle.p10_core.specs.Typed.{PlainProgram}
use Rattle.p10_core.specs.WholePrograms.{IsWholeProgram}
use Rattle.p10_cert.specs.Claims.{Claims}
use Rattle.p10_cert.specs.Certificate.{IsCertificate, certificate_text}
use Rattle.p10_meaning.specs.Runs.{Within}
use Rattle.p10_turns.specs.Evidence.{stands_by_ranges}
use Rattle.p10_check.specs.declared.verdict.Verdict.TheVariants.{Accepted}
use Rattle.p10_check.specs.Conditions.{IsVerdict}
use Rattle.p10_check.specs.Accepting.{Holds}
use Rattle.p10_check.specs.Passes.{Standing}
use Rattle.p10_approach.specs.Offers.{Offers, no_offers, offers_if}
use Rattle.p10_finder.specs.Answers.{Certified, IsDerived}
use Rattle.p10_derived_texts.specs.Naming.{AreNamed}
use Rattle.p10_acceptance.specs.Supporting.{Supports, standing_if}

-- where derivation answers a certificate for a whole program, each condition on the certificate holds with evidence that supports what was offered
abbrev pub SupportedCertificatesHold : Type 0
SupportedCertificatesHold = (o : Offers) (stands : Standing) (p : PlainProgram) → IsWholeProgram p → (c : Claims) → IsDerived o p (Certified c) → Supports o stands p c → Holds stands p c

-- so they hold with the evidence of ranges, or with that of differences where variables that approach each other bound turns
abbrev pub DerivedCertificatesHold : Type 0
DerivedCertificatesHold = (diff : Bool) (p : PlainProgram) → IsWholeProgram p → (c : Claims) → IsDerived (offers_if diff) p (Certified c) → Holds (standing_if diff p c) p c

-- so the certificate is accepted, with its total
abbrev pub DerivedCertificatesAreAccepted : Type 0
DerivedCertificatesAreAccepted = (diff : Bool) (p : PlainProgram) → IsWholeProgram p → (c : Claims) → IsDerived (offers_if diff) p (Certified c) → IsVerdict (standing_if diff p c) p c (Accepted c.total)

-- and every run of the program stays within that total
abbrev pub DerivedCertificatesBoundRuns : Type 0
DerivedCertificatesBoundRuns = (diff : Bool) (p : PlainProgram) → IsWholeProgram p → (c : Claims) → IsDerived (offers_if diff) p (Certified c) → Within p c.total

-- What is read of the text of a derived certificate is accepted too, where the program's functions have names of C: its text is one of
-- a certificate, and whatever certificate has this text is accepted.
abbrev pub DerivedTextsAreAccepted : Type 0
DerivedTextsAreAccepted =
    (p : PlainProgram) → IsWholeProgram p → AreNamed p → (c : Claims) → IsDerived no_offers p (Certified c)
    → IsCertificate c × ((d : Claims) → IsCertificate d → certificate_text d ≡ certificate_text c → IsVerdict (stands_by_ranges p) p d (Accepted c.total))
