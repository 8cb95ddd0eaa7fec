-- What holds of certificates that are derived, and of their texts.
use Rattle.std.specs.Prelude.{◌≡◌, Result, IfOk, IfErr}
use Rattle.p10_core.specs.Typed.{PlainProgram}
use Rattle.p10_core.specs.WholePrograms.{IsWholeProgram}
use Rattle.p10_cert.specs.declared.claims.Cert.{Cert}
use Rattle.p10_cert.specs.declared.fault.CertFault.{CertFault}
use Rattle.p10_cert.specs.declared.fault.CertFault.TheVariants.{Memory}
use Rattle.p10_cert.specs.Claims.{Claims, claims_of}
use Rattle.p10_cert.specs.Certificate.{IsCertificate, certificate_text}
use Rattle.p10_cert.specs.Reading.{ReadsAs}
use Rattle.p10_approach.specs.Offers.{Offers, AreOffers}
use Rattle.p10_finder.specs.Answers.{AreClaims, PassesSum, PassesText, IsCertified}
use Rattle.p10_derived_texts.specs.Approaching.{AreAllFew}
use Rattle.p10_derived_texts.specs.Naming.{AreNamed}

-- the claims of a whole program with names of C are those of a certificate, where no sum and no number of turns exceeds the greatest
-- that is allowed (M9), and the text isn't longer than is allowed (M10), whatever is offered for loops
abbrev pub ClaimsHaveText : Type 0
ClaimsHaveText = (o : Offers) → AreOffers o → (p : PlainProgram) → IsWholeProgram p → AreNamed p → (c : Claims) → AreClaims o p c → (PassesSum p c → ⊥) → (PassesText c → ⊥) → IsCertificate c

-- so is what derivation answers of such a program
abbrev pub DerivedCertificatesHaveText : Type 0
DerivedCertificatesHaveText = (o : Offers) → AreOffers o → (p : PlainProgram) → IsWholeProgram p → AreNamed p → (c : Claims) → IsCertified o p c → IsCertificate c

-- what is read of its text are the claims, unless memory runs out
abbrev pub DerivedTextsAreReadBack : Type 0
DerivedTextsAreReadBack =
    (o : Offers) → AreOffers o → (p : PlainProgram) → IsWholeProgram p → AreNamed p → (c : Claims) → IsCertified o p c → (result : Result Cert CertFault) → ReadsAs (certificate_text c) result
    → IfOk result (λ d. claims_of d ≡ c) × IfErr result (λ e. e ≡ Memory)

-- numbers that name its functions, their variables and their loops are those that a certificate may have
abbrev pub DerivedNumbersAreSmall : Type 0
DerivedNumbersAreSmall = (o : Offers) → AreOffers o → (p : PlainProgram) → IsWholeProgram p → AreNamed p → (c : Claims) → IsCertified o p c → AreAllFew o p c
