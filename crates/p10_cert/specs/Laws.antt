-- What holds of certificates and their texts.
use Rattle.std.specs.Prelude.{◌≡◌, ℕ, Bool, true, List, Some, Result, IfOk, IfErr}
use Rattle.p10_cert.specs.declared.claims.Cert.{Cert}
use Rattle.p10_cert.specs.declared.fault.CertFault.{CertFault}
use Rattle.p10_cert.specs.declared.fault.CertFault.TheVariants.{Memory}
use Rattle.p10_cert.specs.declared.sealed.Cert2.{Cert2}
use Rattle.p10_cert.specs.Claims.{Claims, claims_of}
use Rattle.p10_cert.specs.Certificate.{IsCertificate, certificate_text}
use Rattle.p10_cert.specs.Reading.{Fits, ReadsAs, ReadsAsSealed, version_of}
use Rattle.p10_cert.specs.Records.{IsNextRecord}
use Rattle.p10_cert.specs.Sealed.{statement_of}
use Rattle.p10_cert.specs.Statements.{Entry, Statement, IsEntry, entry_text, IsStatement, statement_text, is_there, plain_statement}
use Rattle.p10_cert.specs.WrongLines.{IsFirstWrongLine, IsFirstWrongSealed, IsFirstWrong}

-- the text of a certificate of version 1 determines its claims
abbrev pub TextTellsClaims : Type 0
TextTellsClaims = (b c : Claims) → IsCertificate b → IsCertificate c → certificate_text b ≡ certificate_text c → b ≡ c

-- the text of a certificate determines what it says, and its version
abbrev pub TextTellsStatement : Type 0
TextTellsStatement = (s t : Statement) → IsStatement s → IsStatement t → statement_text s ≡ statement_text t → s ≡ t

-- claims alone are a certificate in the one way exactly where they are in the other, and have one text
abbrev pub ClaimsAreStatement : Type 0
ClaimsAreStatement = (c : Claims) → (IsCertificate c → IsStatement (plain_statement c)) × (IsStatement (plain_statement c) → IsCertificate c) × (statement_text (plain_statement c) ≡ certificate_text c)

-- the text of a function determines what is said of it
abbrev pub TextTellsFunction : Type 0
TextTellsFunction = (sealed : Bool) (e g : Entry) → IsEntry sealed e → IsEntry sealed g → entry_text e ≡ entry_text g → e ≡ g

-- what is read of the text of a certificate that isn't too long is the certificate, unless memory runs out
abbrev pub ReadsWhatIsWritten : Type 0
ReadsWhatIsWritten = (c : Claims) (result : Result Cert CertFault) → IsCertificate c → Fits (certificate_text c) → ReadsAs (certificate_text c) result
    → IfOk result (λ d. claims_of d ≡ c) × IfErr result (λ e. e ≡ Memory)

-- the same of certificates of version 2
abbrev pub ReadsWhatIsSealed : Type 0
ReadsWhatIsSealed = (s : Statement) (result : Result Cert2 CertFault) → IsStatement s → is_there s.ending.outside ≡ true → Fits (statement_text s) → ReadsAsSealed (statement_text s) result
    → IfOk result (λ d. statement_of d ≡ s) × IfErr result (λ e. e ≡ Memory)

-- at most one line of a text is the first that no certificate of version 1 has
abbrev pub HasOneWrongLine : Type 0
HasOneWrongLine = (text : List ℕ) (m n : ℕ) → IsFirstWrongLine text m → IsFirstWrongLine text n → m ≡ n

-- at most one is the first that no certificate has, of whichever version
abbrev pub HasOneWrongLineOfBoth : Type 0
HasOneWrongLineOfBoth = (text : List ℕ) (m n : ℕ) → IsFirstWrong text m → IsFirstWrong text n → m ≡ n

-- a text that begins as one of version 1 has the wrong line that it has for version 1 alone, and so for version 2
abbrev pub VersionsShareWrongLines : Type 0
VersionsShareWrongLines = (text : List ℕ) (n : ℕ) → IsFirstWrong text n
    → (version_of text ≡ Some 1 → IsFirstWrongLine text n) × (version_of text ≡ Some 2 → IsFirstWrongSealed text n)

-- no line of a certificate of version 1 is wrong
abbrev pub CertificateHasNoWrongLine : Type 0
CertificateHasNoWrongLine = (c : Claims) (n : ℕ) → IsCertificate c → IsFirstWrongLine (certificate_text c) n → ⊥

-- no line of a certificate is wrong, of whichever version
abbrev pub StatementHasNoWrongLine : Type 0
StatementHasNoWrongLine = (s : Statement) (n : ℕ) → IsStatement s → IsFirstWrong (statement_text s) n → ⊥

-- one record at most comes next
abbrev pub OneRecordComesNext : Type 0
OneRecordComesNext = (text : List ℕ) (given : List Entry) (e g : Entry) (part other : List ℕ) (m n : ℕ) → IsNextRecord text given e part m → IsNextRecord text given g other n
    → (e ≡ g) × (part ≡ other) × (m ≡ n)
