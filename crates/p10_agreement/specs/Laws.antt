-- On what `derive` and `verify` agree.
use Rattle.std.specs.Prelude.{ℕ, ◌≡◌, ◌≢◌, true, false, List, [], Some, IsSome}
use Rattle.p10_base.specs.declared.report.Bounds.{Bounds}
use Rattle.p10_base.specs.Gathered.{Gathered}
use Rattle.p10_base.specs.Words.{Text}
use Rattle.p10_world.specs.Files.{Named, file_of}
use Rattle.p10_core.specs.Typed.{PlainProgram}
use Rattle.p10_report.specs.Lines.{accepted_line}
use Rattle.p10_cert.specs.Claims.{Claims}
use Rattle.p10_cert.specs.Statements.{Statement, IsStatement, statement_text}
use Rattle.p10_check.specs.Texts.{claims_in}
use Rattle.p10_expand.specs.declared.place.Place.{Place}
use Rattle.p10_expand.specs.declared.place.Place.TheVariants.{File}
use Rattle.p10_expand.specs.Gathering.{Setting, Gathers}
use Rattle.p10_expand.specs.Setting.{setting}
use Rattle.p10_command.specs.Saying.{Saying}
use Rattle.p10_command.specs.Seen.{Seen}
use Rattle.p10_approach.specs.Offers.{offers_if}
use Rattle.p10_finder.specs.Answers.{Certified, IsDerived}
use Rattle.p10_derive_command.specs.declared.command.DeriveCommand.{DeriveCommand}
use Rattle.p10_command.specs.Programs.{HasProgram}
use Rattle.p10_derive_command.specs.Answers as derive
use Rattle.p10_derive_command.specs.Laws.{IsTextInVersion}
use Rattle.p10_verify_command.specs.Names.{Names}
use Rattle.p10_verify_command.specs.Told as verify
use Rattle.p10_agreement.specs.Looking.{IsLookedFor, IsCandidate, AreAsBefore}

-- ## Gathering

-- files that hold the same at each name at which they are looked for are gathered alike
abbrev pub GatheringGoesByWhatItLooksFor : Type 0
GatheringGoesByWhatItLooksFor =
    (sources directories : List Text) (files later : List Named) (g : Gathered) → AreAsBefore sources directories files later
    → Gathers (setting (Some files) sources directories) g → Gathers (setting (Some later) sources directories) g

-- files that differ from these at one name alone, at which no file of the sources is looked for, are as before for these sources
abbrev pub OneOtherFileMayDiffer : Type 0
OneOtherFileMayDiffer =
    (sources directories : List Text) (files later : List Named) (other : Text) → ((name : Text) → name ≢ other → file_of name later ≡ file_of name files)
    → (IsLookedFor (setting (Some files) sources directories) (File other) → ⊥) → AreAsBefore sources directories files later

-- a file is looked for at no other places than those of the roots and of the include lines of the gathered files
abbrev pub OnlyCandidatesAreLookedFor : Type 0
OnlyCandidatesAreLookedFor = (s : Setting) → IsSome s.held → (g : Gathered) → Gathers s g → (place : Place) → IsLookedFor s place → IsCandidate s g place

-- ## Certificates

-- what is seen of files that are told
abbrev pub seen_files : List Named → ℕ → ℕ → Seen
seen_files files before after = record { held = Some files; faults_before = before; faults_after = after }

-- what is said of a certificate that is accepted with these bounds
abbrev pub acceptance : Bounds → Saying
acceptance bounds = record { status = 0; out = accepted_line bounds; err = [] }

-- it is right to say to `verify` with these names that the certificate is accepted with these bounds, and nothing else is, unless a
-- read fails or memory runs out
pub record IsVerified (names : Names) (files : List Named) (bounds : Bounds) : Type 0 where
  pub right : (before after : ℕ) → verify.SaysRight names (seen_files files before after) (acceptance bounds)
  pub only : (before after : ℕ) (saying : Saying) → verify.SaysRight names (seen_files files before after) saying → saying.status ≢ 5 → saying.status ≢ 7 → saying ≡ acceptance bounds

-- the names of the command `verify` for the sources of a command `derive`, with this certificate, which need not be clean
abbrev pub with_certificate : DeriveCommand → Text → Names
with_certificate command certificate = record { directories = command.directories; clean = false; certificate = certificate; sources = command.sources }

-- the later files hold this text under the name of the certificate, and for the sources all that the earlier ones hold
pub record HaveCertificate (names : Names) (text : List ℕ) (files later : List Named) : Type 0 where
  pub given : file_of names.certificate later ≡ Some text
  pub sources : AreAsBefore names.sources names.directories files later

-- a text is that of a certificate with these claims, and a file of it is accepted by `verify` as long as the sources are as they were
-- when `derive` read them of these files, under whatever name it lies
pub record IsVerifiedText (command : DeriveCommand) (files : List Named) (claims : Claims) (text : List ℕ) : Type 0 where
  pub certificate : Statement
  pub is_certificate : IsStatement certificate
  pub claims_are : claims_in certificate ≡ claims
  pub text_is : text ≡ statement_text certificate
  pub verified : (name : Text) (later : List Named) → HaveCertificate (with_certificate command name) text files later → IsVerified (with_certificate command name) later claims.total

-- where variables that approach each other may bound turns, a text with ranks is asked for
abbrev pub AsksFully : DeriveCommand → Type 0
AsksFully command = command.diff ≡ true → command.version ≡ 2

-- so is the text of what is derived of the program of a command's sources, in the version that is asked for
abbrev pub DerivedCertificatesAreVerified : Type 0
DerivedCertificatesAreVerified =
    (command : DeriveCommand) (files : List Named) (g : Gathered) (p : PlainProgram) (c : Claims) (text : List ℕ) → HasProgram (setting (Some files) command.sources command.directories) g p → IsDerived (offers_if command.diff) p (Certified c)
    → AsksFully command → IsTextInVersion command.version command.diff (setting (Some files) command.sources command.directories) g p c text → IsVerifiedText command files c text

-- and so is what is said to `derive` on the output with status 0
abbrev pub DerivedTextsAreVerified : Type 0
DerivedTextsAreVerified =
    (command : DeriveCommand) (files : List Named) (before after : ℕ) (saying : Saying) → AsksFully command → derive.SaysRight command (seen_files files before after) saying → saying.status ≡ 0
    → (c : Claims) × IsVerifiedText command files c saying.out
