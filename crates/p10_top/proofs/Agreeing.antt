-- What `derive` has written with status 0, `verify` accepts.
use Rattle.std.proofs.Common.{Bool, ◌≡◌, ◌≢◌, ℕ, false, List, ap, sym, subst, arith, Some}
use Rattle.p10_base.specs.Words.{Text}
use Rattle.p10_world.specs.Files.{Named}
use Rattle.p10_cert.specs.Claims.{Claims}
use Rattle.p10_agreement.specs.Laws.{HaveCertificate, IsVerified, IsVerifiedText, with_certificate, DerivedTextsAreVerified}
use Rattle.p10_command.specs.Saying.{Saying}
use Rattle.p10_command.specs.Seen.{Seen, SeenInput}
use Rattle.p10_derive_command.specs.Answers as derives
use Rattle.p10_verify_command.specs.Names.{Names}
use Rattle.p10_verify_command.specs.Told as verifies
use Rattle.p10_words.specs.declared.command.Command.{Command}
use Rattle.p10_words.specs.declared.command.Command.TheVariants as command
use Rattle.p10_words.proofs.OneCommand.{one_command}
use Rattle.p10_top.specs.Commands.{IsDeriveLine, IsVerifyLine}
use Rattle.p10_top.specs.Laws.{VerifyAcceptsWhatDeriveWrites}
use Rattle.p10_top.proofs.Deriving.{asks_fully}
use Rattle.p10_top.specs.Told.{MaySay, SaysFor, for_none, for_command, for_any}

abbrev pub seen_files : List Named → ℕ → ℕ → Seen
seen_files files before after = record { held = Some files; faults_before = before; faults_after = after }

-- what may be said with status 0 to `derive` is right to say
says_derived : (words directories : List Text) (version : ℕ) (diff : Bool) (sources : List Text) → IsDeriveLine words directories version diff sources → (seen : Seen) (input : SeenInput) (saying : Saying) → MaySay words seen input saying → saying.status ≡ 0
    → derives.SaysRight (record { directories = directories; version = version; diff = diff; sources = sources }) seen saying
says_derived words directories version diff sources line seen input saying (for_none none said) zero = absurd (none (command.Derive directories version diff sources) line)
says_derived words directories version diff sources line seen input saying (for_command c is says) zero = subst (λ (d : Command). SaysFor d seen input saying) (one_command words c (command.Derive directories version diff sources) is line) says
says_derived words directories version diff sources line seen input saying (for_any said) zero = absurd (omega (arith, ap (λ (s : Saying). s.status) said, zero))

-- what may be said to `verify` is right to say, unless memory runs out
pub says_verified : (words : List Text) (names : Names) → IsVerifyLine words names → (seen : Seen) (input : SeenInput) (saying : Saying) → MaySay words seen input saying → saying.status ≢ 7 → verifies.SaysRight names seen saying
says_verified words names line seen input saying (for_none none said) seven = absurd (none (command.Verify names.directories names.clean names.certificate names.sources) line)
says_verified words names line seen input saying (for_command c is says) seven =
    subst (λ (d : Command). SaysFor d seen input saying) (one_command words c (command.Verify names.directories names.clean names.certificate names.sources) is line) says
says_verified words names line seen input saying (for_any said) seven = absurd (seven (ap (λ (s : Saying). s.status) said))

-- a text that is verified is accepted, where the certificate need not be clean
accepted : (names : Names) (version : ℕ) (diff : Bool) (files later : List Named) (before after : ℕ) (text : List ℕ) (saying : Saying) → names.clean ≡ false → (c : Claims) × IsVerifiedText (record { directories = names.directories; version = version; diff = diff; sources = names.sources }) files c text
    → HaveCertificate names text files later → verifies.SaysRight names (seen_files later before after) saying → saying.status ≢ 5 → saying.status ≢ 7 → saying.status ≡ 0
accepted names version diff files later before after text saying unasked (c, verified) have says five seven =
    let same : with_certificate (record { directories = names.directories; version = version; diff = diff; sources = names.sources }) names.certificate ≡ names =
    λ i. record { directories = names.directories; clean = sym unasked i; certificate = names.certificate; sources = names.sources } in
    let given = subst (λ (n : Names). HaveCertificate n text files later) (sym same) have in
    let is = verified.verified names.certificate later given in
    ap (λ (s : Saying). s.status) ((subst (λ (n : Names). IsVerified n later c.total) same is).only before after saying says five seven)

pub accepts_what_is_written : DerivedTextsAreVerified → VerifyAcceptsWhatDeriveWrites
accepts_what_is_written texts derive verify version diff names derive_line verify_line unasked files later before after before_later after_later input input_later written said may zero have may_later five seven =
    accepted names version diff files later before_later after_later written.out said unasked
    (texts (record { directories = names.directories; version = version; diff = diff; sources = names.sources }) files before after written (asks_fully derive names.directories version diff names.sources derive_line) (says_derived derive names.directories version diff names.sources derive_line (seen_files files before after) input written may zero) zero) have
    (says_verified verify names verify_line (seen_files later before_later after_later) input_later said may_later seven) five seven
