-- What a status of 0 promises of `derive`.
use Rattle.std.proofs.Common.{Bool, true, false, ◌≡◌, ◌≢◌, ℕ, List, sym, ◌∙◌, ap, subst, arith, Option, Some, None, IfSome}
use Rattle.std.specs.Io.KnownBytes.{Appends}
use Rattle.p10_base.specs.Words.{Text}
use Rattle.p10_world.specs.Files.{Named}
use Rattle.p10_acceptance.specs.Laws.{DerivedCertificatesAreAccepted, DerivedCertificatesBoundRuns}
use Rattle.p10_agreement.specs.Laws.{DerivedCertificatesAreVerified}
use Rattle.p10_command.specs.Saying.{Saying}
use Rattle.p10_command.specs.Seen.{Seen, SeenInput}
use Rattle.p10_command.specs.Told.{Told}
use Rattle.p10_words.specs.declared.command.Command.{Command}
use Rattle.p10_words.specs.declared.command.Command.TheVariants as command
use Rattle.p10_words.specs.CommandLines.{HasForm}
use Rattle.p10_words.proofs.OneCommand.{one_command}
use Rattle.p10_derive_command.specs.Laws.{TellsCertificate}
use Rattle.p10_derive_command.proofs.Succeeding.{success}
use Rattle.p10_top.specs.Commands.{IsDeriveLine}
use Rattle.p10_top.specs.Headline.{DerivesBounds, TellsBounds}
use Rattle.p10_top.specs.Told.{MaySay, SaysFor, for_none, for_command, for_any}

abbrev seen_files : List Named → ℕ → ℕ → Seen
seen_files files before after = record { held = Some files; faults_before = before; faults_after = after }

-- a certificate that is written is accepted, and so it bounds every run
bounds : DerivedCertificatesBoundRuns → DerivedCertificatesAreAccepted → DerivedCertificatesAreVerified → (directories : List Text) (version : ℕ) (diff : Bool) (roots : List Text) (files : List Named) (before after : ℕ) (saying : Saying) (out_old out_new : Option (List ℕ))
    → (diff ≡ true → version ≡ 2) → TellsCertificate (record { directories = directories; version = version; diff = diff; sources = roots }) (seen_files files before after) saying → Appends out_old out_new saying.out → TellsBounds directories version diff roots files out_old out_new
bounds bounding accepting verifying directories version diff roots files before after saying out_old out_new full told taken = record {
  sources = told.files;
  gathers = told.gathers.gathers;
  reading = told.gathers.reading;
  program = told.program;
  read = told.gathers.read;
  whole = told.gathers.whole;
  claims = told.claims;
  derived = told.derived;
  text = saying.out;
  written = told.on_out;
  taken = taken;
  accepted = accepting diff told.program told.gathers.whole told.claims told.derived;
  within = bounding diff told.program told.gathers.whole told.claims told.derived;
  verified = verifying (record { directories = directories; version = version; diff = diff; sources = roots }) files told.files told.program told.claims saying.out told.gathers told.derived full told.on_out;
}

-- ranks are asked for in version 2 alone
form_full : (cert : Option Text) (given : Bool) (version : ℕ) (diff : Bool) → HasForm cert given version diff → diff ≡ true → version ≡ 2
form_full cert false version diff h asked = absurd (let w = sym asked ∙ h.1 in cc)
form_full cert true version diff h asked = h.1

pub asks_fully : (words directories : List Text) (version : ℕ) (diff : Bool) (roots : List Text) → IsDeriveLine words directories version diff roots → diff ≡ true → version ≡ 2
asks_fully words directories version diff roots is asked = let derive = is.rest.1 in form_full _ _ version diff derive.has_form asked

-- what is said with status 0 to `derive` is such a certificate
by_line : DerivedCertificatesBoundRuns → DerivedCertificatesAreAccepted → DerivedCertificatesAreVerified → (words : List Text) (files : List Named) (before after : ℕ) (input : SeenInput) (saying : Saying) (out_old out_new : Option (List ℕ))
    → MaySay words (seen_files files before after) input saying → saying.status ≡ 0 → Appends out_old out_new saying.out → DerivesBounds words files out_old out_new
by_line bounding accepting verifying words files before after input saying out_old out_new (for_none none said) zero taken directories version diff roots is = absurd (none (command.Derive directories version diff roots) is)
by_line bounding accepting verifying words files before after input saying out_old out_new (for_command c line says) zero taken directories version diff roots is =
    bounds bounding accepting verifying directories version diff roots files before after saying out_old out_new (asks_fully words directories version diff roots is)
    (success (record { directories = directories; version = version; diff = diff; sources = roots }) (seen_files files before after) saying
    (subst (λ (d : Command). SaysFor d (seen_files files before after) input saying) (one_command words c (command.Derive directories version diff roots) line is) says) zero) taken
by_line bounding accepting verifying words files before after input saying out_old out_new (for_any said) zero taken directories version diff roots is = absurd (omega (arith, ap (λ (s : Saying). s.status) said, zero))

pub derived : DerivedCertificatesBoundRuns → DerivedCertificatesAreAccepted → DerivedCertificatesAreVerified → (held : Option (List Named)) (before after : ℕ) (words : List Text) (input : SeenInput) (out_old out_new err_old err_new : Option (List ℕ)) (status : ℕ)
    → (status ≢ 6 → Told (MaySay words (record { held = held; faults_before = before; faults_after = after }) input) out_old out_new err_old err_new status) → status ≡ 0 → IfSome held (λ files. DerivesBounds words files out_old out_new)
derived bounding accepting verifying None before after words input out_old out_new err_old err_new status told zero = tt
derived bounding accepting verifying (Some files) before after words input out_old out_new err_old err_new status told zero =
    let t = told (λ six. omega (arith, zero, six)) in
    by_line bounding accepting verifying words files before after input t.saying out_old out_new t.may (sym t.status_is ∙ zero) t.taken.on_out
