-- What may be said, and what a status of 0 promises.
use Rattle.std.proofs.Common.{◌≡◌, ◌≢◌, ℕ, Bool, true, false, List, [], refl, sym, ◌∙◌, ap, subst, arith, Option, Some, None, IfSome, Result, Err}
use Rattle.std.specs.Io.KnownBytes.{Appends}
use Rattle.std.proofs.KnownBytes.{Appends-nil}
use Rattle.p10_base.specs.Gathered.{Gathered}
use Rattle.p10_base.specs.Words.{Text}
use Rattle.p10_world.specs.Files.{Named}
use Rattle.p10_base.specs.declared.report.Bounds.{Bounds}
use Rattle.p10_core.specs.Typed.{PlainProgram}
use Rattle.p10_core.specs.WholePrograms.{IsWholeProgram}
use Rattle.p10_meaning.specs.Runs.{Within}
use Rattle.p10_cert.specs.Claims.{Claims}
use Rattle.p10_pass.specs.Passing as passing
use Rattle.p10_check.specs.declared.verdict.Verdict.TheVariants as verdicts
use Rattle.p10_check.specs.Conditions.{verdict_by}
use Rattle.p10_soundness.specs.Laws.{AcceptedCertificatesBoundRuns}
use Rattle.p10_clean.specs.declared.flaw.Clean.TheVariants.{Yes}
use Rattle.p10_clean.specs.Clean.{cleanness}
use Rattle.p10_clean_soundness.specs.Laws.{CleanCertificatesExcludeUndefined, RunsAreDefined}
use Rattle.p10_diff_evidence.specs.Laws.{StandingIsLawful}
use Rattle.p10_diff_evidence.specs.Standing.{standing_by}
use Rattle.p10_report.specs.Stops.{StopsWithin}
use Rattle.p10_report.proofs.Stopping.{TakesFront-stop}
use Rattle.p10_command.specs.declared.trouble.Trouble.TheVariants.{Read, Memory}
use Rattle.p10_command.specs.declared.gathering.Ungathered.TheVariants as gathering
use Rattle.p10_command.specs.declared.reading.Unread.TheVariants as reading
use Rattle.p10_command.specs.Programs.{HasProgram}
use Rattle.p10_command.specs.Saying.{Saying}
use Rattle.p10_command.specs.Seen.{Seen, SeenInput}
use Rattle.p10_command.specs.Told.{Told, Stopped}
use Rattle.p10_words.specs.declared.command.Command.{Command}
use Rattle.p10_words.specs.declared.command.Command.TheVariants as command
use Rattle.p10_words.specs.declared.command.Usage.{Usage}
use Rattle.p10_words.specs.declared.command.Usage.TheVariants as usage
use Rattle.p10_words.specs.Commands.{IsCommandLine}
use Rattle.p10_words.proofs.OneCommand.{one_command}
use Rattle.p10_judge.specs.declared.judgement.Judgement.TheVariants as judgement
use Rattle.p10_cert.specs.Statements.{Statement}
use Rattle.p10_check.specs.Texts.{claims_in}
use Rattle.p10_front.specs.Digests.{reading_digests}
use Rattle.p10_judge.specs.Judging.{HasVerdict, IsClaimed}
use Rattle.p10_judge.specs.Loading.{Gives}
use Rattle.p10_check_command.specs.declared.command.CheckCommand.{CheckCommand}
use Rattle.p10_derive_command.specs.declared.command.DeriveCommand.{DeriveCommand}
use Rattle.p10_migrate_command.specs.declared.command.MigrateCommand.{MigrateCommand}
use Rattle.p10_recheck_command.specs.declared.command.RecheckCommand.{RecheckCommand}
use Rattle.p10_run_command.specs.declared.command.RunCommand.{RunCommand}
use Rattle.p10_verify_command.specs.declared.command.VerifyCommand.{VerifyCommand}
use Rattle.p10_verify_command.specs.declared.answer.Answer.{Answer}
use Rattle.p10_verify_command.specs.declared.answer.Answer.TheVariants.{Ungathered, AbsentCertificate, Unread, Judged, Unclean, Clean, Trouble}
use Rattle.p10_verify_command.specs.Names.{Names}
use Rattle.p10_verify_command.specs.Answers.{IsRight, setting_of}
use Rattle.p10_verify_command.specs.Told.{SaysRight, status_of}
use Rattle.p10_top.specs.Headline.{BoundsRuns, Verified}
use Rattle.p10_top.specs.Told.{MaySay, SaysFor, for_none, for_command, for_any}
use Rattle.p10_top.specs.private.Unread.{saying_without_command}

-- ## A command

pub told_command : (words : List Text) (c : Command) (seen : Seen) (input : SeenInput) (out_old out_new err_old err_new : Option (List ℕ)) (status : ℕ) → IsCommandLine words c → Told (SaysFor c seen input) out_old out_new err_old err_new status → Told (MaySay words seen input) out_old out_new err_old err_new status
told_command words c seen input out_old out_new err_old err_new status is told = record { saying = told.saying; may = for_command c is told.may; status_is = told.status_is; taken = told.taken }

pub stopped_command : (words : List Text) (c : Command) (seen : Seen) (input : SeenInput) (out_old out_new err_old err_new : Option (List ℕ)) → IsCommandLine words c → Stopped (SaysFor c seen input) out_old out_new err_old err_new → Stopped (MaySay words seen input) out_old out_new err_old err_new
stopped_command words c seen input out_old out_new err_old err_new is stopped = record { saying = stopped.saying; may = for_command c is stopped.may; taken = stopped.taken }

-- the command that a crate obeys
abbrev pub of_check : CheckCommand → Command
of_check check = command.Check check.directories check.json check.sources

abbrev pub of_derive : DeriveCommand → Command
of_derive derive = command.Derive derive.directories derive.version derive.diff derive.sources

abbrev pub of_migrate : MigrateCommand → Command
of_migrate migrate = command.Migrate migrate.directories migrate.certificate migrate.sources

abbrev pub of_verify : VerifyCommand → Command
of_verify verify = command.Verify verify.directories verify.clean verify.certificate verify.sources

abbrev pub of_recheck : RecheckCommand → Command
of_recheck recheck = command.Recheck recheck.directories recheck.since recheck.certificate recheck.sources

abbrev pub of_run : RunCommand → Command
of_run run = command.Run run.directories run.budget run.turns run.deny run.sensors run.sources

-- what is written for that one is written for the command
pub told_of : (c d : Command) (seen : Seen) (input : SeenInput) (out_old out_new err_old err_new : Option (List ℕ)) (status : ℕ) → c ≡ d → Told (SaysFor d seen input) out_old out_new err_old err_new status → Told (SaysFor c seen input) out_old out_new err_old err_new status
told_of c d seen input out_old out_new err_old err_new status is told = subst (λ (e : Command). Told (SaysFor e seen input) out_old out_new err_old err_new status) (sym is) told

pub stopped_of : (c d : Command) (seen : Seen) (input : SeenInput) (out_old out_new err_old err_new : Option (List ℕ)) → c ≡ d → Stopped (SaysFor d seen input) out_old out_new err_old err_new → Stopped (SaysFor c seen input) out_old out_new err_old err_new
stopped_of c d seen input out_old out_new err_old err_new is stopped = subst (λ (e : Command). Stopped (SaysFor e seen input) out_old out_new err_old err_new) (sym is) stopped

-- ## No command

no_out : (fault : Usage) → (saying_without_command fault).out ≡ []
no_out usage.Refused = refl
no_out usage.Memory = refl

told_line : (may : Saying → Type 0) (fault : Usage) (out err_old err_new : Option (List ℕ)) (status : ℕ) → may (saying_without_command fault) → status ≡ (saying_without_command fault).status → Appends err_old err_new (saying_without_command fault).err → Told may out out err_old err_new status
told_line may fault out err_old err_new status may_be is taken = record {
  saying = saying_without_command fault;
  may = may_be;
  status_is = is;
  taken = record { on_out = subst (λ (text : List ℕ). Appends out out text) (sym (no_out fault)) (Appends-nil out); on_err = taken };
}

stopped_line : (may : Saying → Type 0) (fault : Usage) (out err_old err_new : Option (List ℕ)) → may (saying_without_command fault) → StopsWithin err_old err_new (saying_without_command fault).err → Stopped may out out err_old err_new
stopped_line may fault out err_old err_new may_be stopped = record {
  saying = saying_without_command fault;
  may = may_be;
  taken = record { on_out = record { front = []; back = []; parts = no_out fault; taken = Appends-nil out }; on_err = TakesFront-stop err_old err_new (saying_without_command fault).err stopped };
}

may_say : (words : List Text) (seen : Seen) (input : SeenInput) (fault : Usage) (r : Result Command Usage) → r ≡ Err fault → (r ≡ Err usage.Refused → (c : Command) → IsCommandLine words c → ⊥) → MaySay words seen input (saying_without_command fault)
may_say words seen input usage.Refused r is none = for_none (none is) refl
may_say words seen input usage.Memory r is none = for_any refl

pub told_unread : (words : List Text) (seen : Seen) (input : SeenInput) (fault : Usage) (r : Result Command Usage) (out err_old err_new : Option (List ℕ)) (status : ℕ) → r ≡ Err fault → (r ≡ Err usage.Refused → (c : Command) → IsCommandLine words c → ⊥) →
    status ≡ (saying_without_command fault).status → Appends err_old err_new (saying_without_command fault).err → Told (MaySay words seen input) out out err_old err_new status
told_unread words seen input fault r out err_old err_new status is none status_is taken = told_line (MaySay words seen input) fault out err_old err_new status (may_say words seen input fault r is none) status_is taken

pub stopped_unread : (words : List Text) (seen : Seen) (input : SeenInput) (fault : Usage) (r : Result Command Usage) (out err_old err_new : Option (List ℕ)) → r ≡ Err fault → (r ≡ Err usage.Refused → (c : Command) → IsCommandLine words c → ⊥) →
    StopsWithin err_old err_new (saying_without_command fault).err → Stopped (MaySay words seen input) out out err_old err_new
stopped_unread words seen input fault r out err_old err_new is none stopped = stopped_line (MaySay words seen input) fault out err_old err_new (may_say words seen input fault r is none) stopped

-- what isn't read as a command isn't accepted
pub unread_is_none : (fault : Usage) (status : ℕ) → (status ≢ 6 → status ≡ (saying_without_command fault).status) → status ≡ 0 → ⊥
unread_is_none usage.Refused status is zero = omega (arith, zero, is (λ six. omega (arith, six, zero)))
unread_is_none usage.Memory status is zero = omega (arith, zero, is (λ six. omega (arith, six, zero)))

-- ## The headline

-- the bounds of a certificate that is accepted are its total
bounds_are : (total bounds : Bounds) (first : Option passing.Failing) → verdicts.Accepted bounds ≡ verdict_by total first → bounds ≡ total
bounds_are total bounds None is = cc
bounds_are total bounds (Some e) is = absurd (cc)

stays_within : AcceptedCertificatesBoundRuns → StandingIsLawful → (p : PlainProgram) → IsWholeProgram p → (s : Statement) (bounds : Bounds) → HasVerdict p s (verdicts.Accepted bounds) → Within p s.ending.total
stays_within law lawful p whole s bounds v =
    subst (λ (b : Bounds). Within p b) (bounds_are s.ending.total bounds v.is.first v.is.is) (law p whole (standing_by p v.ranked.ranks) (lawful p whole v.ranked.ranks) (claims_in s) bounds v.is)

not_both : {A : Type 0} (b : Bool) → b ≡ false → b ≡ true → A
not_both b off on = absurd (cc (off, on))

stays_defined : CleanCertificatesExcludeUndefined → (p : PlainProgram) → IsWholeProgram p → (s : Statement) (bounds : Bounds) → HasVerdict p s (verdicts.Accepted bounds) → Yes ≡ cleanness p (claims_in s) → RunsAreDefined p s.ending.total
stays_defined law p whole s bounds v is_clean =
    subst (λ (b : Bounds). RunsAreDefined p b) (bounds_are s.ending.total bounds v.is.first v.is.is) (law p whole (standing_by p v.ranked.ranks) (claims_in s) bounds v.is (sym is_clean))

-- a certificate that is accepted for the program of the sources bounds every run
bounds_runs : AcceptedCertificatesBoundRuns → StandingIsLawful → (files : List Named) (names : Names) (g : Gathered) (p : PlainProgram) (bytes : List ℕ) (bounds : Bounds) → (has : HasProgram (setting_of (Some files) names) g p) → Gives (Some files) names.certificate bytes
    → (claimed : IsClaimed p (reading_digests has.reading).funcs bytes (verdicts.Accepted bounds)) → (names.clean ≡ true → RunsAreDefined p claimed.certificate.ending.total) → BoundsRuns names files
bounds_runs law lawful files names g p bytes bounds has given claimed defined = record {
  sources = g;
  gathers = has.gathers;
  reading = has.reading;
  program = p;
  read = has.read;
  whole = has.whole;
  certificate = claimed.certificate;
  certificate_given = given ∙ ap Some claimed.read.text_is;
  is_certificate = claimed.read.is_certificate;
  words = claimed.words;
  within = stays_within law lawful p has.whole claimed.certificate bounds claimed.has;
  defined = defined;
}

accepted : AcceptedCertificatesBoundRuns → StandingIsLawful → CleanCertificatesExcludeUndefined → (files : List Named) (before after : ℕ) (names : Names) (g : Gathered) (answer : Answer) → status_of answer ≡ 0 → IsRight (record { held = Some files; faults_before = before; faults_after = after }) names g answer → BoundsRuns names files
accepted law lawful clean files before after names g (Judged (judgement.Accepted bounds)) zero (p, has, judged, enough) = bounds_runs law lawful files names g p judged.bytes bounds has judged.given judged.weighed (λ asked. not_both names.clean enough asked)
accepted law lawful clean files before after names g (Clean bounds) zero tried = bounds_runs law lawful files names g tried.program tried.bytes bounds tried.has tried.given tried.accepted.claimed
    (λ asked. stays_defined clean tried.program tried.has.whole tried.accepted.claimed.certificate bounds tried.accepted.claimed.has tried.accepted.is)
accepted law lawful clean files before after names g (Unclean c at) zero right = absurd (omega (arith, zero))
accepted law lawful clean files before after names g (Judged (judgement.Failing k at)) zero right = absurd (omega (arith, zero))
accepted law lawful clean files before after names g (Judged (judgement.Stale at kept found)) zero right = absurd (omega (arith, zero))
accepted law lawful clean files before after names g (Judged judgement.TooLong) zero right = absurd (omega (arith, zero))
accepted law lawful clean files before after names g (Judged (judgement.BadCertificate line)) zero right = absurd (omega (arith, zero))
accepted law lawful clean files before after names g (Ungathered (gathering.AbsentRoot place)) zero right = absurd (omega (arith, zero))
accepted law lawful clean files before after names g (Ungathered (gathering.Refused refusal)) zero right = absurd (omega (arith, zero))
accepted law lawful clean files before after names g (Ungathered (gathering.Over limit)) zero right = absurd (omega (arith, zero))
accepted law lawful clean files before after names g AbsentCertificate zero right = absurd (omega (arith, zero))
accepted law lawful clean files before after names g (Unread (reading.Refused refusal)) zero right = absurd (omega (arith, zero))
accepted law lawful clean files before after names g (Unread (reading.Over limit)) zero right = absurd (omega (arith, zero))
accepted law lawful clean files before after names g (Trouble Read) zero right = absurd (omega (arith, zero))
accepted law lawful clean files before after names g (Trouble Memory) zero right = absurd (omega (arith, zero))

says_zero : AcceptedCertificatesBoundRuns → StandingIsLawful → CleanCertificatesExcludeUndefined → (files : List Named) (before after : ℕ) (names : Names) (saying : Saying) → SaysRight names (record { held = Some files; faults_before = before; faults_after = after }) saying → saying.status ≡ 0 → BoundsRuns names files
says_zero law lawful clean files before after names saying says zero = accepted law lawful clean files before after names says.sources says.answer (ap (λ (s : Saying). s.status) (sym says.said) ∙ zero) says.is_right

-- what is said with status 0 to `verify` is that its certificate is accepted
by_line : AcceptedCertificatesBoundRuns → StandingIsLawful → CleanCertificatesExcludeUndefined → (words : List Text) (files : List Named) (before after : ℕ) (input : SeenInput) (saying : Saying) → MaySay words (record { held = Some files; faults_before = before; faults_after = after }) input saying → saying.status ≡ 0 → Verified words files
by_line law lawful clean words files before after input saying (for_none none said) zero names is = absurd (none (command.Verify names.directories names.clean names.certificate names.sources) is)
by_line law lawful clean words files before after input saying (for_command c line says) zero names is =
    says_zero law lawful clean files before after names saying
    (subst (λ (d : Command). SaysFor d (record { held = Some files; faults_before = before; faults_after = after }) input saying) (one_command words c (command.Verify names.directories names.clean names.certificate names.sources) line is) says) zero
by_line law lawful clean words files before after input saying (for_any said) zero names is = absurd (omega (arith, ap (λ (s : Saying). s.status) said, zero))

pub verified : AcceptedCertificatesBoundRuns → StandingIsLawful → CleanCertificatesExcludeUndefined → (held : Option (List Named)) (before after : ℕ) (words : List Text) (input : SeenInput) (out_old out_new err_old err_new : Option (List ℕ)) (status : ℕ) → (status ≢ 6 → Told (MaySay words (record { held = held; faults_before = before; faults_after = after }) input) out_old out_new err_old err_new status) →
    status ≡ 0 → IfSome held (Verified words)
verified law lawful clean None before after words input out_old out_new err_old err_new status told zero = tt
verified law lawful clean (Some files) before after words input out_old out_new err_old err_new status told zero =
    let t = told (λ six. omega (arith, zero, six)) in
    by_line law lawful clean words files before after input t.saying t.may (sym t.status_is ∙ zero)
