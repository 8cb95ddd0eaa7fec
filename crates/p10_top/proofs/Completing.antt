-- An accepted certificate is answered with 0, and so are sources of which one is derived, unless something fails.
use Rattle.std.proofs.Common.{◌≡◌, ◌≢◌, ℕ, ◌≤◌, eqb, Bool, true, false, List, length, refl, sym, ◌∙◌, ap, subst, arith, Option, Some, None, IfSome}
use Rattle.std.specs.Prelude.{nat_le, if◌then◌else◌}
use Rattle.std.proofs.lemmas.Bool.{eqb-true, eq-eqb}
use Rattle.std.proofs.lemmas.Bool.Decides.{nat_tests}
use Rattle.p10_base.specs.declared.report.TheConstants.Limit.{MOST_CERTIFICATE_BYTES}
use Rattle.p10_base.specs.Words.{Text}
use Rattle.p10_world.specs.Files.{Named}
use Rattle.p10_cert.specs.Certificate.{certificate_text}
use Rattle.p10_cert.specs.Statements.{statement_text}
use Rattle.p10_check.specs.declared.verdict.Verdict.TheVariants as verdicts
use Rattle.p10_finder.specs.Answers.{Certified}
use Rattle.p10_expand.specs.Setting.{setting}
use Rattle.p10_front.specs.Digests.{reading_digests}
use Rattle.p10_command.specs.Saying.{Saying, text_saying}
use Rattle.p10_command.specs.Seen.{Seen, SeenInput}
use Rattle.p10_command.specs.Told.{Told}
use Rattle.p10_judge.specs.declared.judgement.Judgement.TheVariants as judgement
use Rattle.p10_judge.specs.Judging.{IsClaimed}
use Rattle.p10_seal.specs.Saying.{sealed_saying}
use Rattle.p10_seal.specs.Sealing.{within_limit}
use Rattle.p10_derive_command.specs.Answers as derives
use Rattle.p10_derive_command.specs.Laws.{IsTextInVersion, alone, sealed, DeriveSaysOneThing}
use Rattle.p10_verify_command.specs.declared.answer.Answer.{Answer}
use Rattle.p10_verify_command.specs.declared.answer.Answer.TheVariants.{Judged, Clean}
use Rattle.p10_verify_command.specs.Answers.{IsRight}
use Rattle.p10_verify_command.specs.Laws.{VerifySaysOneThing}
use Rattle.p10_verify_command.specs.Names.{Names}
use Rattle.p10_verify_command.specs.Told.{status_of, saying_of, SaysRight}
use Rattle.p10_words.specs.declared.command.Command.{Command}
use Rattle.p10_words.specs.declared.command.Command.TheVariants as command
use Rattle.p10_words.proofs.OneCommand.{one_command}
use Rattle.p10_top.specs.Commands.{IsDeriveLine}
use Rattle.p10_top.specs.Completeness.{SucceedsUnlessFailing, succeeds, read_failed, write_failed, memory_out, HasAccepted, AcceptsAccepted, HasDerived, DerivesDerived}
use Rattle.p10_top.specs.Told.{MaySay, SaysFor, for_none, for_command, for_any}
use Rattle.p10_top.proofs.Agreeing.{seen_files, says_verified}
use Rattle.p10_derive_command.specs.Ranks.{ranks_if, ranked_text}

-- ## Statuses

-- whatever may be said has status 0, but for failed reads and memory that is out
abbrev IsZero : (Saying → Type 0) → Type 0
IsZero may = (saying : Saying) → may saying → saying.status ≢ 5 → saying.status ≢ 7 → saying.status ≡ 0

by_status : (may : Saying → Type 0) (out_old out_new err_old err_new : Option (List ℕ)) (status : ℕ) → (status ≢ 6 → Told may out_old out_new err_old err_new status) → IsZero may → SucceedsUnlessFailing status
by_status may out_old out_new err_old err_new status told zero = by_six (eqb status 6) refl
  where
    by_seven : Told may out_old out_new err_old err_new status → (status ≡ 5 → ⊥) → (b : Bool) → eqb status 7 ≡ b → SucceedsUnlessFailing status
    by_seven t five true e = subst SucceedsUnlessFailing (sym (eqb-true status 7 e)) memory_out
    by_seven t five false e =
        subst SucceedsUnlessFailing (sym (t.status_is ∙ zero t.saying t.may (λ s. five (t.status_is ∙ s)) (λ s. let u = eq-eqb status 7 (t.status_is ∙ s) in cc))) succeeds

    by_five : Told may out_old out_new err_old err_new status → (b : Bool) → eqb status 5 ≡ b → SucceedsUnlessFailing status
    by_five t true e = subst SucceedsUnlessFailing (sym (eqb-true status 5 e)) read_failed
    by_five t false e = by_seven t (λ s. let u = eq-eqb status 5 s in cc) (eqb status 7) refl

    by_six : (b : Bool) → eqb status 6 ≡ b → SucceedsUnlessFailing status
    by_six true e = subst SucceedsUnlessFailing (sym (eqb-true status 6 e)) write_failed
    by_six false e = by_five (told (λ s. let u = eq-eqb status 6 s in cc)) (eqb status 5) refl

zero_five : (n : ℕ) → n ≡ 0 → n ≢ 5
zero_five n e f = omega (arith, e, f)

zero_seven : (n : ℕ) → n ≡ 0 → n ≢ 7
zero_seven n e f = omega (arith, e, f)

-- ## `verify`

module _ (files : List Named) (before after : ℕ) (names : Names) (h : HasAccepted names files) where
  -- an answer with status 0 that is right
  record IsAccepted : Type 0 where
    answer : Answer
    right : IsRight (seen_files files before after) names h.sources answer
    zero : status_of answer ≡ 0

  claimed : IsClaimed h.program (reading_digests h.has.reading).funcs (statement_text h.certificate) (verdicts.Accepted h.certificate.ending.total)
  claimed = record { certificate = h.certificate; read = record { short = h.short; text_is = refl; is_certificate = h.is_certificate }; words = h.words; has = h.accepted }

  by_clean : (b : Bool) → names.clean ≡ b → IsAccepted
  unfolding claimed
  by_clean false e = record {
    answer = Judged (judgement.Accepted h.certificate.ending.total);
    right = (h.program, h.has, record { bytes = statement_text h.certificate; given = h.certificate_given; weighed = claimed }, e);
    zero = refl;
  }
  by_clean true e = record {
    answer = Clean h.certificate.ending.total;
    right = record { asked = e; program = h.program; has = h.has; bytes = statement_text h.certificate; given = h.certificate_given; accepted = record { claimed = claimed; is = h.clean e } };
    zero = refl;
  }

  accepted_zero : VerifySaysOneThing → IsZero (SaysRight names (seen_files files before after))
  accepted_zero law saying says five seven =
      let a : IsAccepted = by_clean names.clean refl in
      let same : saying_of names h.sources a.answer ≡ saying =
      law names files before after (saying_of names h.sources a.answer) saying (record { sources = h.sources; answer = a.answer; is_right = a.right; said = refl }) says
      (zero_five (status_of a.answer) a.zero) (zero_seven (status_of a.answer) a.zero) five seven in
      ap (λ (s : Saying). s.status) (sym same) ∙ a.zero

pub accepts_accepted : VerifySaysOneThing → (held : Option (List Named)) (before after : ℕ) (words : List Text) (input : SeenInput) (out_old out_new err_old err_new : Option (List ℕ)) (status : ℕ)
    → (status ≢ 6 → Told (MaySay words (record { held = held; faults_before = before; faults_after = after }) input) out_old out_new err_old err_new status) → IfSome held (λ files. AcceptsAccepted words files status)
accepts_accepted law None before after words input out_old out_new err_old err_new status told = tt
accepts_accepted law (Some files) before after words input out_old out_new err_old err_new status told = λ names line h.
    by_status (MaySay words (seen_files files before after) input) out_old out_new err_old err_new status told
    (λ saying may five seven. accepted_zero files before after names h law saying (says_verified words names line (seen_files files before after) input saying may seven) five seven)

-- ## `derive`

within_is : (text : Text) → length text ≤ MOST_CERTIFICATE_BYTES → within_limit text ≡ Some text
within_is text short = by_test (nat_le (length text) MOST_CERTIFICATE_BYTES) refl
  where
    by_test : (b : Bool) → nat_le (length text) MOST_CERTIFICATE_BYTES ≡ b → (if b then Some text else None) ≡ Some text
    by_test true e = refl
    by_test false e = absurd (grind (arith, nat_tests, e, short))

-- what may be said to `derive` is right to say, unless memory runs out
says_derive : (words directories : List Text) (version : ℕ) (diff : Bool) (roots : List Text) → IsDeriveLine words directories version diff roots → (seen : Seen) (input : SeenInput) (saying : Saying) → MaySay words seen input saying → saying.status ≢ 7
    → derives.SaysRight (record { directories = directories; version = version; diff = diff; sources = roots }) seen saying
says_derive words directories version diff roots line seen input saying (for_none none said) seven = absurd (none (command.Derive directories version diff roots) line)
says_derive words directories version diff roots line seen input saying (for_command c is says) seven = subst (λ (d : Command). SaysFor d seen input saying) (one_command words c (command.Derive directories version diff roots) is line) says
says_derive words directories version diff roots line seen input saying (for_any said) seven = absurd (seven (ap (λ (s : Saying). s.status) said))

module _ (files : List Named) (before after : ℕ) (directories : List Text) (version : ℕ) (diff : Bool) (roots : List Text) (h : HasDerived directories version diff roots files) where
  -- something with status 0 that is right to say
  record IsCertificateSaid : Type 0 where
    saying : Saying
    right : derives.SaysRight (record { directories = directories; version = version; diff = diff; sources = roots }) (seen_files files before after) saying
    zero : saying.status ≡ 0

  by_version : IsTextInVersion version diff (setting (Some files) roots directories) h.sources h.program h.claims h.text → IsCertificateSaid
  by_version (alone other text_is) = record {
    saying = text_saying (certificate_text h.claims);
    right = derives.derived h.sources h.program (Certified h.claims) h.has h.derived other refl;
    zero = refl;
  }
  by_version (sealed two digests has text_is short) = record {
    saying = sealed_saying (within_limit (ranked_text h.claims digests (ranks_if diff h.program h.claims)));
    right = derives.sealed h.sources h.program digests h.claims has h.derived two refl;
    zero = ap (λ (o : Option Text). (sealed_saying o).status) (within_is (ranked_text h.claims digests (ranks_if diff h.program h.claims)) (subst (λ (t : Text). length t ≤ MOST_CERTIFICATE_BYTES) text_is short));
  }

  derived_zero : DeriveSaysOneThing → IsZero (derives.SaysRight (record { directories = directories; version = version; diff = diff; sources = roots }) (seen_files files before after))
  derived_zero law saying says five seven =
      let a : IsCertificateSaid = by_version h.written in
      let same : a.saying ≡ saying =
      law (record { directories = directories; version = version; diff = diff; sources = roots }) (seen_files files before after) files a.saying saying refl a.right says (zero_five a.saying.status a.zero) (zero_seven a.saying.status a.zero) five seven in
      ap (λ (s : Saying). s.status) (sym same) ∙ a.zero

pub derives_derived : DeriveSaysOneThing → (held : Option (List Named)) (before after : ℕ) (words : List Text) (input : SeenInput) (out_old out_new err_old err_new : Option (List ℕ)) (status : ℕ)
    → (status ≢ 6 → Told (MaySay words (record { held = held; faults_before = before; faults_after = after }) input) out_old out_new err_old err_new status) → IfSome held (λ files. DerivesDerived words files status)
derives_derived law None before after words input out_old out_new err_old err_new status told = tt
derives_derived law (Some files) before after words input out_old out_new err_old err_new status told = λ directories version diff roots line h.
    by_status (MaySay words (seen_files files before after) input) out_old out_new err_old err_new status told
    (λ saying may five seven. derived_zero files before after directories version diff roots h law saying (says_derive words directories version diff roots line (seen_files files before after) input saying may seven) five seven)
