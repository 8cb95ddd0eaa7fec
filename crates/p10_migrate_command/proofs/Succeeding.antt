-- What is said with status 0.
use Rattle.std.proofs.Common.{◌≡◌, ◌≤◌, ℕ, Bool, true, false, [], length, nat_le, refl, sym, ap, ◌∙◌, subst, arith, Option, Some, None}
use Rattle.std.specs.Prelude.{if◌then◌else◌}
use Rattle.std.proofs.lemmas.Bool.Decides.{nat_tests}
use Rattle.p10_base.specs.declared.report.TheConstants.Limit.{MOST_CERTIFICATE_BYTES}
use Rattle.p10_base.specs.Gathered.{Gathered}
use Rattle.p10_base.specs.Words.{Text}
use Rattle.p10_cert.specs.Claims.{Claims}
use Rattle.p10_cert.specs.Statements.{Statement}
use Rattle.p10_core.specs.Typed.{PlainProgram}
use Rattle.p10_fit.specs.Fits.{unfit}
use Rattle.p10_front.specs.Digests.{PlainDigests}
use Rattle.p10_command.specs.Saying.{Saying}
use Rattle.p10_command.specs.Seen.{Seen}
use Rattle.p10_command.proofs.Statuses.{said_with, trouble_between, ungathered_between, unread_between}
use Rattle.p10_seal.specs.Laws.{AreSized, ReadingDigestsAreSized, SealedIsCertificate}
use Rattle.p10_seal.specs.Sealing.{sealed_text, within_limit}
use Rattle.p10_migrate_command.specs.declared.answer.Answer.{Answer}
use Rattle.p10_migrate_command.specs.declared.answer.Answer.TheVariants as answers
use Rattle.p10_migrate_command.specs.declared.command.MigrateCommand.{MigrateCommand}
use Rattle.p10_migrate_command.specs.Migrating.{Migrated, Migrates, migrated_of, fitted, migrated_by, text_or_limit, too_long, bad, certificate}
use Rattle.p10_migrate_command.specs.Laws.{SuccessIsMigrated, TellsMigrated}
use Rattle.p10_check.specs.Texts.{StaleAt, claims_in, first_stale}
use Rattle.p10_migrate_command.specs.Told.{IsMigrated, IsRight, migrated_err, migrated_out, migrated_status, saying_of}
use Rattle.p10_migrate_command.proofs.Sealed.{claims_good}

-- what is said of what comes of a certificate
said_of : Gathered → Migrated → Saying
said_of g to = record { status = migrated_status to; out = migrated_out to; err = migrated_err g to }

-- ## By what the certificate is migrated to

-- the text of version 2 is what is said, and within the limit
record IsTold (saying : Saying) (text : Text) : Type 0 where
  on_out : saying.out ≡ text
  on_err : saying.err ≡ []
  short : length text ≤ MOST_CERTIFICATE_BYTES

within_told : (g : Gathered) (saying : Saying) (text : Text) → saying ≡ said_of g (text_or_limit (within_limit text)) → saying.status ≡ 0 → IsTold saying text
unfolding said_of
within_told g saying text said zero = by_test (nat_le (length text) MOST_CERTIFICATE_BYTES) refl said
  where
    by_test : (b : Bool) → nat_le (length text) MOST_CERTIFICATE_BYTES ≡ b → saying ≡ said_of g (text_or_limit (if b then Some text else None)) → IsTold saying text
    by_test true low said = record { on_out = ap (λ (s : Saying). s.out) said; on_err = ap (λ (s : Saying). s.err) said; short = grind (arith, nat_tests) }
    by_test false high said = absurd (let e = said_with _ _ _ said zero in omega (arith, e))

-- the claims speak of the program, and with the digests are what is said
record Fits (p : PlainProgram) (digests : PlainDigests) (c : Claims) (saying : Saying) : Type 0 where
  fits : unfit p c ≡ None
  told : IsTold saying (sealed_text c digests)

fitted_told : (g : Gathered) (p : PlainProgram) (digests : PlainDigests) (c : Claims) (saying : Saying) → saying ≡ said_of g (fitted p digests c (unfit p c)) → saying.status ≡ 0 → Fits p digests c saying
unfolding said_of
fitted_told g p digests c saying said zero = by_fitting (unfit p c) refl said
  where
    by_fitting : (o : Option ℕ) → unfit p c ≡ o → saying ≡ said_of g (fitted p digests c o) → Fits p digests c saying
    by_fitting None is said = record { fits = is; told = within_told g saying (sealed_text c digests) said zero }
    by_fitting (Some number) is said = absurd (let e = said_with _ _ _ said zero in omega (arith, e))

-- and the words are those of the program
record Speaks (p : PlainProgram) (digests : PlainDigests) (s : Statement) (saying : Saying) : Type 0 where
  words : first_stale 0 s.entries digests.funcs ≡ None
  rest : Fits p digests (claims_in s) saying

migrated_told : (g : Gathered) (p : PlainProgram) (digests : PlainDigests) (s : Statement) (saying : Saying) → saying ≡ said_of g (migrated_by p digests (claims_in s) (first_stale 0 s.entries digests.funcs)) → saying.status ≡ 0 → Speaks p digests s saying
unfolding said_of
migrated_told g p digests s saying said zero = by_words (first_stale 0 s.entries digests.funcs) refl said
  where
    by_words : (o : Option StaleAt) → first_stale 0 s.entries digests.funcs ≡ o → saying ≡ said_of g (migrated_by p digests (claims_in s) o) → Speaks p digests s saying
    by_words None is said = record { words = is; rest = fitted_told g p digests (claims_in s) saying said zero }
    by_words (Some stale) is said = absurd (let e = said_with _ _ _ said zero in omega (arith, e))

-- ## By the bytes

told_of : SealedIsCertificate → ReadingDigestsAreSized → (m : MigrateCommand) (seen : Seen) (g : Gathered) (to : Migrated) (saying : Saying) (is : IsMigrated seen.held m g to) → Migrates is.program is.digests is.bytes to → saying ≡ said_of g to → saying.status ≡ 0
    → TellsMigrated m seen saying
unfolding said_of
told_of good_with sized m seen g to saying is (too_long long same) said zero = absurd (let e = said_with _ _ _ (said ∙ ap (said_of g) same) zero in omega (arith, e))
told_of good_with sized m seen g to saying is (bad line short wrong same) said zero = absurd (let e = said_with _ _ _ (said ∙ ap (said_of g) same) zero in omega (arith, e))
told_of good_with sized m seen g to saying is (certificate s text same) said zero =
    let speaks = migrated_told g is.program is.digests s saying (said ∙ ap (said_of g) same) zero in
    let sizes : AreSized is.digests = subst AreSized (sym is.has.are) (sized is.has.has.reading) in
    let told = speaks.rest.told in
    record {
      files = g;
      program = is.program;
      digests = is.digests;
      gathers = is.has;
      bytes = is.bytes;
      given = is.given;
      statement = s;
      read = text;
      words = speaks.words;
      fits = speaks.rest.fits;
      on_out = told.on_out;
      on_err = told.on_err;
      written = record { short = subst (λ (t : Text). length t ≤ MOST_CERTIFICATE_BYTES) (sym told.on_out) told.short; good = good_with (claims_in s) is.digests (claims_good s text.good) sizes; exact = told.on_out; ranked = record { ranks = None; are = tt } };
    }

-- ## All answers

by_answer : SealedIsCertificate → ReadingDigestsAreSized → (m : MigrateCommand) (seen : Seen) (g : Gathered) (answer : Answer) (saying : Saying) → IsRight seen m g answer → saying ≡ saying_of m g answer → saying.status ≡ 0 → TellsMigrated m seen saying
unfolding said_of
by_answer good_with sized m seen g (answers.Ungathered why) saying right said zero = absurd (let e = said_with _ _ _ said zero in omega (arith, (ungathered_between why).least, e))
by_answer good_with sized m seen g answers.AbsentCertificate saying right said zero = absurd (let e = said_with _ _ _ said zero in omega (arith, e))
by_answer good_with sized m seen g (answers.Unread why) saying right said zero = absurd (let e = said_with _ _ _ said zero in omega (arith, (unread_between why).least, e))
by_answer good_with sized m seen g (answers.Trouble trouble) saying right said zero = absurd (let e = said_with _ _ _ said zero in omega (arith, (trouble_between trouble).least, e))
by_answer good_with sized m seen g (answers.Migrated migration) saying right said zero = told_of good_with sized m seen g (migrated_of migration) saying right right.is said zero

pub success : SealedIsCertificate → ReadingDigestsAreSized → SuccessIsMigrated
success good_with sized m seen saying right zero = by_answer good_with sized m seen right.sources right.answer saying right.is_right right.said zero
