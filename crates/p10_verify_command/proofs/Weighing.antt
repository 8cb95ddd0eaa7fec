-- What gathered sources and the bytes of a certificate come to.
use Rattle.std.proofs.Common.{◌≡◌, List, ℕ, Bool, true, false, refl, sym, ap, ◌∙◌, subst, Option, Some, None, IsSomeAnd, Result, Ok, Err, IfOk}
use Rattle.p10_base.specs.declared.digest.Digests.{Digests}
use Rattle.p10_base.specs.declared.report.Bounds.{Bounds}
use Rattle.p10_base.specs.Gathered.{Gathered}
use Rattle.p10_core.specs.declared.program.Program.{Program}
use Rattle.p10_core.specs.Typed.{PlainProgram}
use Rattle.p10_core.specs.Views.{plain_program}
use Rattle.p10_core.specs.WholePrograms.{IsWholeProgram}
use Rattle.p10_front.specs.declared.reading.Reading.{Reading}
use Rattle.p10_front.specs.Answers.{reading_of}
use Rattle.p10_front.specs.Digests.{PlainDigests, plain_digests, reading_digests}
use Rattle.p10_front.specs.Readings.{PlainReading, AreReadAs}
use Rattle.p10_command.specs.declared.reading.ReadSources.{ReadSources}
use Rattle.p10_command.specs.declared.reading.ReadSources.TheVariants as found
use Rattle.p10_command.specs.Reading.{AreRead}
use Rattle.p10_command.proofs.Sources as sources
use Rattle.p10_cert.specs.Claims.{Claims}
use Rattle.p10_check.specs.Texts.{claims_in}
use Rattle.p10_check.specs.declared.verdict.Verdict.TheVariants as verdicts
use Rattle.p10_clean.specs.declared.flaw.Clean.{Clean as Cleanness}
use Rattle.p10_clean.specs.declared.flaw.Clean.TheVariants.{Yes, No}
use Rattle.p10_clean.specs.Clean.{cleanness}
use Rattle.p10_judge.specs.declared.judgement.Judgement.{Judgement}
use Rattle.p10_judge.specs.declared.judgement.Judgement.TheVariants.{TooLong, BadCertificate, Stale, Failing, Accepted}
use Rattle.p10_judge.specs.Judging.{IsClaimed, IsWeighed}
use Rattle.p10_judge.specs.Whole.{IsAcceptedText, IsNotAccepted}
use Rattle.p10_verify_command.specs.declared.answer.Answer.{Answer}
use Rattle.p10_verify_command.specs.declared.answer.Answer.TheVariants.{Ungathered, AbsentCertificate, Unread, Judged, Unclean, Clean, Trouble}
use Rattle.p10_verify_command.specs.Answers.{IsAcceptedAs, IsEnough}
use Rattle.p10_verify_command.specs.private.Deciding.{AreWeighed, ComesFrom, ComesTo, IsAnswerFor, cleaned}

-- what is found for the program of a reading
pub of_reading : {E : Type 0} (o : Option Program) (program : Program) (reading : PlainReading) (found : Digests) (bytes : List ℕ) (clean : Bool) (r : Result Answer E) → o ≡ Some program → plain_digests found ≡ reading_digests reading
    → IfOk r (ComesTo (plain_program program) (plain_digests found).funcs bytes clean) → IfOk r (λ a. IsSomeAnd o (λ p. ComesFrom reading (plain_program p) bytes clean a))
of_reading o program reading found bytes clean (Err e) is digests comes = tt
of_reading o program reading found bytes clean (Ok a) is digests comes =
    subst (λ (x : Option Program). IsSomeAnd x (λ p. ComesFrom reading (plain_program p) bytes clean a)) (sym is) (subst (λ (d : PlainDigests). ComesTo (plain_program program) d.funcs bytes clean a) digests comes)

for_program : (g : Gathered) (p : PlainProgram) (bytes : List ℕ) (clean : Bool) (a : Answer) → IsAnswerFor g p bytes clean a → AreWeighed g bytes clean a
for_program g p bytes clean (Ungathered why) weighed = absurd weighed.is
for_program g p bytes clean AbsentCertificate weighed = absurd weighed.is
for_program g p bytes clean (Unread why) weighed = absurd weighed.is
for_program g p bytes clean (Judged j) weighed = (p, weighed)
for_program g p bytes clean (Unclean c at) weighed = (p, weighed)
for_program g p bytes clean (Clean bounds) weighed = (p, weighed)
for_program g p bytes clean (Trouble trouble) weighed = absurd weighed.is

by_program : (g : Gathered) (r : PlainReading) (bytes : List ℕ) (clean : Bool) (a : Answer) (o : Option Program) → IsSomeAnd o (λ p. AreReadAs g r (plain_program p) × IsWholeProgram (plain_program p)) →
    IsSomeAnd o (λ p. ComesFrom r (plain_program p) bytes clean a) → AreWeighed g bytes clean a
by_program g r bytes clean a None are weighed = absurd are
by_program g r bytes clean a (Some p) are weighed = for_program g (plain_program p) bytes clean a (record { reading = r; read = are.0; whole = are.1; is = weighed })

-- what is found for the program of gathered sources
pub program_weighed : (g : Gathered) (source : ReadSources) (reading : Reading) (bytes : List ℕ) (clean : Bool) (a : Answer) → source ≡ found.Program reading → AreRead g source →
    IsSomeAnd reading.program (λ p. ComesFrom (reading_of reading) (plain_program p) bytes clean a) → AreWeighed g bytes clean a
program_weighed g source reading bytes clean a same is weighed = by_program g (reading_of reading) bytes clean a reading.program (subst (λ (f : ReadSources). AreRead g f) same is) weighed

pub whole_program : (g : Gathered) (source : ReadSources) (reading : Reading) → source ≡ found.Program reading → AreRead g source → IsSomeAnd reading.program (λ p. IsWholeProgram (plain_program p))
whole_program g source reading same is = sources.whole_program g reading (sources.are_program g source reading same is)

-- ## Clean certificates

module _ (p : PlainProgram) (digests : List (List ℕ)) (bytes : List ℕ) where
  by_cleanness : (bounds : Bounds) (said : Cleanness) → IsAcceptedAs p digests bytes bounds said → ComesTo p digests bytes true (cleaned bounds said)
  by_cleanness bounds Yes accepted = (refl, accepted)
  by_cleanness bounds (No c at) accepted = (refl, bounds, accepted)

  -- what is said of the claims of an accepted certificate is the answer
  pub claims_tried : (c : Claims) (said : Cleanness) (answer : Answer) → IsAcceptedText p digests bytes c → said ≡ cleanness p c → answer ≡ cleaned c.total said → ComesTo p digests bytes true answer
  claims_tried c said answer accepted is same =
      let claimed : IsClaimed p digests bytes (verdicts.Accepted c.total) =
      record { certificate = accepted.certificate; read = accepted.read; words = accepted.words; has = accepted.has } in
      subst (ComesTo p digests bytes true) (sym same) (by_cleanness c.total said (record { claimed = claimed; is = is ∙ ap (cleanness p) accepted.claims_are }))

-- a judgement that a certificate isn't accepted is enough
refusal_enough : (clean : Bool) (j : Judgement) → IsNotAccepted j → IsEnough clean j
refusal_enough clean TooLong refused = tt
refusal_enough clean (BadCertificate line) refused = tt
refusal_enough clean (Stale at kept found) refused = tt
refusal_enough clean (Failing k at) refused = tt
refusal_enough clean (Accepted bounds) refused = absurd refused

pub refused : (p : PlainProgram) (digests : List (List ℕ)) (bytes : List ℕ) (j : Judgement) → IsWeighed p digests bytes j × IsNotAccepted j → ComesTo p digests bytes true (Judged j)
refused p digests bytes j weighed = (weighed.0, refusal_enough true j weighed.1)

-- each judgement is enough where nothing is asked of claims
enough : (clean : Bool) (j : Judgement) → clean ≡ false → IsEnough clean j
enough clean TooLong not_asked = tt
enough clean (BadCertificate line) not_asked = tt
enough clean (Stale at kept found) not_asked = tt
enough clean (Failing k at) not_asked = tt
enough clean (Accepted bounds) not_asked = not_asked

pub not_clean : (p : PlainProgram) (digests : List (List ℕ)) (bytes : List ℕ) (clean : Bool) (j : Judgement) → clean ≡ false → IsWeighed p digests bytes j → ComesTo p digests bytes clean (Judged j)
not_clean p digests bytes clean j not_asked weighed = (weighed, enough clean j not_asked)
