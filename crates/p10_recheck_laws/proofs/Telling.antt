-- After an edit `recheck` tells what `verify` tells.
use Rattle.std.proofs.Common.{◌≡◌, ◌∙◌, ℕ, false, List, length, Option, Some, None, refl, sym, ap, subst}
use Rattle.p10_base.specs.Gathered.{Gathered}
use Rattle.p10_core.specs.Typed.{PlainProgram}
use Rattle.p10_core.specs.WholePrograms.{IsWholeProgram}
use Rattle.p10_cert.specs.Claims.{Claims}
use Rattle.p10_cert.specs.Laws.{TextTellsStatement}
use Rattle.p10_cert.specs.Statements.{Statement, IsStatement, statement_text}
use Rattle.p10_front.specs.Readings.{PlainReading, AreReadAs}
use Rattle.p10_front.specs.Digests.{PlainDigests, reading_digests}
use Rattle.p10_check.specs.declared.verdict.Verdict.{Verdict}
use Rattle.p10_check.specs.declared.verdict.Verdict.TheVariants as verdicts
use Rattle.p10_check.specs.declared.verdict.TextVerdict.{TextVerdict}
use Rattle.p10_check.specs.declared.verdict.TextVerdict.TheVariants as said
use Rattle.p10_check.specs.Passes.{Standing}
use Rattle.p10_check.specs.Texts.{StaleAt, claims_in, first_stale, text_verdict, JudgesBy, IsStatementVerdict, IsTextVerdict}
use Rattle.p10_diff.specs.Evidence.{Rank}
use Rattle.p10_diff_evidence.specs.Standing.{diff_lines, AreRanks, standing_by}
use Rattle.p10_judge.specs.declared.judgement.Judgement.{Judgement}
use Rattle.p10_judge.specs.declared.judgement.Judgement.TheVariants.{TooLong, BadCertificate, Stale, Failing, Accepted}
use Rattle.p10_judge.specs.Judging.{IsWeighed}
use Rattle.p10_judge.proofs.Verdicts.{weighed}
use Rattle.p10_incr.specs.Edits.{Edit}
use Rattle.p10_incr.specs.Rechecking.{IsRecheckVerdict}
use Rattle.p10_rejudge.specs.declared.rejudging.Passed.{Passed}
use Rattle.p10_rechecks.specs.Laws.{WasAccepted}
use Rattle.p10_recheck_command.specs.Rechecking.{edit_between, IsRechecked}
use Rattle.p10_verify_command.specs.Answers.{IsEnough}
use Rattle.p10_word_views.specs.Words.{DigestsTell}
use Rattle.p10_equal_words.specs.Laws.{ComparableFilesRecheckBySections}
use Rattle.p10_recheck_laws.specs.Laws.{WasAcceptedFor, RecheckTellsAsVerify}

-- ## Texts

-- a verdict on claims is that no line is bad
no_line : (v : Verdict) (line : ℕ) → said.BadLine line ≡ text_verdict v → ⊥
no_line (verdicts.Accepted bounds) line is = cc
no_line (verdicts.Refused k at) line is = cc

never_bad : (stands : Standing) (p : PlainProgram) (c : Claims) (o : Option StaleAt) (line : ℕ) → JudgesBy stands p c o (said.BadLine line) → ⊥
never_bad stands p c None line (v, right, is) = no_line v line is
never_bad stands p c (Some stale) line tells = tells

-- the verdict on a certificate is that on its text
of_text : (stands : Standing) (p : PlainProgram) (digests : List (List ℕ)) (bytes : List ℕ) (s : Statement) (verdict : TextVerdict) → IsStatement s → bytes ≡ statement_text s → IsStatementVerdict stands p digests s verdict
    → IsTextVerdict stands p digests bytes verdict
of_text stands p digests bytes s (said.BadLine line) good exact is = absurd (never_bad stands p (claims_in s) (first_stale 0 s.entries digests) line is)
of_text stands p digests bytes s (said.Accepted bounds) good exact is = record { statement = s; good = good; exact = exact; is = is }
of_text stands p digests bytes s (said.Refused k at) good exact is = record { statement = s; good = good; exact = exact; is = is }
of_text stands p digests bytes s (said.Stale at kept found) good exact is = record { statement = s; good = good; exact = exact; is = is }

-- ## Before the edit

was_accepted : (g : Gathered) (r : PlainReading) (old : List ℕ) (w : WasAcceptedFor g r old)
    → WasAccepted (standing_by w.program w.claimed.has.ranked.ranks) w.program (reading_digests r).funcs (reading_digests r).outside w.claimed.certificate
was_accepted g r old w = record {
  whole = w.whole;
  each = w.each;
  outside_is = w.outside;
  total = w.total;
  accepted = subst (λ o. JudgesBy (standing_by w.program w.claimed.has.ranked.ranks) w.program (claims_in w.claimed.certificate) o (said.Accepted w.total)) (sym w.claimed.words)
      (verdicts.Accepted w.total, w.claimed.has.is, refl);
}

-- ## After it

-- `verify` that isn't asked for more tells each judgement
enough : (j : Judgement) → IsEnough false j
enough TooLong = tt
enough (BadCertificate line) = tt
enough (Stale at kept found) = tt
enough (Failing k at) = tt
enough (Accepted bounds) = refl

module _ (texts : TextTellsStatement) (files : ComparableFilesRecheckBySections) where
  rechecked_weighed : (g h : Gathered) (r s : PlainReading) (old new : List ℕ) (p : PlainProgram) (digests : PlainDigests) → WasAcceptedFor g r old → AreReadAs h s p → digests ≡ reading_digests s
      → IsWholeProgram p → length digests.funcs ≡ length p.functions → DigestsTell r s → (judgement : Judgement) (passed : Passed) → IsRechecked p digests new old judgement passed → IsWeighed p digests.funcs new judgement
  rechecked_weighed g h r s old new p digests w read are whole each tell judgement passed x =
      let before : Statement = w.claimed.certificate in
      let ranks : Option (List Rank) = x.is_new.ranked.ranks in
      let same : x.before ≡ before = texts x.before before x.is_old.good w.claimed.read.is_certificate (sym x.is_old.exact ∙ w.claimed.read.text_is) in
      let e : Edit = edit_between digests before x.after in
      let is : IsRecheckVerdict (standing_by p ranks) p e x.verdict =
      subst (λ (b : Statement). IsRecheckVerdict (standing_by p ranks) p (edit_between digests b x.after) x.verdict) same x.is.verdict_is in
      let judged : IsStatementVerdict (standing_by p ranks) p digests.funcs x.after x.verdict =
      files g h r s w.program p w.read read whole (ap (λ (d : PlainDigests). length d.funcs) (sym are) ∙ each) tell e
      (record { digests = ap (λ (d : PlainDigests). d.funcs) are; outside = ap (λ (d : PlainDigests). d.outside) are })
      w.claimed.has.ranked.ranks ranks x.verdict w.claimed.has.ranked.are x.is_new.ranked.are (was_accepted g r old w) is in
      subst (IsWeighed p digests.funcs new) (sym x.told)
      (weighed p digests.funcs new ranks x.verdict x.is_new.text.short
      (λ t good exact. subst (λ (u : Statement). AreRanks (diff_lines u) ranks) (texts x.after t x.is_new.text.good good (sym x.is_new.text.exact ∙ exact)) x.is_new.ranked.are)
      (of_text (standing_by p ranks) p digests.funcs new x.after x.verdict x.is_new.text.good x.is_new.text.exact judged))

  pub recheck_tells_as_verify : RecheckTellsAsVerify
  recheck_tells_as_verify seen c g h r judgement passed to w tell = (
    to.program,
    to.has.has,
    record {
      bytes = to.new;
      given = to.new_given;
      weighed = subst (λ (d : PlainDigests). IsWeighed to.program d.funcs to.new judgement) to.has.are
          (rechecked_weighed g h r to.has.has.reading to.old to.new to.program to.digests w to.has.has.read to.has.are to.has.has.whole to.has.each tell judgement passed to.is);
    },
    enough judgement,
  )
