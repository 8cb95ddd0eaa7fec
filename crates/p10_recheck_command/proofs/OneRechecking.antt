-- The bytes of both certificates come to one thing, for a program.
use Rattle.std.proofs.Common.{◌≡◌, ◌∙◌, ℕ, ◌-◌, ◌<◌, ◌≤◌, List, length, refl, sym, ap, subst, arith, inl, inr, Option, Some, None}
use Rattle.std.proofs.lemmas.Bool.{cases_lt}
use Rattle.p10_core.specs.Typed.{PlainProgram}
use Rattle.p10_calls.proofs.Lists.{those_are_one}
use Rattle.p10_cert.specs.Claims.{Claims}
use Rattle.p10_cert.specs.Laws.{TextTellsStatement}
use Rattle.p10_cert.specs.Statements.{Statement, statement_text}
use Rattle.p10_cert.specs.WrongLines.{IsFirstWrongSealed, first_lines}
use Rattle.p10_cert.proofs.LineTexts.{first_fewer}
use Rattle.p10_check.specs.declared.verdict.Verdict.{Verdict}
use Rattle.p10_check.specs.declared.verdict.TextVerdict.{TextVerdict}
use Rattle.p10_check.specs.declared.verdict.TextVerdict.TheVariants as text
use Rattle.p10_check.specs.Conditions.{verdict_by}
use Rattle.p10_check.specs.Passes.{Standing}
use Rattle.p10_check.specs.Places.{name_at}
use Rattle.p10_check.specs.Texts.{StaleAt, TellsStale, claims_in, first_stale, text_verdict}
use Rattle.p10_diff.specs.Evidence.{Rank}
use Rattle.p10_diff_evidence.specs.Laws.{OneBadLine, OneListOfRanks, RankedHasNoBadLine}
use Rattle.p10_diff_evidence.specs.Placing as placing
use Rattle.p10_diff_evidence.specs.Placing.{IsBad}
use Rattle.p10_diff_evidence.specs.Standing.{AreRanks, diff_lines, standing_by}
use Rattle.p10_flowrules.specs.declared.calls.AnyCall.{AnyCall}
use Rattle.p10_flowrules.specs.Allocating.{IsAllocating, late_calls}
use Rattle.p10_front.specs.Digests.{PlainDigests}
use Rattle.p10_incr.specs.Edits.{Edit, dirty}
use Rattle.p10_incr.specs.Rechecking.{IsRecheckVerdict, IsVerdictAmong, RechecksBy, failures_after, first_by_number, passed_for}
use Rattle.p10_judge.specs.declared.judgement.Judgement.{Judgement}
use Rattle.p10_judge.specs.declared.judgement.Judgement.TheVariants.{Stale}
use Rattle.p10_judge.specs.Judging.{judgement_on}
use Rattle.p10_rejudge.specs.declared.rejudging.Passed.{Passed}
use Rattle.p10_rejudge.specs.Rejudging.{IsNoSealedText, IsRejudged, IsSealedText}
use Rattle.p10_recheck_command.specs.declared.rechecking.Rechecking.{Rechecking}
use Rattle.p10_recheck_command.specs.declared.rechecking.Rechecking.TheVariants.{TooLong, BadCertificate, OldTooLong, BadOld, Judged}
use Rattle.p10_recheck_command.specs.Rechecking.{IsBadSealed, IsNewCertificate, IsNoNewCertificate, IsRechecked, Rechecks, edit_between, no_line, no_rank}

-- ## Verdicts

-- the verdict on claims, by what is asked of some functions, is one
one_among : (stands : Standing) (p : PlainProgram) (c : Claims) (numbers : List ℕ) (v w : Verdict) → IsVerdictAmong stands p c numbers v → IsVerdictAmong stands p c numbers w → v ≡ w
one_among stands p c numbers v w one other =
    one.is
    ∙ ap (verdict_by c.total)
    (one.first_is.is
    ∙ ap (λ (late : List AnyCall). first_by_number (failures_after stands p c late numbers))
    (those_are_one (λ c. IsAllocating p c.called) (late_calls p) one.first_is.late other.first_is.late one.first_is.late_are other.first_is.late_are)
    ∙ sym other.first_is.is)
    ∙ sym other.is

-- what is said of a function whose digests differ
stale_said : (p : PlainProgram) (stale : StaleAt) (v : TextVerdict) → TellsStale p stale v → judgement_on v ≡ Stale (name_at p stale.number) (record { 0 = stale.kept }) (record { 0 = stale.found })
stale_said p stale (text.Stale at kept found) is = λ i. Stale (is.0 i) (record { 0 = is.1 i }) (record { 0 = is.2 i })
stale_said p stale (text.BadLine line) is = absurd is
stale_said p stale (text.Accepted bounds) is = absurd is
stale_said p stale (text.Refused k at) is = absurd is

one_said : (stands : Standing) (p : PlainProgram) (c : Claims) (numbers : List ℕ) (o : Option StaleAt) (v w : TextVerdict) → RechecksBy stands p c numbers o v → RechecksBy stands p c numbers o w → judgement_on v ≡ judgement_on w
one_said stands p c numbers (Some stale) v w this that = stale_said p stale v this ∙ sym (stale_said p stale w that)
one_said stands p c numbers None v w (a, is, v_is) (b, also, w_is) = ap judgement_on (v_is ∙ ap text_verdict (one_among stands p c numbers a b is also) ∙ sym w_is)

-- one judgement by the verdict after an edit
one_judgement : (stands : Standing) (p : PlainProgram) (e : Edit) (v w : TextVerdict) → IsRecheckVerdict stands p e v → IsRecheckVerdict stands p e w → judgement_on v ≡ judgement_on w
one_judgement stands p e v w this that = one_said stands p (claims_in e.new) (dirty p e) (first_stale 0 e.new.entries e.digests) v w this that

-- ## Texts

-- of two wrong lines none is earlier
not_earlier : (bytes : List ℕ) (m n : ℕ) → IsFirstWrongSealed bytes m → IsFirstWrongSealed bytes n → m < n → ⊥
not_earlier bytes m n early late before =
    let (s, good, sealed, same) = late.before in
    let within : m ≤ n - 1 = omega (arith, before) in
    early.wrong s good sealed (sym (first_fewer bytes m (n - 1) within) ∙ ap (λ t. first_lines t m) same ∙ first_fewer (statement_text s) m (n - 1) within)

one_wrong : (bytes : List ℕ) (m n : ℕ) → IsFirstWrongSealed bytes m → IsFirstWrongSealed bytes n → m ≡ n
one_wrong bytes m n this that =
    elim (cases_lt m n) [
      | inl lower ↦ absurd (not_earlier bytes m n this that lower)
      | inr upper ↦ elim (cases_lt n m) [ inl lower ↦ absurd (not_earlier bytes n m that this lower) | inr more ↦ omega (arith, upper, more) ]
    ]

-- a text of version 2 has no wrong line
text_or_wrong : {A : Type 0} (bytes : List ℕ) (s : Statement) (line : ℕ) → IsSealedText bytes s → IsFirstWrongSealed bytes line → A
text_or_wrong bytes s line is wrong = absurd (wrong.wrong s is.good is.sealed (ap (λ (t : List ℕ). first_lines t line) is.exact))

-- the laws of the crates below: one certificate and one bad line of a text, and its ranks
pub record Laws : Type 0 where
  pub statement : TextTellsStatement
  pub one_bad : OneBadLine
  pub no_bad : RankedHasNoBadLine
  pub ranks : OneListOfRanks

module _ (laws : Laws) where
  same_text : (bytes : List ℕ) (s t : Statement) → IsSealedText bytes s → IsSealedText bytes t → s ≡ t
  same_text bytes s t this that = laws.statement s t this.good that.good (sym this.exact ∙ that.exact)

  -- the new text is a certificate's or isn't
  new_or_not : {A : Type 0} (new : List ℕ) (s : Statement) (line : ℕ) → IsNewCertificate new s → IsBadSealed new line → A
  new_or_not new s line is (no_line wrong) = text_or_wrong new s line is.text wrong
  new_or_not new s line is (no_rank t sealed other) =
      absurd (laws.no_bad s line is.text.good is.ranked (subst (λ (b : List ℕ). IsBad b line) is.text.exact (placing.no_rank t sealed.good sealed.exact other)))

  one_line : (new : List ℕ) (m n : ℕ) → IsBadSealed new m → IsBadSealed new n → m ≡ n
  one_line new m n (no_line this) (no_line that) = one_wrong new m n this that
  one_line new m n (no_line this) (no_rank t sealed other) = text_or_wrong new t m sealed this
  one_line new m n (no_rank t sealed other) (no_line that) = text_or_wrong new t n sealed that
  one_line new m n (no_rank s sealed other) (no_rank t also another) = laws.one_bad new m n (placing.no_rank s sealed.good sealed.exact other) (placing.no_rank t also.good also.exact another)

  -- ## Both

  module _ (p : PlainProgram) (digests : PlainDigests) (new old : List ℕ) where
    same_passed : (stands : Standing) (e : Edit) (v w : TextVerdict) (a b : Passed) → IsRejudged stands p e v a → IsRejudged stands p e w b → Judged (judgement_on v) a ≡ Judged (judgement_on w) b
    same_passed stands e v w a b this that =
        let judged = one_judgement stands p e v w this.verdict_is that.verdict_is in
        λ i. Judged (judged i) (record { passed = (this.passed_are ∙ sym that.passed_are) i; functions = (this.functions_are ∙ sym that.functions_are) i })

    one_rechecked : (j k : Judgement) (a b : Passed) → IsRechecked p digests new old j a → IsRechecked p digests new old k b → Judged j a ≡ Judged k b
    one_rechecked j k a b this that =
        let after = same_text new this.after that.after this.is_new.text that.is_new.text in
        let before = same_text old this.before that.before this.is_old that.is_old in
        let ranks_are = ap diff_lines after in
        let rank_same : this.is_new.ranked.ranks ≡ that.is_new.ranked.ranks =
        laws.ranks (diff_lines that.after) this.is_new.ranked.ranks that.is_new.ranked.ranks (subst (λ (ls : Option (List (List ℕ))). AreRanks ls this.is_new.ranked.ranks) ranks_are this.is_new.ranked.are) that.is_new.ranked.are in
        let here : IsRejudged (standing_by p that.is_new.ranked.ranks) p (edit_between digests that.before that.after) this.verdict a =
        subst (λ (rs : Option (List Rank)). IsRejudged (standing_by p rs) p (edit_between digests that.before that.after) this.verdict a) rank_same
        (subst (λ (s : Statement). IsRejudged (standing_by p this.is_new.ranked.ranks) p (edit_between digests that.before s) this.verdict a) after
        (subst (λ (s : Statement). IsRejudged (standing_by p this.is_new.ranked.ranks) p (edit_between digests s this.after) this.verdict a) before this.is)) in
        ap (λ (l : Judgement). Judged l a) this.told ∙ same_passed (standing_by p that.is_new.ranked.ranks) (edit_between digests that.before that.after) this.verdict that.verdict a b here that.is ∙ ap (λ (l : Judgement). Judged l b) (sym that.told)

    pub one_rechecking : (this that : Rechecking) → Rechecks p digests new old this → Rechecks p digests new old that → this ≡ that
    one_rechecking TooLong TooLong long long' = refl
    one_rechecking TooLong (BadCertificate line) long bad = absurd (omega (arith, long, bad.short))
    one_rechecking TooLong OldTooLong long (s, is, long') = absurd (omega (arith, long, is.text.short))
    one_rechecking TooLong (BadOld line) long (s, is, bad) = absurd (omega (arith, long, is.text.short))
    one_rechecking TooLong (Judged j a) long is = absurd (omega (arith, long, is.is_new.text.short))
    one_rechecking (BadCertificate line) TooLong bad long = absurd (omega (arith, long, bad.short))
    one_rechecking (BadCertificate m) (BadCertificate n) bad bad' = ap BadCertificate (one_line new m n bad.wrong bad'.wrong)
    one_rechecking (BadCertificate line) OldTooLong bad (s, is, long) = new_or_not new s line is bad.wrong
    one_rechecking (BadCertificate line) (BadOld n) bad (s, is, bad') = new_or_not new s line is bad.wrong
    one_rechecking (BadCertificate line) (Judged j a) bad is = new_or_not new is.after line is.is_new bad.wrong
    one_rechecking OldTooLong TooLong (s, is, long) long' = absurd (omega (arith, long', is.text.short))
    one_rechecking OldTooLong (BadCertificate line) (s, is, long) bad = new_or_not new s line is bad.wrong
    one_rechecking OldTooLong OldTooLong (s, is, long) (t, also, long') = refl
    one_rechecking OldTooLong (BadOld line) (s, is, long) (t, also, bad) = absurd (omega (arith, long, bad.short))
    one_rechecking OldTooLong (Judged j a) (s, is, long) also = absurd (omega (arith, long, also.is_old.short))
    one_rechecking (BadOld line) TooLong (s, is, bad) long = absurd (omega (arith, long, is.text.short))
    one_rechecking (BadOld line) (BadCertificate n) (s, is, bad) bad' = new_or_not new s n is bad'.wrong
    one_rechecking (BadOld line) OldTooLong (s, is, bad) (t, also, long) = absurd (omega (arith, long, bad.short))
    one_rechecking (BadOld m) (BadOld n) (s, is, bad) (t, also, bad') = ap BadOld (one_wrong old m n bad.wrong bad'.wrong)
    one_rechecking (BadOld line) (Judged j a) (s, is, bad) also = text_or_wrong old also.before line also.is_old bad.wrong
    one_rechecking (Judged j a) TooLong is long = absurd (omega (arith, long, is.is_new.text.short))
    one_rechecking (Judged j a) (BadCertificate line) is bad = new_or_not new is.after line is.is_new bad.wrong
    one_rechecking (Judged j a) OldTooLong is (s, also, long) = absurd (omega (arith, long, is.is_old.short))
    one_rechecking (Judged j a) (BadOld line) is (s, also, bad) = text_or_wrong old is.before line is.is_old bad.wrong
    one_rechecking (Judged j a) (Judged k b) this that = one_rechecked j k a b this that
