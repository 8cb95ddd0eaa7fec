-- A certificate comes to one thing for a program, and where files are told there is one of each.
use Rattle.std.proofs.Common.{◌≡◌, ℕ, false, List, arith, refl, sym, ◌∙◌, ap, subst, Option, Some, None, IsSome}
use Rattle.std.proofs.lemmas.Bool.{both_ways}
use Rattle.std.proofs.lemmas.Option.{same_Some}
use Rattle.p10_base.specs.declared.digest.Digest.{Digest}
use Rattle.p10_base.specs.declared.span.Span.{Span}
use Rattle.p10_world.specs.Files.{Named}
use Rattle.p10_core.specs.Typed.{PlainProgram}
use Rattle.p10_cert.specs.Laws.{TextTellsStatement}
use Rattle.p10_cert.specs.Sealed.{bytes_of}
use Rattle.p10_cert.specs.Statements.{Statement}
use Rattle.p10_check.specs.declared.verdict.Verdict.{Verdict}
use Rattle.p10_check.specs.declared.verdict.Verdict.TheVariants as verdicts
use Rattle.p10_check.specs.Accepting.{OneVerdict}
use Rattle.p10_check.specs.Places.{name_at}
use Rattle.p10_check.specs.Texts.{StaleAt, claims_in, first_stale}
use Rattle.p10_check.specs.Conditions.{IsVerdict}
use Rattle.p10_diff.specs.Evidence.{Rank}
use Rattle.p10_diff_evidence.specs.Laws.{OneListOfRanks, OneBadLine, RankedHasNoBadLine}
use Rattle.p10_diff_evidence.specs.Placing.{IsBad, IsRanked}
use Rattle.p10_diff_evidence.specs.Standing.{diff_lines, standing_by}
use Rattle.p10_judge.specs.declared.judgement.Judgement.{Judgement}
use Rattle.p10_judge.specs.declared.judgement.Judgement.TheVariants.{TooLong, BadCertificate, Stale, Failing, Accepted}
use Rattle.p10_judge.specs.Judging.{HasVerdict, IsCertificateOf, IsClaimed, IsJudged, IsNoCertificate, IsOfOtherWords, IsToldAs, IsWeighed}
use Rattle.p10_judge.specs.Laws.{OneJudgement}
use Rattle.p10_judge.specs.Loading.{IsHeld}
use Rattle.p10_judge.specs.private.Weighing.{judgement_by}
use Rattle.p10_judge.proofs.Files.{given_is_held}
pub use Rattle.p10_command.proofs.Files.{held_or_lacking}

-- ## Bytes

-- the laws of the crates below: one certificate and one bad line of a text, its ranks, and one verdict
pub record Laws : Type 0 where
  pub statement : TextTellsStatement
  pub one_bad : OneBadLine
  pub no_bad : RankedHasNoBadLine
  pub ranks : OneListOfRanks
  pub verdict : OneVerdict

module _ (laws : Laws) (p : PlainProgram) (digests : List (List ℕ)) (bytes : List ℕ) where
  same_certificate : (s t : Statement) → IsCertificateOf bytes s → IsCertificateOf bytes t → s ≡ t
  same_certificate s t this that = laws.statement s t this.is_certificate that.is_certificate (sym this.text_is ∙ that.text_is)

  of_one : (s : Statement) (v w : Verdict) → HasVerdict p s v → HasVerdict p s w → v ≡ w
  of_one s v w this that =
      laws.verdict (standing_by p that.ranked.ranks) p (claims_in s) v w
      (subst (λ (ranks : Option (List Rank)). IsVerdict (standing_by p ranks) p (claims_in s) v) (laws.ranks (diff_lines s) this.ranked.ranks that.ranked.ranks this.ranked.are that.ranked.are) this.is) that.is

  one_verdict : (v w : Verdict) → IsClaimed p digests bytes v → IsClaimed p digests bytes w → v ≡ w
  one_verdict v w this that =
      let same = same_certificate this.certificate that.certificate this.read that.read in
      of_one that.certificate v w (subst (λ (s : Statement). HasVerdict p s v) same this.has) that.has

  not_bad : (s : Statement) (line : ℕ) → IsCertificateOf bytes s → IsRanked s → IsBad bytes line → ⊥
  not_bad s line read ranked bad = laws.no_bad s line read.is_certificate ranked (subst (λ (b : List ℕ). IsBad b line) read.text_is bad)

  claimed_and_bad : (v : Verdict) (line : ℕ) → IsClaimed p digests bytes v → IsNoCertificate bytes line → ⊥
  claimed_and_bad v line claimed bad = not_bad claimed.certificate line claimed.read claimed.has.ranked bad.wrong

  stale_and_bad : (stale : StaleAt) (line : ℕ) → IsOfOtherWords digests bytes stale → IsNoCertificate bytes line → ⊥
  stale_and_bad stale line is bad = not_bad is.certificate line is.read is.ranked bad.wrong

  -- the words are these or others
  claimed_and_stale : (v : Verdict) (stale : StaleAt) → IsClaimed p digests bytes v → IsOfOtherWords digests bytes stale → ⊥
  claimed_and_stale v stale this that =
      let clash : None ≡ Some stale = sym this.words ∙ ap (λ (s : Statement). first_stale 0 s.entries digests) (same_certificate this.certificate that.certificate this.read that.read) ∙ that.words in
      cc

  one_stale : (a b : StaleAt) → IsOfOtherWords digests bytes a → IsOfOtherWords digests bytes b → a ≡ b
  one_stale a b this that = same_Some a b (sym this.words ∙ ap (λ (s : Statement). first_stale 0 s.entries digests) (same_certificate this.certificate that.certificate this.read that.read) ∙ that.words)

  told_alike : (a : StaleAt) (at there : Span) (kept found k f : Digest) → IsToldAs p a at kept found → IsToldAs p a there k f → Stale at kept found ≡ Stale there k f
  told_alike a at there kept found k f this that =
      λ i. Stale ((this.place ∙ sym that.place) i) (record { 0 = (this.kept_is ∙ sym that.kept_is) i }) (record { 0 = (this.found_is ∙ sym that.found_is) i })

  pub one_judgement : (this that : Judgement) → IsWeighed p digests bytes this → IsWeighed p digests bytes that → this ≡ that
  one_judgement TooLong TooLong long long' = refl
  one_judgement TooLong (BadCertificate line) long bad = absurd (omega (arith, long, bad.short))
  one_judgement TooLong (Stale at kept found) long is = absurd (omega (arith, long, is.1.read.short))
  one_judgement TooLong (Failing k at) long claimed = absurd (omega (arith, long, claimed.read.short))
  one_judgement TooLong (Accepted bounds) long claimed = absurd (omega (arith, long, claimed.read.short))
  one_judgement (BadCertificate line) TooLong bad long = absurd (omega (arith, long, bad.short))
  one_judgement (BadCertificate m) (BadCertificate n) bad bad' = ap BadCertificate (laws.one_bad bytes m n bad.wrong bad'.wrong)
  one_judgement (BadCertificate line) (Stale at kept found) bad is = absurd (stale_and_bad is.0 line is.1 bad)
  one_judgement (BadCertificate line) (Failing k at) bad claimed = absurd (claimed_and_bad (verdicts.Refused k at) line claimed bad)
  one_judgement (BadCertificate line) (Accepted bounds) bad claimed = absurd (claimed_and_bad (verdicts.Accepted bounds) line claimed bad)
  one_judgement (Stale at kept found) TooLong is long = absurd (omega (arith, long, is.1.read.short))
  one_judgement (Stale at kept found) (BadCertificate line) is bad = absurd (stale_and_bad is.0 line is.1 bad)
  one_judgement (Stale at kept found) (Stale there k f) is is' =
      told_alike is'.0 at there kept found k f (subst (λ (a : StaleAt). IsToldAs p a at kept found) (one_stale is.0 is'.0 is.1 is'.1) is.2) is'.2
  one_judgement (Stale at kept found) (Failing k at') is claimed = absurd (claimed_and_stale (verdicts.Refused k at') is.0 claimed is.1)
  one_judgement (Stale at kept found) (Accepted bounds) is claimed = absurd (claimed_and_stale (verdicts.Accepted bounds) is.0 claimed is.1)
  one_judgement (Failing k at) TooLong claimed long = absurd (omega (arith, long, claimed.read.short))
  one_judgement (Failing k at) (BadCertificate line) claimed bad = absurd (claimed_and_bad (verdicts.Refused k at) line claimed bad)
  one_judgement (Failing k at) (Stale at' kept found) claimed is = absurd (claimed_and_stale (verdicts.Refused k at) is.0 claimed is.1)
  one_judgement (Failing k at) (Failing l at') claimed claimed' = ap judgement_by (one_verdict (verdicts.Refused k at) (verdicts.Refused l at') claimed claimed')
  one_judgement (Failing k at) (Accepted bounds) claimed claimed' = ap judgement_by (one_verdict (verdicts.Refused k at) (verdicts.Accepted bounds) claimed claimed')
  one_judgement (Accepted bounds) TooLong claimed long = absurd (omega (arith, long, claimed.read.short))
  one_judgement (Accepted bounds) (BadCertificate line) claimed bad = absurd (claimed_and_bad (verdicts.Accepted bounds) line claimed bad)
  one_judgement (Accepted bounds) (Stale at kept found) claimed is = absurd (claimed_and_stale (verdicts.Accepted bounds) is.0 claimed is.1)
  one_judgement (Accepted bounds) (Failing k at) claimed claimed' = ap judgement_by (one_verdict (verdicts.Accepted bounds) (verdicts.Refused k at) claimed claimed')
  one_judgement (Accepted bounds) (Accepted bounds') claimed claimed' = ap judgement_by (one_verdict (verdicts.Accepted bounds) (verdicts.Accepted bounds') claimed claimed')

-- ## Files

pub judged_is_held : (held : Option (List Named)) (name : List ℕ) (p : PlainProgram) (digests : List (List ℕ)) (j : Judgement) → IsJudged held name p digests j → IsHeld held name
judged_is_held held name p digests j judged = given_is_held held name judged.bytes judged.given

judged_twice : OneJudgement → (files : List Named) (name : List ℕ) (p : PlainProgram) (digests : List (List ℕ)) (j k : Judgement) → IsJudged (Some files) name p digests j → IsJudged (Some files) name p digests k → j ≡ k
judged_twice once files name p digests j k this that =
    once p digests that.bytes j k (subst (λ (b : List ℕ). IsWeighed p digests b j) (same_Some this.bytes that.bytes (sym this.given ∙ that.given)) this.weighed) that.weighed

-- the certificate of a program comes to one thing
pub judged_once : OneJudgement → (held : Option (List Named)) → IsSome held → (name : List ℕ) (p q : PlainProgram) (these those : List (List ℕ)) (j k : Judgement) → p ≡ q → these ≡ those
    → IsJudged held name p these j → IsJudged held name q those k → j ≡ k
judged_once once None told name p q these those j k same digests this that = absurd (both_ways false refl told)
judged_once once (Some files) told name p q these those j k same digests this that =
    judged_twice once files name q those j k (subst (λ (ds : List (List ℕ)). IsJudged (Some files) name q ds j) digests (subst (λ (r : PlainProgram). IsJudged (Some files) name r these j) same this)) that
