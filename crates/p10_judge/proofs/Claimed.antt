-- What the bytes of a certificate come to, by what was read of them.
use Rattle.std.proofs.Common.{◌≡◌, ◌∙◌, ℕ, List, map, refl, sym, ap, subst, Option, Some, None, Result, Ok, Err, IfOk}
use Rattle.std.specs.Prelude.{option_map}
use Rattle.p10_base.specs.declared.digest.Digest.{Digest}
use Rattle.p10_base.specs.declared.report.Bounds.{Bounds}
use Rattle.p10_base.specs.declared.span.Span.{Span}
use Rattle.p10_core.specs.Typed.{PlainProgram}
use Rattle.p10_cert.specs.declared.claims.Cert.{Cert}
use Rattle.p10_cert.specs.Claims.{Claims, claims_of}
use Rattle.p10_cert.specs.Statements.{Statement}
use Rattle.p10_check.specs.declared.verdict.Verdict.{Verdict}
use Rattle.p10_check.specs.declared.verdict.Verdict.TheVariants as verdicts
use Rattle.p10_check.specs.Conditions.{IsVerdict}
use Rattle.p10_check.specs.Passes.{Standing}
use Rattle.p10_check.specs.Places.{name_at}
use Rattle.p10_check.specs.Texts.{StaleAt, claims_in, first_stale}
use Rattle.p10_check.proofs.Holding.{accepted_hold}
use Rattle.p10_diff_evidence.specs.declared.evidence.DiffEvidence.{DiffEvidence}
use Rattle.p10_diff_evidence.specs.Reading.{ranks_in}
use Rattle.p10_diff_evidence.specs.Standing.{standing_by}
use Rattle.p10_judge.specs.declared.judgement.Judgement.TheVariants.{BadCertificate, Stale as StaleJudgement}
use Rattle.p10_judge.specs.declared.reading.Text.{Text}
use Rattle.p10_judge.specs.declared.reading.Text.TheVariants.{Bad, Whole}
use Rattle.p10_judge.specs.declared.stale.Stale.{Stale}
use Rattle.p10_judge.specs.declared.whole.Weighed.{Weighed}
use Rattle.p10_judge.specs.declared.whole.Weighed.TheVariants as whole
use Rattle.p10_judge.specs.Judging.{HasVerdict, IsCertificateOf}
use Rattle.p10_judge.specs.Kept.{IsReadAs, IsReadFrom, kept_of, stale_among, stale_of}
use Rattle.p10_judge.specs.Whole.{IsWeighedWhole}
use Rattle.p10_judge.specs.private.Weighing.{IsShort, IsTried, weighed_by}
use Rattle.p10_judge.proofs.Differing.{among_entries}

pub tried : (stands : Standing) (p : PlainProgram) (c : Cert) (v : Verdict) (weighed : Weighed) → IsVerdict stands p (claims_of c) v → weighed ≡ weighed_by c v → IsTried stands p c weighed
tried stands p c v weighed has is = record { verdict = v; has = has; is = is }

-- an accepted certificate bounds runs by its total
total_told : (stands : Standing) (p : PlainProgram) (c : Claims) (bounds : Bounds) → IsVerdict stands p c (verdicts.Accepted bounds) → IsVerdict stands p c (verdicts.Accepted c.total)
total_told stands p c bounds has = subst (λ b. IsVerdict stands p c (verdicts.Accepted b)) (accepted_hold stands p c bounds has).0 has

module _ (p : PlainProgram) (digests : List (List ℕ)) (bytes : List ℕ) (short : IsShort bytes) (e : Option DiffEvidence) where
  certificate_of : (c : Cert) (kept : List (Option Digest)) (read : IsReadAs bytes c kept e) → IsCertificateOf bytes read.statement
  certificate_of c kept read = record { short = short; text_is = read.exact; is_certificate = read.good }

  -- the digests that are kept tell of which function the words are others
  words_of : (c : Cert) (kept : List (Option Digest)) (read : IsReadAs bytes c kept e) → first_stale 0 read.statement.entries digests ≡ stale_among 0 (map kept_of kept) digests
  words_of c kept read = among_entries 0 read.statement.entries digests ∙ ap (λ (k : List (Option (List ℕ))). stale_among 0 k digests) (sym read.kept_are)

  -- the ranks stand for the certificate's loops, too
  has_verdict : (c : Cert) (kept : List (Option Digest)) (v : Verdict) (read : IsReadAs bytes c kept e) → IsVerdict (standing_by p (option_map ranks_in e)) p (claims_of c) v → HasVerdict p read.statement v
  has_verdict c kept v read has =
      record { ranked = record { ranks = option_map ranks_in e; are = read.ranks_are }; is = subst (λ (d : Claims). IsVerdict (standing_by p (option_map ranks_in e)) p d v) read.claims_are has }

  by_verdict : (c : Cert) (kept : List (Option Digest)) (v : Verdict) → IsReadAs bytes c kept e → stale_among 0 (map kept_of kept) digests ≡ None → IsVerdict (standing_by p (option_map ranks_in e)) p (claims_of c) v → IsWeighedWhole p digests bytes (weighed_by c v)
  by_verdict c kept (verdicts.Refused k at) read fresh has =
      (record { certificate = read.statement; read = certificate_of c kept read; words = words_of c kept read ∙ fresh; has = has_verdict c kept (verdicts.Refused k at) read has }, tt)
  by_verdict c kept (verdicts.Accepted bounds) read fresh has =
      record {
        certificate = read.statement;
        read = certificate_of c kept read;
        words = words_of c kept read ∙ fresh;
        claims_are = read.claims_are;
        has = has_verdict c kept (verdicts.Accepted (claims_of c).total) read (total_told (standing_by p (option_map ranks_in e)) p (claims_of c) bounds has);
      }

  by_trial : (c : Cert) (kept : List (Option Digest)) (weighed : Weighed) → IsReadAs bytes c kept e → stale_among 0 (map kept_of kept) digests ≡ None → IsTried (standing_by p (option_map ranks_in e)) p c weighed → IsWeighedWhole p digests bytes weighed
  by_trial c kept weighed read fresh trial = subst (IsWeighedWhole p digests bytes) (sym trial.is) (by_verdict c kept trial.verdict read fresh trial.has)

  -- claims of other words
  pub stale_weighed : (c : Cert) (kept : List (Option Digest)) (found : Option Stale) (stale : Stale) (at : Span) → IsReadAs bytes c kept e → option_map stale_of found ≡ stale_among 0 (map kept_of kept) digests → found ≡ Some stale → at ≡ name_at p stale.number
      → IsWeighedWhole p digests bytes (whole.Refused (StaleJudgement at stale.kept stale.found))
  stale_weighed c kept found stale at read told is place = (
    (
      stale_of stale,
      record { certificate = read.statement; read = certificate_of c kept read; ranked = record { ranks = option_map ranks_in e; are = read.ranks_are }; words = words_of c kept read ∙ sym told ∙ ap (option_map stale_of) is },
      record { place = place; kept_is = refl; found_is = refl },
    ),
    tt,
  )

-- claims of these words come to what their conditions are found to be
pub claims_weighed : {E : Type 0} (p : PlainProgram) (digests : List (List ℕ)) (evidence : Option DiffEvidence) (c : Cert) (kept : List (Option Digest)) (found : Option Stale) (r : Result Weighed E) → option_map stale_of found ≡ stale_among 0 (map kept_of kept) digests → found ≡ None
    → IfOk r (IsTried (standing_by p (option_map ranks_in evidence)) p c) → IfOk r (λ w. (bytes : List ℕ) → IsShort bytes → IsReadAs bytes c kept evidence → IsWeighedWhole p digests bytes w)
claims_weighed p digests evidence c kept found (Ok weighed) told is trial = λ bytes short read. by_trial p digests bytes short evidence c kept weighed read (sym told ∙ ap (option_map stale_of) is) trial
claims_weighed p digests evidence c kept found (Err e) told is trial = tt

-- ## Texts

pub wrong_line : (p : PlainProgram) (digests : List (List ℕ)) (bytes : List ℕ) (text : Text) (line : ℕ) → IsShort bytes → text ≡ Bad line → IsReadFrom bytes text → IsWeighedWhole p digests bytes (whole.Refused (BadCertificate line))
wrong_line p digests bytes text line short is read = (record { short = short; wrong = subst (IsReadFrom bytes) is read }, tt)

pub whole_weighed : {E : Type 0} (p : PlainProgram) (digests : List (List ℕ)) (bytes : List ℕ) (text : Text) (c : Cert) (kept slice : List (Option Digest)) (e : Option DiffEvidence) (r : Result Weighed E) → IsShort bytes → text ≡ Whole c kept e → IsReadFrom bytes text → slice ≡ kept
    → IfOk r (λ w. (b : List ℕ) → IsShort b → IsReadAs b c slice e → IsWeighedWhole p digests b w) → IfOk r (IsWeighedWhole p digests bytes)
whole_weighed p digests bytes text c kept slice e (Err fault) short is read same comes = tt
whole_weighed p digests bytes text c kept slice e (Ok w) short is read same comes = comes bytes short (subst (λ (k : List (Option Digest)). IsReadAs bytes c k e) (sym same) (subst (IsReadFrom bytes) is read))
