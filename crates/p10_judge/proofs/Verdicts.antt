-- What the bytes of a certificate come to, by the verdict on them.
use Rattle.std.proofs.Common.{◌≡◌, ℕ, ◌≤◌, List, length, Option, Some, None, refl, subst}
use Rattle.p10_base.specs.declared.digest.Digest.{Digest}
use Rattle.p10_base.specs.declared.report.Bounds.{Bounds}
use Rattle.p10_base.specs.declared.span.Span.{Span}
use Rattle.p10_core.specs.Typed.{PlainProgram}
use Rattle.p10_cert.specs.Statements.{Statement, IsStatement, statement_text}
use Rattle.p10_check.specs.declared.verdict.Verdict.{Verdict}
use Rattle.p10_check.specs.declared.verdict.Verdict.TheVariants as verdicts
use Rattle.p10_check.specs.declared.verdict.TextVerdict.{TextVerdict}
use Rattle.p10_check.specs.declared.verdict.TextVerdict.TheVariants as said
use Rattle.p10_check.specs.Texts.{StaleAt, claims_in, first_stale, text_verdict, JudgesBy, IsTextVerdict}
use Rattle.p10_check.specs.Conditions.{IsVerdict}
use Rattle.p10_turns.specs.Evidence.{stands_by_ranges}
use Rattle.p10_diff.specs.Evidence.{Rank, stands_by_differences}
use Rattle.p10_diff_evidence.specs.declared.evidence.DiffEvidence.{DiffEvidence}
use Rattle.p10_diff_evidence.specs.Reading.{ranks_in}
use Rattle.p10_diff_evidence.specs.Standing.{diff_lines, AreRanks, standing_by}
use Rattle.p10_judge.specs.declared.judgement.Judgement.TheVariants.{BadCertificate, Stale}
use Rattle.p10_judge.specs.declared.ranks.Ranks.{Ranks}
use Rattle.p10_judge.specs.declared.ranks.Ranks.TheVariants.{Bad, Absent, Listed}
use Rattle.p10_diff_evidence.specs.Placing.{no_line}
use Rattle.p10_judge.specs.Judging.{IsCertificateOf, IsClaimed, IsWeighed, judgement_on}
use Rattle.p10_judge.specs.Loading.{certificate_limit}
use Rattle.p10_judge.specs.Ranks.{SayRanks, AreFound}

-- a verdict on claims is told as it is
same_accepted : (v : Verdict) (bounds : Bounds) → said.Accepted bounds ≡ text_verdict v → v ≡ verdicts.Accepted bounds
same_accepted (verdicts.Accepted b) bounds is = cc
same_accepted (verdicts.Refused k at) bounds is = cc

same_refused : (v : Verdict) (k : ℕ) (at : Span) → said.Refused k at ≡ text_verdict v → v ≡ verdicts.Refused k at
same_refused (verdicts.Accepted b) k at is = cc
same_refused (verdicts.Refused l there) k at is = cc

never_stale : (v : Verdict) (at : Span) (kept found : Digest) → said.Stale at kept found ≡ text_verdict v → ⊥
never_stale (verdicts.Accepted b) at kept found is = cc
never_stale (verdicts.Refused k there) at kept found is = cc

module _ (p : PlainProgram) (digests : List (List ℕ)) (bytes : List ℕ) (ranks : Option (List Rank)) (s : Statement) (read : IsCertificateOf bytes s) (are : AreRanks (diff_lines s) ranks) where
  accepted : (o : Option StaleAt) (bounds : Bounds) → first_stale 0 s.entries digests ≡ o → JudgesBy (standing_by p ranks) p (claims_in s) o (said.Accepted bounds) → IsClaimed p digests bytes (verdicts.Accepted bounds)
  accepted None bounds words (v, right, is) = record { certificate = s; read = read; words = words; has = record { ranked = record { ranks = ranks; are = are }; is = subst (IsVerdict (standing_by p ranks) p (claims_in s)) (same_accepted v bounds is) right } }
  accepted (Some stale) bounds words tells = absurd tells

  refused : (o : Option StaleAt) (k : ℕ) (at : Span) → first_stale 0 s.entries digests ≡ o → JudgesBy (standing_by p ranks) p (claims_in s) o (said.Refused k at) → IsClaimed p digests bytes (verdicts.Refused k at)
  refused None k at words (v, right, is) = record { certificate = s; read = read; words = words; has = record { ranked = record { ranks = ranks; are = are }; is = subst (IsVerdict (standing_by p ranks) p (claims_in s)) (same_refused v k at is) right } }
  refused (Some stale) k at words tells = absurd tells

  of_other_words : (o : Option StaleAt) (at : Span) (kept found : Digest) → first_stale 0 s.entries digests ≡ o → JudgesBy (standing_by p ranks) p (claims_in s) o (said.Stale at kept found) → IsWeighed p digests bytes (Stale at kept found)
  of_other_words None at kept found words (v, right, is) = absurd (never_stale v at kept found is)
  of_other_words (Some stale) at kept found words tells =
      (stale, record { certificate = s; read = read; ranked = record { ranks = ranks; are = are }; words = words }, record { place = tells.0; kept_is = tells.1; found_is = tells.2 })

pub weighed : (p : PlainProgram) (digests : List (List ℕ)) (bytes : List ℕ) (ranks : Option (List Rank)) (verdict : TextVerdict) → length bytes ≤ certificate_limit → SayRanks bytes ranks → IsTextVerdict (standing_by p ranks) p digests bytes verdict → IsWeighed p digests bytes (judgement_on verdict)
weighed p digests bytes ranks (said.BadLine line) short say wrong = record { short = short; wrong = no_line wrong }
weighed p digests bytes ranks (said.Accepted bounds) short say has =
    accepted p digests bytes ranks has.statement (record { short = short; text_is = has.exact; is_certificate = has.good }) (say has.statement has.good has.exact) (first_stale 0 has.statement.entries digests) bounds refl has.is
weighed p digests bytes ranks (said.Refused k at) short say has =
    refused p digests bytes ranks has.statement (record { short = short; text_is = has.exact; is_certificate = has.good }) (say has.statement has.good has.exact) (first_stale 0 has.statement.entries digests) k at refl has.is
weighed p digests bytes ranks (said.Stale at kept found) short say has =
    of_other_words p digests bytes ranks has.statement (record { short = short; text_is = has.exact; is_certificate = has.good }) (say has.statement has.good has.exact) (first_stale 0 has.statement.entries digests) at kept found refl has.is

-- bytes with a line of another form
pub bad_weighed : (p : PlainProgram) (digests : List (List ℕ)) (bytes : List ℕ) (found : Ranks) (line : ℕ) → length bytes ≤ certificate_limit → found ≡ Bad line → AreFound bytes found → IsWeighed p digests bytes (BadCertificate line)
bad_weighed p digests bytes found line short is bad = record { short = short; wrong = subst (AreFound bytes) is bad }

-- bytes whose ranks were found, or without them
pub absent_weighed : (p : PlainProgram) (digests : List (List ℕ)) (bytes : List ℕ) (found : Ranks) (verdict : TextVerdict) → length bytes ≤ certificate_limit → found ≡ Absent → AreFound bytes found → IsTextVerdict (stands_by_ranges p) p digests bytes verdict → IsWeighed p digests bytes (judgement_on verdict)
absent_weighed p digests bytes found verdict short is say has = weighed p digests bytes None verdict short (subst (AreFound bytes) is say) has

pub listed_weighed : (p : PlainProgram) (digests : List (List ℕ)) (bytes : List ℕ) (found : Ranks) (e : DiffEvidence) (verdict : TextVerdict) → length bytes ≤ certificate_limit → found ≡ Listed e → AreFound bytes found → IsTextVerdict (stands_by_differences (ranks_in e) p) p digests bytes verdict → IsWeighed p digests bytes (judgement_on verdict)
listed_weighed p digests bytes found e verdict short is say has = weighed p digests bytes (Some (ranks_in e)) verdict short (subst (AreFound bytes) is say) has
