-- What bytes of the text of version 2 of claims come to, as `verify` says it.
use Rattle.std.proofs.Common.{◌≡◌, ◌≤◌, ◌∙◌, ℕ, List, length, Option, None, refl, sym, ap, subst, arith}
use Rattle.std.proofs.lemmas.Option.{none-some}
use Rattle.p10_cert.specs.Claims.{Claims}
use Rattle.p10_cert.specs.Statements.{Statement, IsStatement, plain_statement, statement_text}
use Rattle.p10_cert.proofs.TextLaws.{text_tells_statement}
use Rattle.p10_cert.proofs.VersionLaws.{plain_good, plain_text}
use Rattle.p10_check.specs.declared.verdict.Verdict.{Verdict}
use Rattle.p10_check.specs.declared.verdict.Verdict.TheVariants as verdicts
use Rattle.p10_check.specs.Conditions.{IsVerdict}
use Rattle.p10_check.specs.Texts.{StaleAt, claims_in, first_stale}
use Rattle.p10_check.proofs.TextVerdicts.{claims_back, never_wrong, plain_fresh}
use Rattle.p10_core.specs.Typed.{PlainProgram}
use Rattle.p10_judge.specs.declared.judgement.Judgement.{Judgement}
use Rattle.p10_judge.specs.declared.judgement.Judgement.TheVariants.{TooLong, BadCertificate, Stale, Failing, Accepted}
use Rattle.p10_diff_evidence.specs.Placing.{IsBad, no_line, no_rank}
use Rattle.p10_diff_evidence.specs.Standing.{diff_lines, AreRanks, standing_by}
use Rattle.p10_judge.specs.Judging.{HasVerdict, IsClaimed, IsOfOtherWords, IsWeighed}
use Rattle.p10_judge.specs.Loading.{certificate_limit}
use Rattle.p10_seal.specs.Laws.{SealedIsCertificate, SealedSaysTheSame}
use Rattle.p10_seal.specs.Sealing.{sealed}
use Rattle.p10_migrate_command.specs.Laws.{MigratedIsJudgedAlike}
use Rattle.p10_migrate_command.proofs.Sealed.{none_stale}

module _ (p : PlainProgram) (digests : List (List ℕ)) where
  -- claims have the verdict that they have in another certificate without ranks
  verdict_alike : (s t : Statement) (v : Verdict) → claims_in s ≡ claims_in t → diff_lines s ≡ diff_lines t → HasVerdict p s v → HasVerdict p t v
  verdict_alike s t v same lines has = record {
    ranked = record { ranks = has.ranked.ranks; are = subst (λ (ls : Option (List (List ℕ))). AreRanks ls has.ranked.ranks) lines has.ranked.are };
    is = subst (λ (c : Claims). IsVerdict (standing_by p has.ranked.ranks) p c v) same has.is;
  }

  -- they have it in one that speaks of the words, too
  claimed : (s t : Statement) (v : Verdict) → claims_in s ≡ claims_in t → diff_lines s ≡ diff_lines t → first_stale 0 t.entries digests ≡ None → IsStatement s → IsStatement t → length (statement_text t) ≤ certificate_limit → IsClaimed p digests (statement_text s) v → IsClaimed p digests (statement_text t) v
  claimed s t v same lines fresh good also short is =
      let read : is.certificate ≡ s = text_tells_statement is.certificate s is.read.is_certificate good (sym is.read.text_is) in
      record {
        certificate = t;
        read = record { short = short; text_is = refl; is_certificate = also };
        words = fresh;
        has = verdict_alike s t v same lines (subst (λ (u : Statement). HasVerdict p u v) read is.has);
      }

  -- a certificate that speaks of the words doesn't speak of others
  speaks : (s : Statement) (stale : StaleAt) → first_stale 0 s.entries digests ≡ None → IsStatement s → IsOfOtherWords digests (statement_text s) stale → ⊥
  speaks s stale fresh good is =
      let read : is.certificate ≡ s = text_tells_statement is.certificate s is.read.is_certificate good (sym is.read.text_is) in
      none-some stale (sym fresh ∙ ap (λ (t : Statement). first_stale 0 t.entries digests) (sym read) ∙ is.words)

  -- a certificate without ranks has no line of another form
  never_bad : (s : Statement) (line : ℕ) → diff_lines s ≡ None → IsStatement s → IsBad (statement_text s) line → ⊥
  never_bad s line none good (no_line wrong) = never_wrong (statement_text s) line s good refl wrong
  never_bad s line none good (no_rank t also exact other) =
      let same : t ≡ s = text_tells_statement t s also good (sym exact) in
      none-some other.lines (sym none ∙ ap diff_lines (sym same) ∙ other.there)

  alike : (s t : Statement) (judgement : Judgement) → claims_in s ≡ claims_in t → diff_lines s ≡ None → diff_lines t ≡ None → first_stale 0 s.entries digests ≡ None → first_stale 0 t.entries digests ≡ None → IsStatement s → IsStatement t
      → length (statement_text s) ≤ certificate_limit → length (statement_text t) ≤ certificate_limit → IsWeighed p digests (statement_text s) judgement → IsWeighed p digests (statement_text t) judgement
  alike s t TooLong same none none' fresh too good also short within long = absurd (omega (arith, short, long))
  alike s t (BadCertificate line) same none none' fresh too good also short within bad = absurd (never_bad s line none good bad.wrong)
  alike s t (Stale at kept found) same none none' fresh too good also short within is = absurd (speaks s is.0 fresh good is.1)
  alike s t (Failing k at) same none none' fresh too good also short within is = claimed s t (verdicts.Refused k at) same (none ∙ sym none') too good also within is
  alike s t (Accepted bounds) same none none' fresh too good also short within is = claimed s t (verdicts.Accepted bounds) same (none ∙ sym none') too good also within is

pub judged_alike : SealedIsCertificate → SealedSaysTheSame → MigratedIsJudgedAlike
judged_alike is_certificate says p digests c judgement each sized good short within =
    let same : claims_in (sealed c digests) ≡ claims_in (plain_statement c) = (λ i. record { funcs = (says c digests each).funcs i; total = c.total }) ∙ sym (claims_back c) in
    let fresh = none_stale 0 c.funcs digests.funcs in
    let too = plain_fresh 0 c.funcs digests.funcs in
    let sealed_good = is_certificate c digests good sized in
    let alone : length (statement_text (plain_statement c)) ≤ certificate_limit = subst (λ (t : List ℕ). length t ≤ certificate_limit) (sym (plain_text c)) within in (
      λ is. subst (λ (t : List ℕ). IsWeighed p digests.funcs t judgement) (plain_text c) (alike p digests.funcs (sealed c digests) (plain_statement c) judgement same refl refl fresh too sealed_good (plain_good c good) short alone is),
      λ is. alike p digests.funcs (plain_statement c) (sealed c digests) judgement (sym same) refl refl too fresh (plain_good c good) sealed_good alone short (subst (λ (t : List ℕ). IsWeighed p digests.funcs t judgement) (sym (plain_text c)) is),
    )
