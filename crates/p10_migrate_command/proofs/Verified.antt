-- The verdict on the text of version 2 of claims.
use Rattle.std.proofs.Common.{◌≡◌, ℕ, ◌∙◌, List, Option, None, refl, sym, subst}
use Rattle.p10_cert.specs.Claims.{Claims}
use Rattle.p10_cert.specs.Statements.{Statement, IsStatement, plain_statement, statement_text}
use Rattle.p10_cert.proofs.TextLaws.{text_tells_statement}
use Rattle.p10_cert.proofs.VersionLaws.{plain_good, plain_text}
use Rattle.p10_check.specs.declared.verdict.TextVerdict.{TextVerdict}
use Rattle.p10_check.specs.declared.verdict.TextVerdict.TheVariants.{BadLine, Accepted, Refused, Stale}
use Rattle.p10_check.specs.Passes.{Standing}
use Rattle.p10_check.specs.Texts.{IsStatementVerdict, IsTextVerdict, JudgesBy, StaleAt, claims_in, first_stale, TextHasVerdict}
use Rattle.p10_check.proofs.TextVerdicts.{claims_back, has_verdict, never_wrong, plain_fresh}
use Rattle.p10_core.specs.Typed.{PlainProgram}
use Rattle.p10_seal.specs.Laws.{SealedIsCertificate, SealedSaysTheSame}
use Rattle.p10_seal.specs.Sealing.{sealed}
use Rattle.p10_migrate_command.specs.Laws.{MigratedIsVerifiedAlike}
use Rattle.p10_migrate_command.proofs.Sealed.{none_stale}

module _ (stands : Standing) (p : PlainProgram) (digests : List (List ℕ)) where
  -- the verdict on the text of a certificate is that on what it says
  of_has : (s : Statement) (verdict : TextVerdict) → IsStatement s → TextHasVerdict stands p digests (statement_text s) verdict → IsStatementVerdict stands p digests s verdict
  of_has s verdict good has = subst (λ (t : Statement). IsStatementVerdict stands p digests t verdict) (text_tells_statement has.statement s has.good good (sym has.exact)) has.is

  of_text : (s : Statement) (verdict : TextVerdict) → IsStatement s → IsTextVerdict stands p digests (statement_text s) verdict → IsStatementVerdict stands p digests s verdict
  of_text s (BadLine line) good wrong = absurd (never_wrong (statement_text s) line s good refl wrong)
  of_text s (Accepted total) good has = of_has s (Accepted total) good has
  of_text s (Refused k at) good has = of_has s (Refused k at) good has
  of_text s (Stale at kept found) good has = of_has s (Stale at kept found) good has

  -- it goes by the claims where no digest differs
  like : (s t : Statement) (verdict : TextVerdict) → claims_in s ≡ claims_in t → first_stale 0 s.entries digests ≡ None → first_stale 0 t.entries digests ≡ None → IsStatement s → IsStatement t
      → IsTextVerdict stands p digests (statement_text s) verdict → IsTextVerdict stands p digests (statement_text t) verdict
  like s t verdict same fresh too good also is =
      let there : JudgesBy stands p (claims_in s) (first_stale 0 t.entries digests) verdict = subst (λ (o : Option StaleAt). JudgesBy stands p (claims_in s) o verdict) (fresh ∙ sym too) (of_text s verdict good is) in
      has_verdict stands p digests (statement_text t) t verdict also refl (subst (λ (c : Claims). JudgesBy stands p c (first_stale 0 t.entries digests) verdict) same there)

pub verified_alike : SealedIsCertificate → SealedSaysTheSame → MigratedIsVerifiedAlike
verified_alike is_certificate says stands p digests c verdict each sized good =
    let same : claims_in (sealed c digests) ≡ claims_in (plain_statement c) = (λ i. record { funcs = (says c digests each).funcs i; total = c.total }) ∙ sym (claims_back c) in
    let fresh = none_stale 0 c.funcs digests.funcs in
    let too = plain_fresh 0 c.funcs digests.funcs in
    let sealed_good = is_certificate c digests good sized in (
      λ is. subst (λ (t : List ℕ). IsTextVerdict stands p digests.funcs t verdict) (plain_text c) (like stands p digests.funcs (sealed c digests) (plain_statement c) verdict same fresh too sealed_good (plain_good c good) is),
      λ is. like stands p digests.funcs (plain_statement c) (sealed c digests) verdict (sym same) too fresh (plain_good c good) sealed_good (subst (λ (t : List ℕ). IsTextVerdict stands p digests.funcs t verdict) (sym (plain_text c)) is),
    )
