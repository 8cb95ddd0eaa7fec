-- Derivation answers one thing of a program.
use Rattle.std.proofs.Common.{◌≡◌, ◌⊎◌, inl, inr, List, [], sym, ap, ◌∙◌, subst}
use Rattle.p10_base.specs.declared.span.Span.{Span}
use Rattle.p10_base.specs.declared.report.Sub.{Sub}
use Rattle.p10_base.specs.declared.report.Violation.{Violation}
use Rattle.p10_base.specs.declared.report.Limit.{Limit}
use Rattle.p10_base.specs.declared.report.TheConstants.Limit.{SUM, CERTIFICATE_BYTES}
use Rattle.p10_core.specs.Typed.{PlainProgram}
use Rattle.p10_cert.specs.Claims.{Claims}
use Rattle.p10_finder.specs.Laws.{DerivesOnce}
use Rattle.p10_finder.specs.Answers.{HaveResults, ViolatesBounds, no_bound, flow, AreViolations, PassesSum, PassesText, Violating, Over, Certified, IsViolating, Claiming, PassesLimit, IsCertified}
use Rattle.p10_finder.proofs.SameBounds.{lacks_same}
use Rattle.p10_finder.proofs.ViolationOrder.{one_list}
use Rattle.p10_finder.proofs.OneClaims.{claims_have_results, one_claims}
use Rattle.p10_approach.specs.Offers.{Offers}

-- ## Violations

-- what is violated under some claims with the program's results is so under others
pub violates_same : (o : Offers) (p : PlainProgram) (c d : Claims) → HaveResults o p c → HaveResults o p d → (sub : Sub) (span : Span) → ViolatesBounds o p c sub span → ViolatesBounds o p d sub span
violates_same o p c d first second _ _ (no_bound span l) = no_bound span (lacks_same o p c d span first second l)
violates_same o p c d first second _ _ (flow sub span v) = flow sub span v

-- the violations of a program are one list
violations_one : (o : Offers) (p : PlainProgram) (c d : Claims) (xs ys : List Violation) → HaveResults o p c → HaveResults o p d → AreViolations o p c xs → AreViolations o p d ys → xs ≡ ys
violations_one o p c d xs ys first second these those =
    one_list xs ys these.sorted those.sorted (λ v held. (those.exact v).1 (violates_same o p c d first second v.sub v.span ((these.exact v).0 held)))
    (λ v held. (these.exact v).1 (violates_same o p d c second first v.sub v.span ((those.exact v).0 held)))

-- a program with violations has no claims without them
not_both : (o : Offers) (p : PlainProgram) (found : List Violation) (c : Claims) → IsViolating o p found → Claiming o p c → ⊥
not_both o p found c is claiming = is.some (violations_one o p is.all.claims c found [] is.all.right (claims_have_results o p c claiming.claims) is.all.all claiming.lawful)

-- ## Limits

-- the certificate that exceeds the limit is this one
passes_this : (o : Offers) (p : PlainProgram) (limit : Limit) (c : Claims) (is : PassesLimit o p limit) → Claiming o p c → ((limit ≡ SUM) × PassesSum p c) ⊎ ((limit ≡ CERTIFICATE_BYTES) × (PassesSum p c → ⊥) × PassesText c)
passes_this o p limit c is claiming =
    subst (λ (d : Claims). ((limit ≡ SUM) × PassesSum p d) ⊎ ((limit ≡ CERTIFICATE_BYTES) × (PassesSum p d → ⊥) × PassesText d)) (one_claims o p is.certificate c is.claims.claims claiming.claims) is.passes

one_limit : (p : PlainProgram) (c : Claims) (this that : Limit) → ((this ≡ SUM) × PassesSum p c) ⊎ ((this ≡ CERTIFICATE_BYTES) × (PassesSum p c → ⊥) × PassesText c)
    → ((that ≡ SUM) × PassesSum p c) ⊎ ((that ≡ CERTIFICATE_BYTES) × (PassesSum p c → ⊥) × PassesText c) → this ≡ that
one_limit p c this that (inl (is, passes)) (inl (are, passes2)) = is ∙ sym are
one_limit p c this that (inl (is, passes)) (inr (are, keeps, text)) = absurd (keeps passes)
one_limit p c this that (inr (is, keeps, text)) (inl (are, passes)) = absurd (keeps passes)
one_limit p c this that (inr (is, keeps, text)) (inr (are, keeps2, text2)) = is ∙ sym are

-- a program whose certificate exceeds a limit isn't certified
not_certified : (o : Offers) (p : PlainProgram) (limit : Limit) (c : Claims) → PassesLimit o p limit → IsCertified o p c → ⊥
not_certified o p limit c is certified = at (passes_this o p limit c is certified.claims)
  where
    at : ((limit ≡ SUM) × PassesSum p c) ⊎ ((limit ≡ CERTIFICATE_BYTES) × (PassesSum p c → ⊥) × PassesText c) → ⊥
    at (inl (is, passes)) = certified.sums passes
    at (inr (is, keeps, text)) = certified.text text

-- ## Answers

pub derives_once : DerivesOnce
derives_once o p (Violating these) (Violating those) this that = ap Violating (violations_one o p this.all.claims that.all.claims these those this.all.right that.all.right this.all.all that.all.all)
derives_once o p (Violating these) (Over limit) this that = absurd (not_both o p these that.certificate this that.claims)
derives_once o p (Violating these) (Certified c) this that = absurd (not_both o p these c this that.claims)
derives_once o p (Over limit) (Violating those) this that = absurd (not_both o p those this.certificate that this.claims)
derives_once o p (Over limit) (Over other) this that = ap Over (one_limit p that.certificate limit other (passes_this o p limit that.certificate this that.claims) that.passes)
derives_once o p (Over limit) (Certified c) this that = absurd (not_certified o p limit c this that)
derives_once o p (Certified c) (Violating those) this that = absurd (not_both o p those c that this.claims)
derives_once o p (Certified c) (Over limit) this that = absurd (not_certified o p limit c that this)
derives_once o p (Certified c) (Certified d) this that = ap Certified (one_claims o p c d this.claims.claims that.claims.claims)
