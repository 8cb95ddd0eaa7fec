-- K0 comes before the other conditions.
use Rattle.std.proofs.Common.{◌∙◌, ap, sym, subst}
use Rattle.std.specs.Prelude.{option_map}
use Rattle.std.proofs.lemmas.Result.{IfOk-weaker}
use Rattle.p10_core.specs.Views.{plain_program}
use Rattle.p10_check.specs.Texts.{claims_in, JudgesBy}
use Rattle.p10_check.specs.private.Readings.{stale_of}
use Rattle.p10_check.proofs.text.verdict_told.Goals as goal

pub returns-in-Some : goal.returns-in-Some
returns-in-Some g c =
    let p = plain_program c.args.program.now in
    λ digests s good told.
    subst (λ o. JudgesBy (g.E.Evidence.standing c.args.evidence.now p) p (claims_in s) o c.stale_verdict.result) (ap (option_map stale_of) (sym c.in-Some.is) ∙ told.stale) c.stale_verdict.ensures

pub returns-in-None : goal.returns-in-None
returns-in-None g c =
    let p = plain_program c.args.program.now in
    IfOk-weaker c.verdict_on_claims.result _ _
    (λ verdict judged digests s good told.
    subst (λ o. JudgesBy (g.E.Evidence.standing c.args.evidence.now p) p (claims_in s) o verdict) (ap (option_map stale_of) (sym c.in-None.is) ∙ told.stale) (judged digests s good told))
    c.verdict_on_claims.ensures
