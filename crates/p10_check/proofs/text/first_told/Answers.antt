-- K1 comes before the conditions that ask for it.
use Rattle.std.proofs.Common.{◌∙◌, Option, Some, ap, sym}
use Rattle.std.specs.Prelude.{option_map}
use Rattle.std.proofs.lemmas.Result.{IfOk-weaker}
use Rattle.p10_base.specs.declared.span.Span.{Span}
use Rattle.p10_core.specs.Views.{plain_program}
use Rattle.p10_fit.specs.Fits.{unfit}
use Rattle.p10_pass.specs.Leaving.{failing_of}
use Rattle.p10_pass.specs.Passing.{Failing}
use Rattle.p10_check.specs.Conditions.{first_failing}
use Rattle.p10_check.specs.Fails.{failures_of}
use Rattle.p10_check.specs.Texts.{claims_in}
use Rattle.p10_check.specs.private.Firsts.{earliest_from, first_after}
use Rattle.p10_check.proofs.Telling.{fitting_length}
use Rattle.p10_check.proofs.text.first_told.Goals as goal

-- K1 at a place
abbrev fails_at : Span → Option Failing
fails_at at = Some (record { k = 1; at = at })

pub returns-in-Some : goal.returns-in-Some
returns-in-Some g c =
    let p = plain_program c.args.program.now in
    let stands = g.E.Evidence.standing c.args.evidence.now p in
    λ digests s good told.
    ap fails_at c.name_at.ensures
    ∙ ap (λ o. first_after p o (earliest_from stands p (claims_in s) (first_failing (failures_of c.args.shape.now)) 0 p.functions)) (sym c.in-Some.is ∙ told.unfit)

pub returns-in-None : goal.returns-in-None
returns-in-None g c =
    let p = plain_program c.args.program.now in
    let stands = g.E.Evidence.standing c.args.evidence.now p in
    IfOk-weaker c.earliest_in_text.result _ _
    (λ found earliest digests s good told.
    let fits = sym c.in-None.is ∙ told.unfit in
    earliest s good told.kept (fitting_length p 0 p.functions (claims_in s).funcs (sym fits))
    ∙ ap (λ first. earliest_from stands p (claims_in s) first 0 p.functions) c.first_fail-first.ensures
    ∙ ap (λ o. first_after p o (earliest_from stands p (claims_in s) (first_failing (failures_of c.args.shape.now)) 0 p.functions)) fits)
    c.earliest_in_text.ensures
