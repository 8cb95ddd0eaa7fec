-- The verdict is that by the first condition that fails.
use Rattle.std.proofs.Common.{◌∙◌, ap}
use Rattle.std.specs.Prelude.{option_map}
use Rattle.p10_core.specs.Views.{plain_program}
use Rattle.p10_cert.specs.Claims.{claims_of}
use Rattle.p10_fit.specs.Fits.{unfit}
use Rattle.p10_pass.specs.Leaving.{failing_of}
use Rattle.p10_check.specs.Conditions.{first_failing, verdict_by}
use Rattle.p10_check.specs.Fails.{failures_of}
use Rattle.p10_check.specs.Texts.{claims_in}
use Rattle.p10_check.specs.private.Firsts.{earliest_from, first_after}
use Rattle.p10_check.specs.private.Keeping.{claims_kept, lines_kept}
use Rattle.p10_check.proofs.ByTurn.{shape_told}
use Rattle.p10_check.proofs.Earliest.{verdict_is}
use Rattle.p10_check.proofs.Keeping.{alike}
use Rattle.p10_check.proofs.text.verdict_on_claims.Goals as goal

pub returns : goal.returns
returns g c =
    let p = plain_program c.args.program.now in
    let stands = g.E.Evidence.standing c.args.evidence.now p in
    let before = c.args.told.now in
    λ digests s good told. (
      c.verdict_by.result,
      verdict_is stands p (claims_in s) (failures_of c.in_ok-shape.shape.items) (option_map failing_of c.in_ok-first.first) c.verdict_by.result
          (shape_told p (claims_of before.kept.certificate) (claims_in s) before.turn (failures_of c.in_ok-shape.shape.items) (alike s.entries (claims_kept before.kept) (lines_kept before.kept) told.kept) told.total told.turn c.in_ok-shape.ensures)
          (c.in_ok-first.ensures digests s good told
          ∙ ap (λ fs. first_after p (unfit p (claims_in s)) (earliest_from stands p (claims_in s) (first_failing (failures_of fs)) 0 p.functions)) c.as_slice.ensures.value)
          (c.verdict_by.ensures ∙ ap (λ total. verdict_by total (option_map failing_of c.in_ok-first.first)) told.total),
      c.text_verdict.ensures,
    )
