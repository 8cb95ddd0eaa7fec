-- The earliest failing condition decides the verdict.
use Rattle.std.proofs.Common.{◌∙◌, ap}
use Rattle.std.specs.Prelude.{option_map}
use Rattle.p10_core.specs.Views.{plain_program}
use Rattle.p10_cert.specs.Claims.{claims_of}
use Rattle.p10_fit.specs.Fits.{unfit}
use Rattle.p10_check.specs.Conditions.{first_failing}
use Rattle.p10_pass.specs.Leaving.{failing_of}
use Rattle.p10_check.specs.Fails.{failures_of}
use Rattle.p10_check.specs.private.Firsts.{earliest_from, first_after}
use Rattle.p10_check.proofs.Earliest.{verdict_is}
use Rattle.p10_check.proofs.checking.check.Goals as goal

pub returns : goal.returns
returns g c =
    verdict_is (g.E.Evidence.standing c.args.evidence.now (plain_program c.args.program.now)) (plain_program c.args.program.now) (claims_of c.args.certificate.now) (failures_of c.in_ok-shape.shape.items)
    (option_map failing_of c.in_ok-first.first) c.verdict_by.result c.in_ok-shape.ensures
    (c.in_ok-first.ensures
    ∙ ap (λ fs. first_after (plain_program c.args.program.now) (unfit (plain_program c.args.program.now) (claims_of c.args.certificate.now)) (earliest_from (g.E.Evidence.standing c.args.evidence.now (plain_program c.args.program.now)) (plain_program c.args.program.now) (claims_of c.args.certificate.now) (first_failing (failures_of fs)) 0 (plain_program c.args.program.now).functions)) c.as_slice.ensures.value)
    c.verdict_by.ensures
