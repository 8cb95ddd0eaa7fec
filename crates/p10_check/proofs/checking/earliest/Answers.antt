-- One function more was looked at.
use Rattle.std.proofs.Common.{◌∙◌, ◌<◌, ◌≤◌, length, refl, ap, subst}
use Rattle.std.specs.Prelude.{option_map}
use Rattle.p10_core.specs.Views.{plain_program}
use Rattle.p10_cert.specs.Claims.{claims_of}
use Rattle.p10_check.specs.Conditions.{first_failing}
use Rattle.p10_pass.specs.Leaving.{failing_of}
use Rattle.p10_check.specs.Fails.{failures_of}
use Rattle.p10_check.specs.private.Firsts.{earlier}
use Rattle.p10_check.proofs.Earliest.{earliest_step, earliest_done}
use Rattle.p10_check.proofs.checking.earliest.Goals as goal

pub loop-number-init : goal.loop-number-init
loop-number-init g c = refl

pub loop-number-preserved : goal.loop-number-preserved
loop-number-preserved g c =
    earliest_step (g.E.Evidence.standing c.args.evidence.now (plain_program c.args.program.now)) (plain_program c.args.program.now) (claims_of c.args.certificate.now) c.args.program.now.functions c.loop-number.number
    (option_map failing_of c.loop-number.found) (option_map failing_of c.earlier-found.result) _ (failures_of c.in_ok-fails.fails.items)
    (subst (λ fs. c.loop-number.number < length fs) c.as_slice-count.ensures c.loop-number-test.true)
    c.in_ok-fails.ensures
    (c.earlier-found.ensures ∙ ap (earlier (option_map failing_of c.loop-number.found)) (c.first_fail.ensures ∙ ap (λ fs. first_failing (failures_of fs)) c.as_slice.ensures.value))
    c.loop-number.invariant

pub returns : goal.returns
returns g c =
    earliest_done (g.E.Evidence.standing c.args.evidence.now (plain_program c.args.program.now)) (plain_program c.args.program.now) (claims_of c.args.certificate.now) c.args.program.now.functions c.loop-number.number
    (option_map failing_of c.loop-number.found) _ (subst (λ fs. length fs ≤ c.loop-number.number) c.as_slice-count.ensures c.loop-number-test.false) c.loop-number.invariant
