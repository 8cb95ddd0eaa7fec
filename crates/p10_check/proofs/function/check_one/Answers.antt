-- What the pass finds, and then what the sums do.
use Rattle.std.proofs.Common.{◌∙◌, ◌++◌, ap}
use Rattle.p10_core.specs.Views.{plain_function, plain_program}
use Rattle.p10_cert.specs.Claims.{claims_of}
use Rattle.p10_pass.specs.Findings.{findings_of}
use Rattle.p10_check.specs.Passes.{left_by}
use Rattle.p10_check.specs.Fails.{failures_of}
use Rattle.p10_check.specs.private.Ranked.{found_failures}
use Rattle.p10_check.proofs.Functions.{one_told}
use Rattle.p10_check.proofs.function.check_one.Goals as goal

pub returns-in_ok-push_short-in-Some : goal.returns-in_ok-push_short-in-Some
returns-in_ok-push_short-in-Some g c =
    one_told (g.E.Evidence.standing c.args.evidence.now (plain_program c.args.program.now)) (plain_program c.args.program.now) (claims_of c.args.certificate.now) c.args.number (plain_function c.in-Some.function.now) _
    (failures_of c.push_passed.new.failing.items) (failures_of c.push_short.new.failing.items) c.in-Some.ensures
    (c.in_ok-push_passed-in-Some.ensures
    ∙ ap (λ xs. failures_of xs ++ found_failures (g.E.Evidence.standing c.args.evidence.now (plain_program c.args.program.now)) (claims_of c.args.certificate.now) c.args.number (findings_of (left_by (plain_program c.args.program.now) (claims_of c.args.certificate.now) c.args.number))) c.new-failing.ensures.items)
    c.in_ok-push_short-in-Some.ensures
