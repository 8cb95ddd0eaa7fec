use Rattle.std.proofs.Common.{◌∙◌, ap}
use Rattle.p10_core.specs.Views.{plain_program}
use Rattle.p10_cert.specs.Claims.{func_of}
use Rattle.p10_check.specs.private.Readings.{misfit_by, misfit_at}
use Rattle.p10_check.proofs.reading.misfit_at.Goals as goal

pub returns-in_ok-fits-in-Some : goal.returns-in_ok-fits-in-Some
returns-in_ok-fits-in-Some c =
    c.misfit_by.ensures
    ∙ ap (λ fits. misfit_by fits c.args.number) c.in_ok-fits-in-Some.ensures
    ∙ ap (misfit_at (plain_program c.args.program.now) c.args.number (func_of c.args.own.now)) c.in-Some.ensures

pub returns-in-None : goal.returns-in-None
returns-in-None c = ap (misfit_at (plain_program c.args.program.now) c.args.number (func_of c.args.own.now)) c.in-None.ensures
